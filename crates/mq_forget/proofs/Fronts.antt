-- Each prefix of a legal history is legal.
use Rattle.mq_forget.proofs.Words.{All, All-map, Entry, Id, In, IsLegal, IsRequest, List, None, Option, Reply, Request, Some, [], answer, ap, append-nil, append_assoc, arith, either, entry, false, fresh_reply, history_of, id_of, inl, inr, is_some, known_by, length, map, map-append, refl}
use Rattle.mq_forget.proofs.Words.{replies_after, reply, requests, subst, sym, take, true, with_arrival, with_arrival_by, ℕ, ◌++◌, ◌∙◌, ◌∷◌, ◌≡◌, ◌≤◌}
use Rattle.std.proofs.Common.{length-append}
use Rattle.std.proofs.lemmas.List.{append_cancel_left, length-map}
use Rattle.std.proofs.lemmas.List.Elements.{All-take}
use Rattle.std.proofs.Math.Seq.{take-append_seam}
use Rattle.mq_ledger.specs.Answer.{replies}

pub record Builds (day : ℕ → ℕ) (default : ℕ) : Type 0 where
  pub legal : (A : List Request) → All IsRequest A → IsLegal day default (history_of day default A)
  pub arrived : (A : List Request) (r : Request) → history_of day default (A ++ r ∷ []) ≡ with_arrival day default (history_of day default A) r
  pub again : (H : List Entry) → IsLegal day default H → history_of day default (requests H) ≡ H

-- equal wholes of equally long prefixes
same_front : {X : Type 0} (a b c d : List X) → length a ≡ length b → a ++ c ≡ b ++ d → a ≡ b
same_front a b c d len same = sym (take-append_seam a c) ∙ ap (λ n. take n (a ++ c)) len ∙ ap (take (length b)) same ∙ take-append_seam b d

pub record Grown (H K : List Entry) (n : ℕ) : Type 0 where
  pub rest : List Entry
  pub is : K ≡ H ++ rest
  pub few : length rest ≤ n

module _ (day : ℕ → ℕ) (default : ℕ) (laws : Builds day default) where
  one_by : (H : List Entry) (r : Request) (o : Option Id) → Grown H (with_arrival_by day default H r o) 1
  one_by H r None = record { rest = []; is = sym (append-nil H); few = omega arith }
  one_by H r (Some id) = elim (either (known_by H (Some id))) [
    | inl known ↦ record { rest = []; is = rw known (sym (append-nil H)); few = omega arith }
    | inr new ↦ record { rest = entry r (answer day default H r) ∷ []; is = rw new refl; few = omega arith }
  ]

  -- more arrivals add at most as many entries
  grows : (A B : List Request) → Grown (history_of day default A) (history_of day default (A ++ B)) (length B)
  grows A [] = record { rest = []; is = ap (history_of day default) (append-nil A) ∙ sym (append-nil (history_of day default A)); few = omega arith }
  grows A (r ∷ B) =
      let one = one_by (history_of day default A) r (id_of r) in
      let more = grows (A ++ r ∷ []) B in
      let first : history_of day default (A ++ r ∷ []) ≡ history_of day default A ++ one.rest = laws.arrived A r ∙ one.is in
      record {
        rest = one.rest ++ more.rest;
        is = ap (history_of day default) (sym (append_assoc A (r ∷ []) B)) ∙ more.is ∙ ap (λ x. x ++ more.rest) first ∙ append_assoc (history_of day default A) one.rest more.rest;
        few = omega (arith, one.few, more.few, length-append one.rest more.rest);
      }

  short : (A : List Request) → length (history_of day default A) ≤ length A
  short A = (let g = grows [] A in omega (arith, ap length g.is, g.few))

  -- what the requests of a front build is the front
  pub front_built : (H S : List Entry) → IsLegal day default (H ++ S) → history_of day default (requests H) ≡ H
  front_built H S legal =
      let g = grows (requests H) (requests S) in
      let whole : history_of day default (requests H) ++ g.rest ≡ H ++ S =
      sym g.is ∙ ap (history_of day default) (sym (map-append (λ (e : Entry). e.request) H S)) ∙ laws.again (H ++ S) legal in
      let len : length (history_of day default (requests H)) ≡ length H = omega (arith, ap length whole, length-append (history_of day default (requests H)) g.rest, length-append H S, g.few, short (requests H), length-map H (λ (e : Entry). e.request), length-map S (λ (e : Entry). e.request)) in
      same_front (history_of day default (requests H)) H g.rest S len whole

  pub front_legal : (H S : List Entry) → IsLegal day default (H ++ S) → IsLegal day default H
  front_legal H S legal =
      let P : Entry → Type 0 = λ e. IsRequest e.request in
      let range : All P H = subst (All P) (take-append_seam H S) (All-take P (length H) (H ++ S) legal.range) in
      subst (IsLegal day default) (front_built H S legal) (laws.legal (requests H) (All-map IsRequest (λ e. e.request) H range))

  pub record IsNext (H : List Entry) (e : Entry) : Type 0 where
    pub fresh : known_by H (id_of e.request) ≡ false
    pub numbered : is_some (id_of e.request) ≡ true
    pub answered : e.reply ≡ answer day default H e.request

  too_long : (H : List Entry) (e : Entry) → H ++ e ∷ [] ≡ H → ⊥
  too_long H e same = omega (arith, ap length same, length-append H (e ∷ []))

  next_by : (H : List Entry) (e : Entry) (o : Option Id) → with_arrival_by day default H e.request o ≡ H ++ e ∷ [] → (known_by H o ≡ false) × (is_some o ≡ true) × (e.reply ≡ answer day default H e.request)
  next_by H e None same = absurd (too_long H e (sym same))
  next_by H e (Some id) same = elim (either (known_by H (Some id))) [
    | inl known ↦ (let one : H ≡ H ++ e ∷ [] = rw known at same in absurd (too_long H e (sym one)))
    | inr new ↦ (let one : H ++ entry e.request (answer day default H e.request) ∷ [] ≡ H ++ e ∷ [] = rw new at same in
        let is : entry e.request (answer day default H e.request) ∷ [] ≡ e ∷ [] = append_cancel_left H _ _ one in
        (new, refl, ap reply_in (sym is)))
  ] where
    reply_in : List Entry → Reply
    reply_in [] = answer day default H e.request
    reply_in (x ∷ xs) = x.reply

  pub next : (H S : List Entry) (e : Entry) → IsLegal day default (H ++ e ∷ S) → IsNext H e
  next H S e legal =
      let longer : IsLegal day default ((H ++ e ∷ []) ++ S) = subst (IsLegal day default) (sym (append_assoc H (e ∷ []) S)) legal in
      let here : history_of day default (requests H) ≡ H = front_built H (e ∷ S) legal in
      let there : history_of day default (requests (H ++ e ∷ [])) ≡ H ++ e ∷ [] = front_built (H ++ e ∷ []) S longer in
      let step : with_arrival day default H e.request ≡ H ++ e ∷ [] =
      ap (λ x. with_arrival day default x e.request) (sym here) ∙ sym (laws.arrived (requests H) e.request) ∙ ap (history_of day default) (sym (map-append (λ (x : Entry). x.request) H (e ∷ []))) ∙ there in
      let n = next_by H e (id_of e.request) step in
      record { fresh = n.0; numbered = n.1; answered = n.2 }

  replies_from : (H S : List Entry) → IsLegal day default (H ++ S) → replies_after day default (requests H) (requests S) ≡ map (λ e. e.reply) S
  replies_from H [] legal = refl
  replies_from H (e ∷ S) legal =
      let n = next H S e legal in
      let here : reply day default (history_of day default (requests H)) e.request ≡ e.reply =
      ap (λ x. reply day default x e.request) (front_built H (e ∷ S) legal) ∙ fresh_reply day default H e.request (id_of e.request) n.fresh ∙ sym n.answered in
      let longer : IsLegal day default ((H ++ e ∷ []) ++ S) = subst (IsLegal day default) (sym (append_assoc H (e ∷ []) S)) legal in
      let more : requests (H ++ e ∷ []) ≡ requests H ++ e.request ∷ [] = map-append (λ (x : Entry). x.request) H (e ∷ []) in
      let rest : replies_after day default (requests H ++ e.request ∷ []) (requests S) ≡ map (λ x. x.reply) S = subst (λ q. replies_after day default q (requests S) ≡ map (λ x. x.reply) S) more (replies_from (H ++ e ∷ []) S longer) in
      λ i. here i ∷ rest i

  pub own_replies : (H : List Entry) → IsLegal day default H → replies day default (requests H) ≡ map (λ e. e.reply) H
  own_replies H legal = replies_from [] H legal

-- an entry of a history stands after a prefix
pub record IsBehind (H : List Entry) (x : Entry) : Type 0 where
  pub front : List Entry
  pub rest : List Entry
  pub is : front ++ x ∷ rest ≡ H

pub behind : (H : List Entry) (x : Entry) → In x H → IsBehind H x
behind [] x i = absurd i
behind (y ∷ H) x i = elim i [
  | inl e ↦ record { front = []; rest = H; is = ap (λ z. z ∷ H) (sym e) }
  | inr j ↦ (let b = behind H x j in record { front = y ∷ b.front; rest = b.rest; is = ap (λ z. y ∷ z) b.is })
]
