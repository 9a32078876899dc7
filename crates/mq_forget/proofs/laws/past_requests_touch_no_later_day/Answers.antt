-- What is asked about earlier days changes nothing of what is remembered.
use Rattle.mq_forget.proofs.Words.{All, All-from_recursion, AllByRecursion, AreLaterOrPast, Entry, Id, IsLegal, IsRequest, List, None, Option, Request, Some, [], all_push, answer, ap, append-nil, append_assoc, arrival_of_known, either, entry, false, fresh_reply, history_of, id_of, inl, inr}
use Rattle.mq_forget.proofs.Words.{is_about, is_later, is_not, is_past, is_set, known_by, neither, recursion_from_All, refl, remembered, reply, reply_to, requests, stays, subst, sym, true, with_arrival, with_arrival_by, ℕ, ◌++◌, ◌||◌, ◌∙◌, ◌∷◌, ◌≡◌, ◌⊎◌}
use Rattle.mq_lemmas.proofs.Lists.{all_append}
use Rattle.mq_forget.proofs.Staying.{one_gone}
use Rattle.mq_forget.proofs.Growing.{in_range}
use Rattle.mq_forget.proofs.Fronts.{Builds}
use Rattle.mq_forget.proofs.laws.past_requests_touch_no_later_day.Goals as goal

past_by : (day : ℕ → ℕ) (default D : ℕ) (H : List Entry) (r : Request) (o : Option Id) → is_about day D H r ≡ false → is_set r (reply_to day default H r o) ≡ false → remembered day D (with_arrival_by day default H r o) ≡ remembered day D H
past_by day default D H r None about set = refl
past_by day default D H r (Some id) about set = elim (either (known_by H (Some id))) [
  | inl known ↦ rw known refl
  | inr new ↦ (let answered : is_set r (answer day default H r) ≡ false = ap (is_set r) (sym (fresh_reply day default H r (Some id) new)) ∙ set in
      let off : stays day D H (entry r (answer day default H r)) ≡ false = rw (about, answered) refl in
      let gone : remembered day D (H ++ entry r (answer day default H r) ∷ []) ≡ remembered day D H = one_gone day D H (entry r (answer day default H r)) off in
      rw new gone)
]

past : (day : ℕ → ℕ) (default D : ℕ) (H : List Entry) (r : Request) → is_past day default D H r ≡ true → remembered day D (with_arrival day default H r) ≡ remembered day D H
past day default D H r e =
    let parts = neither (is_about day D H r) (is_set r (reply day default H r)) (is_not (is_about day D H r || is_set r (reply day default H r)) e) in
    past_by day default D H r (id_of r) parts.0 parts.1

-- two histories of which the same is remembered, by what is said of one request
module _ (day : ℕ → ℕ) (default : ℕ) (laws : Builds day default) (D : ℕ)
    (one : (H : List Entry) (r : Request) → IsLegal day default H → is_later day D H r ≡ true → (reply day default (remembered day D H) r ≡ reply day default H r) × (with_arrival day default (remembered day D H) r ≡ remembered day D (with_arrival day default H r))) where
  one_alike : (H K : List Entry) (r : Request) → IsLegal day default H → IsLegal day default K → remembered day D K ≡ remembered day D H
      → ((is_later day D H r ≡ true) × (is_later day D K r ≡ true)) ⊎ (((is_past day default D H r ≡ true) × (is_past day default D K r ≡ true)) ⊎ ((known_by H (id_of r) ≡ true) × (known_by K (id_of r) ≡ true)))
      → remembered day D (with_arrival day default K r) ≡ remembered day D (with_arrival day default H r)
  one_alike H K r legal_H legal_K same (inl late) = sym (one K r legal_K late.1).1 ∙ ap (λ x. with_arrival day default x r) same ∙ (one H r legal_H late.0).1
  one_alike H K r legal_H legal_K same (inr (inr known)) = ap (remembered day D) (arrival_of_known day default K r (id_of r) known.1) ∙ same ∙ sym (ap (remembered day D) (arrival_of_known day default H r (id_of r) known.0))
  one_alike H K r legal_H legal_K same (inr (inl gone)) = past day default D K r gone.1 ∙ same ∙ sym (past day default D H r gone.0)

  alike_by : (A B : List Request) → AllByRecursion IsRequest A → AllByRecursion IsRequest B → (rs : List Request) → AllByRecursion IsRequest rs → AreLaterOrPast day default D (history_of day default A) (history_of day default B) rs
      → remembered day D (history_of day default B) ≡ remembered day D (history_of day default A) → remembered day D (history_of day default (B ++ rs)) ≡ remembered day D (history_of day default (A ++ rs))
  alike_by A B in_A in_B [] more each same = ap (λ x. remembered day D (history_of day default x)) (append-nil B) ∙ same ∙ ap (λ x. remembered day D (history_of day default x)) (sym (append-nil A))
  alike_by A B in_A in_B (r ∷ rs) more each same =
      let H : List Entry = history_of day default A in
      let K : List Entry = history_of day default B in
      let step = one_alike H K r (laws.legal A (All-from_recursion IsRequest A in_A)) (laws.legal B (All-from_recursion IsRequest B in_B)) same each.0 in
      let next : remembered day D (history_of day default (B ++ r ∷ [])) ≡ remembered day D (history_of day default (A ++ r ∷ [])) =
      ap (remembered day D) (laws.arrived B r) ∙ step ∙ ap (remembered day D) (sym (laws.arrived A r)) in
      let left : AreLaterOrPast day default D (history_of day default (A ++ r ∷ [])) (with_arrival day default K r) rs = subst (λ x. AreLaterOrPast day default D x (with_arrival day default K r) rs) (sym (laws.arrived A r)) each.1 in
      let both : AreLaterOrPast day default D (history_of day default (A ++ r ∷ [])) (history_of day default (B ++ r ∷ [])) rs = subst (λ x. AreLaterOrPast day default D (history_of day default (A ++ r ∷ [])) x rs) (sym (laws.arrived B r)) left in
      let rest = alike_by (A ++ r ∷ []) (B ++ r ∷ []) (all_push IsRequest A r in_A more.0) (all_push IsRequest B r in_B more.0) rs more.1 both next in
      ap (λ x. remembered day D (history_of day default x)) (sym (append_assoc B (r ∷ []) rs)) ∙ rest ∙ ap (λ x. remembered day D (history_of day default x)) (append_assoc A (r ∷ []) rs)

  alike : (H K : List Entry) (A : List Request) → IsLegal day default H → IsLegal day default K → remembered day D K ≡ remembered day D H → All IsRequest A → AreLaterOrPast day default D H K A
      → remembered day D (history_of day default (requests K ++ A)) ≡ remembered day D (history_of day default (requests H ++ A))
  alike H K A legal_H legal_K same range each =
      let left : AreLaterOrPast day default D (history_of day default (requests H)) K A = subst (λ x. AreLaterOrPast day default D x K A) (sym (laws.again H legal_H)) each in
      let both : AreLaterOrPast day default D (history_of day default (requests H)) (history_of day default (requests K)) A = subst (λ x. AreLaterOrPast day default D (history_of day default (requests H)) x A) (sym (laws.again K legal_K)) left in
      alike_by (requests H) (requests K) (in_range day default H legal_H) (in_range day default K legal_K) A (recursion_from_All IsRequest A range) both
      (ap (remembered day D) (laws.again K legal_K) ∙ same ∙ ap (remembered day D) (sym (laws.again H legal_H)))

  legal_after : (H : List Entry) (A : List Request) → IsLegal day default H → All IsRequest A → IsLegal day default (history_of day default (requests H ++ A))
  legal_after H A legal range = laws.legal (requests H ++ A) (All-from_recursion IsRequest (requests H ++ A) (all_append IsRequest (requests H) A (in_range day default H legal) (recursion_from_All IsRequest A range)))

  replied_alike : (H K : List Entry) (A : List Request) (r : Request) → IsLegal day default H → IsLegal day default K → remembered day D K ≡ remembered day D H → All IsRequest A → AreLaterOrPast day default D H K A
      → is_later day D (history_of day default (requests H ++ A)) r ≡ true → is_later day D (history_of day default (requests K ++ A)) r ≡ true
      → reply day default (history_of day default (requests K ++ A)) r ≡ reply day default (history_of day default (requests H ++ A)) r
  replied_alike H K A r legal_H legal_K same range each late_H late_K =
      let after_H : List Entry = history_of day default (requests H ++ A) in
      let after_K : List Entry = history_of day default (requests K ++ A) in
      sym (one after_K r (legal_after K A legal_K range) late_K).0
      ∙ ap (λ x. reply day default x r) (alike H K A legal_H legal_K same range each)
      ∙ (one after_H r (legal_after H A legal_H range) late_H).0

-- ---- the clauses

pub returns-clause-past : goal.returns-clause-past
returns-clause-past c = past

pub returns-clause-arrivals : goal.returns-clause-arrivals
returns-clause-arrivals c = λ day default D.
    let laws : Builds day default = record { legal = c.built_is_legal.ensures day default; arrived = c.one_more_arrival.ensures.arrived day default; again = c.one_more_arrival.ensures.again day default } in
    alike day default laws D (c.a_later_request_is_answered_alike.ensures day default D)

pub returns-clause-reply : goal.returns-clause-reply
returns-clause-reply c = λ day default D.
    let laws : Builds day default = record { legal = c.built_is_legal.ensures day default; arrived = c.one_more_arrival.ensures.arrived day default; again = c.one_more_arrival.ensures.again day default } in
    replied_alike day default laws D (c.a_later_request_is_answered_alike.ensures day default D)
