-- What is remembered of a legal history is legal, entry by entry.
use Rattle.mq_forget.proofs.Words.{All-from_recursion, All-map, AllByRecursion, Entry, Id, IsLeastOver, IsLegal, IsLoginPage, IsRequest, List, None, Option, Request, Some, [], answer, ap, arith, arrival_fresh, either, entry, false, has_id, history_of, id_of, inl, inr, is_about, is_below, is_set}
use Rattle.mq_forget.proofs.Words.{is_some, known_by, neither, not_some, over, page, recursion_from_All, refl, remembered, requests, stays, stored, subst, sym, true, used, with_arrival, with_arrival_by, ℕ, ◌++◌, ◌<◌, ◌∙◌, ◌∷◌, ◌≡◌}
use Rattle.std.proofs.lemmas.List.Elements.{All-push}
use Rattle.mq_lemmas.proofs.Lists.{by_pushes, all_but_last}
use Rattle.mq_ledger.specs.Answer.{appended}
use Rattle.mq_forget.specs.Kept.{Keeps}
use Rattle.mq_forget.proofs.Lists.{find_none}
use Rattle.mq_forget.proofs.Staying.{one_kept, one_gone, alike, same_cap, same_below}
use Rattle.mq_forget.proofs.Fronts.{Builds}
use Rattle.mq_forget.proofs.Numbers.{reserved_kept, settled_kept, reserves_kept, reserved_before, settled_before, reserves_before}
use Rattle.mq_forget.proofs.Answers.{Tells, answer_same, set_same}

-- what is used of a ledger's laws
pub record Ledgers (day : ℕ → ℕ) (default : ℕ) : Type 0 where
  pub builds : Builds day default
  pub more : (H : List Entry) (r : Request) → IsLegal day default H → history_of day default (requests H ++ r ∷ []) ≡ with_arrival day default H r
  pub least : (H : List Entry) (l : List ℕ) (from c : ℕ) → IsLeastOver day H l from c (over day H l from c)
  pub only_least : (H : List Entry) (l : List ℕ) (from c : ℕ) (o : Option ℕ) → IsLeastOver day H l from c o → o ≡ over day H l from c
  pub first : (H : List Entry) (d : ℕ) (after : List ℕ) → IsLoginPage day H d after (page day H d after)
  pub only_first : (H : List Entry) (d : ℕ) (after : List ℕ) (ls : List (List ℕ)) → IsLoginPage day H d after ls → ls ≡ page day H d after

pub in_range : (day : ℕ → ℕ) (default : ℕ) (H : List Entry) → IsLegal day default H → AllByRecursion IsRequest (requests H)
in_range day default H legal = recursion_from_All IsRequest (requests H) (All-map IsRequest (λ e. e.request) H legal.range)

module _ (day : ℕ → ℕ) (default : ℕ) (laws : Ledgers day default) (D : ℕ) where
  unused : (H : List Entry) → IsLegal day default H → (l : List ℕ) (d : ℕ) → d < D → used day (remembered day D H) l d ≡ 0
  unused H legal l d early = omega (arith, reserved_before day default laws.builds D H legal l d early, settled_before day default laws.builds D H legal l d early)

  pub tells : (H : List Entry) → IsLegal day default H → Tells day default D (remembered day D H) H
  tells H legal =
      let K : List Entry = remembered day D H in
      record {
        reserves = λ l d le. reserved_kept day default laws.builds D H legal l d le;
        settles = λ l d le. settled_kept day default laws.builds D H legal l d le;
        lists = λ l d le. reserves_kept day default laws.builds D H legal l d le;
        unused = unused H legal;
        alike = λ t moment late. alike day D H t moment late;
        caps = λ l d. same_cap day default D H l d;
        least = λ l from c. laws.least H l from c;
        only_least = λ l from c o is. laws.only_least K l from c o is;
        first = λ d after. laws.first K d after;
        only_first = λ d after ls is. laws.only_first H d after ls is;
      }

  -- a number that is new to H is new to what is remembered of it
  pub new_there : (H : List Entry) (o : Option Id) → known_by H o ≡ false → known_by (remembered day D H) o ≡ false
  new_there H None new = refl
  new_there H (Some id) new =
      let parts = neither (is_below (requests H) id) (is_some (stored H id)) new in
      let above : is_below (requests (remembered day D H)) id ≡ false = same_below day D H id ∙ parts.0 in
      let none : stored (remembered day D H) id ≡ None = find_none (λ x. has_id id x.request) (stays day D H) H (not_some (stored H id) parts.1) in
      rw (above, none) refl

  legal_more : (K : List Entry) (r : Request) (id : Id) → IsLegal day default K → IsRequest r → id_of r ≡ Some id → known_by K (Some id) ≡ false → IsLegal day default (appended day default K r)
  legal_more K r id legal in_range h new =
      subst (IsLegal day default) (laws.more K r legal ∙ ap (with_arrival_by day default K r) h ∙ arrival_fresh day default K r (Some id) refl new) (laws.builds.legal (requests K ++ r ∷ []) (All-push IsRequest (requests K) r (All-map IsRequest (λ e. e.request) K legal.range) in_range))

  -- an entry that stays has the same answer over both
  stays_same : (H : List Entry) (r : Request) → IsLegal day default H → stays day D H (entry r (answer day default H r)) ≡ true → answer day default (remembered day D H) r ≡ answer day default H r
  stays_same H r legal stay = elim (either (is_about day D H r)) [
    | inl late ↦ answer_same day default D (remembered day D H) H (tells H legal) r late
    | inr early ↦ (let set : is_set r (answer day default H r) ≡ true = rw early at stay in
        set_same day default D (remembered day D H) H (tells H legal) r set)
  ]

  appended_legal : (H : List Entry) (r : Request) (id : Id) → IsLegal day default H → IsRequest r → id_of r ≡ Some id → known_by H (Some id) ≡ false → IsLegal day default (remembered day D H)
      → IsLegal day default (remembered day D (appended day default H r))
  appended_legal H r id legal in_range h new kept =
      let K : List Entry = remembered day D H in
      let e : Entry = entry r (answer day default H r) in
      elim (either (stays day D H e)) [
        | inl stay ↦ (let more : IsLegal day default (K ++ entry r (answer day default K r) ∷ []) = legal_more K r id kept in_range h (new_there H (Some id) new) in
            let there : K ++ entry r (answer day default K r) ∷ [] ≡ remembered day D (H ++ e ∷ []) = ap (λ a. K ++ entry r a ∷ []) (stays_same H r legal stay) ∙ sym (one_kept day D H e stay) in
            subst (IsLegal day default) there more)
        | inr gone ↦ subst (IsLegal day default) (sym (one_gone day D H e gone)) kept
      ]

  arrival_legal : (H : List Entry) (r : Request) (o : Option Id) → id_of r ≡ o → IsLegal day default H → IsRequest r → IsLegal day default (remembered day D H)
      → IsLegal day default (remembered day D (with_arrival_by day default H r o))
  arrival_legal H r None h legal in_range kept = kept
  arrival_legal H r (Some id) h legal in_range kept = elim (either (known_by H (Some id))) [
    | inr new ↦ subst (λ x. IsLegal day default (remembered day D x)) (sym (arrival_fresh day default H r (Some id) refl new)) (appended_legal H r id legal in_range h new kept)
    | inl known ↦ (let same : with_arrival_by day default H r (Some id) ≡ H = rw known refl in
        subst (λ x. IsLegal day default (remembered day D x)) (sym same) kept)
  ]

  none_legal : IsLegal day default []
  none_legal = record { range = λ k d h. absurd (omega arith); distinct = refl; built = refl }

  arrivals_legal : (A : List Request) → AllByRecursion IsRequest A → IsLegal day default (remembered day D (history_of day default A))
  arrivals_legal A = by_pushes (λ A. AllByRecursion IsRequest A → IsLegal day default (remembered day D (history_of day default A)))
      (λ _. none_legal)
      (λ A r before all.
      let parts = all_but_last IsRequest A r all in
      let k = arrival_legal (history_of day default A) r (id_of r) refl (laws.builds.legal A (All-from_recursion IsRequest A parts.0)) parts.1 (before parts.0) in
      subst (λ x. IsLegal day default (remembered day D x)) (sym (laws.builds.arrived A r)) k)
      A

  remembered_legal : (H : List Entry) → IsLegal day default H → IsLegal day default (remembered day D H)
  remembered_legal H legal = subst (λ x. IsLegal day default (remembered day D x)) (laws.builds.again H legal)
      (arrivals_legal (requests H) (in_range day default H legal))

  pub keeps : (H : List Entry) → IsLegal day default H → Keeps day default D (remembered day D H) H
  keeps H legal = record {
    legal = remembered_legal H legal;
    reserved = λ l d le. reserved_kept day default laws.builds D H legal l d le;
    settled = λ l d le. settled_kept day default laws.builds D H legal l d le;
    reserves = λ l d le. reserves_kept day default laws.builds D H legal l d le;
    unused = unused H legal;
    reserves_none = λ l d early. reserves_before day default laws.builds D H legal l d early;
  }
