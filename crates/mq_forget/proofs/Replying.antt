-- That later requests are answered alike, and lead to the same.
use Rattle.mq_forget.proofs.Words.{All, All-from_recursion, AllByRecursion, Entry, Id, IsLegal, IsRequest, List, None, Option, Request, Some, [], all_push, answer, ap, append-nil, append_assoc, arrival_fresh, either, entry, false, has_id, history_of, id_of, inl, inr, is_about, is_below, is_later}
use Rattle.mq_forget.proofs.Words.{is_later_by, is_remembered, known_by, option_cases, recursion_from_All, refl, remembered, replies_after, reply, reply_by, reply_to, requests, stays, stored, subst, sym, true, with_arrival, with_arrival_by, ℕ, ◌++◌, ◌∙◌, ◌∷◌, ◌≡◌}
use Rattle.mq_request.specs.declared.message.Reply.TheVariants.{Old}
use Rattle.mq_forget.specs.Remembered.{AreLater}
use Rattle.mq_forget.proofs.Lists.{find_some, find_none}
use Rattle.mq_forget.proofs.Staying.{same_below, one_kept}
use Rattle.mq_forget.proofs.Answers.{answer_same}
use Rattle.mq_forget.proofs.Fronts.{Builds}
use Rattle.mq_forget.proofs.Growing.{Ledgers, in_range, tells, new_there}

-- a number of a run that is given up gets Old, and changes nothing
pub old_reply : (day : ℕ → ℕ) (default D : ℕ) (H : List Entry) (r : Request) (id : Id) → id_of r ≡ Some id → is_below (requests H) id ≡ true
    → (reply day default (remembered day D H) r ≡ Old id) × (with_arrival day default (remembered day D H) r ≡ remembered day D H)
old_reply day default D H r id h old =
    let there : is_below (requests (remembered day D H)) id ≡ true = same_below day D H id ∙ old in
    let K : List Entry = remembered day D H in
    let replied : reply_to day default K r (Some id) ≡ Old id = rw there refl in
    let same : with_arrival_by day default K r (Some id) ≡ K = rw there refl in
    (ap (reply_to day default K r) h ∙ replied, ap (with_arrival_by day default K r) h ∙ same)

module _ (day : ℕ → ℕ) (default : ℕ) (laws : Ledgers day default) (D : ℕ) where
  new_same : (H : List Entry) (r : Request) → IsLegal day default H → is_about day D H r ≡ true → answer day default (remembered day D H) r ≡ answer day default H r
  new_same H r legal late = answer_same day default D (remembered day D H) H (tells day default laws D H legal) r late

  stored_there : (H : List Entry) (id : Id) (e : Entry) → stored H id ≡ Some e → stays day D H e ≡ true → stored (remembered day D H) id ≡ Some e
  stored_there H id e there stay = find_some (λ x. has_id id x.request) (stays day D H) H e there stay

  none_there : (H : List Entry) (id : Id) → stored H id ≡ None → stored (remembered day D H) id ≡ None
  none_there H id none = find_none (λ x. has_id id x.request) (stays day D H) H none

  -- a number of a run that isn't given up
  stored_same : (H : List Entry) (r : Request) (id : Id) → IsLegal day default H → is_remembered day D H r (stored H id) ≡ true
      → reply_by day default (remembered day D H) r id (stored (remembered day D H) id) ≡ reply_by day default H r id (stored H id)
  stored_same H r id legal late = elim (option_cases (stored H id)) [
    | inl none ↦ (let late' : is_about day D H r ≡ true = ap (is_remembered day D H r) (sym none) ∙ late in
        ap (reply_by day default (remembered day D H) r id) (none_there H id none) ∙ new_same H r legal late' ∙ sym (ap (reply_by day default H r id) none))
    | inr p ↦ (let stay : stays day D H p.0 ≡ true = ap (is_remembered day D H r) (sym p.1) ∙ late in
        ap (reply_by day default (remembered day D H) r id) (stored_there H id p.0 p.1 stay) ∙ sym (ap (reply_by day default H r id) p.1))
  ]

  reply_by_number : (H : List Entry) (r : Request) (o : Option Id) → IsLegal day default H → is_later_by day D H r o ≡ true → reply_to day default (remembered day D H) r o ≡ reply_to day default H r o
  reply_by_number H r None legal late = new_same H r legal late
  reply_by_number H r (Some id) legal late = elim (either (is_below (requests H) id)) [
    | inl old ↦ (let there : is_below (requests (remembered day D H)) id ≡ true = same_below day D H id ∙ old in rw (there, old) refl)
    | inr above ↦ (let there : is_below (requests (remembered day D H)) id ≡ false = same_below day D H id ∙ above in
        let late' : is_remembered day D H r (stored H id) ≡ true = rw above at late in
        rw (there, above) (stored_same H r id legal late'))
  ]

  pub later_reply : (H : List Entry) (r : Request) → IsLegal day default H → is_later day D H r ≡ true → reply day default (remembered day D H) r ≡ reply day default H r
  later_reply H r legal late = reply_by_number H r (id_of r) legal late

  -- where the number is known to both, neither changes
  known_arrival : (H : List Entry) (r : Request) (id : Id) → known_by (remembered day D H) (Some id) ≡ true → known_by H (Some id) ≡ true
      → with_arrival_by day default (remembered day D H) r (Some id) ≡ remembered day D (with_arrival_by day default H r (Some id))
  known_arrival H r id there here = rw (there, here) refl

  new_arrival : (H : List Entry) (r : Request) (id : Id) → IsLegal day default H → known_by H (Some id) ≡ false → is_about day D H r ≡ true
      → with_arrival_by day default (remembered day D H) r (Some id) ≡ remembered day D (with_arrival_by day default H r (Some id))
  new_arrival H r id legal new late =
      let K : List Entry = remembered day D H in
      let stay : stays day D H (entry r (answer day default H r)) ≡ true = rw late refl in
      arrival_fresh day default K r (Some id) refl (new_there day default laws D H (Some id) new)
      ∙ ap (λ a. K ++ entry r a ∷ []) (new_same H r legal late)
      ∙ sym (one_kept day D H (entry r (answer day default H r)) stay)
      ∙ ap (remembered day D) (sym (arrival_fresh day default H r (Some id) refl new))

  arrival_by_number : (H : List Entry) (r : Request) (o : Option Id) → IsLegal day default H → is_later_by day D H r o ≡ true → with_arrival_by day default (remembered day D H) r o ≡ remembered day D (with_arrival_by day default H r o)
  arrival_by_number H r None legal late = refl
  arrival_by_number H r (Some id) legal late = elim (either (is_below (requests H) id)) [
    | inl old ↦ (let there : is_below (requests (remembered day D H)) id ≡ true = same_below day D H id ∙ old in
        known_arrival H r id (rw there refl) (rw old refl))
    | inr above ↦ (let there : is_below (requests (remembered day D H)) id ≡ false = same_below day D H id ∙ above in
        let late' : is_remembered day D H r (stored H id) ≡ true = rw above at late in
        elim (option_cases (stored H id)) [
          | inl none ↦ new_arrival H r id legal (rw (above, none) refl) (ap (is_remembered day D H r) (sym none) ∙ late')
          | inr p ↦ (let stay : stays day D H p.0 ≡ true = ap (is_remembered day D H r) (sym p.1) ∙ late' in
              let k : stored (remembered day D H) id ≡ Some p.0 = stored_there H id p.0 p.1 stay in
              let s = p.1 in
              known_arrival H r id (rw (there, k) refl) (rw (above, s) refl))
        ])
  ]

  pub later_arrival : (H : List Entry) (r : Request) → IsLegal day default H → is_later day D H r ≡ true → with_arrival day default (remembered day D H) r ≡ remembered day D (with_arrival day default H r)
  later_arrival H r legal late = arrival_by_number H r (id_of r) legal late

-- any number of them, by what is said of one
module _ (day : ℕ → ℕ) (default : ℕ) (laws : Builds day default) (D : ℕ)
    (one : (H : List Entry) (r : Request) → IsLegal day default H → is_later day D H r ≡ true → (reply day default (remembered day D H) r ≡ reply day default H r) × (with_arrival day default (remembered day D H) r ≡ remembered day D (with_arrival day default H r)))
    (built : (H : List Entry) → IsLegal day default H → history_of day default (requests (remembered day D H)) ≡ remembered day D H) where
  arrivals_by : (A B : List Request) → AllByRecursion IsRequest A → (rs : List Request) → AllByRecursion IsRequest rs → AreLater day default D (history_of day default A) rs → history_of day default B ≡ remembered day D (history_of day default A)
      → (replies_after day default B rs ≡ replies_after day default A rs) × (history_of day default (B ++ rs) ≡ remembered day D (history_of day default (A ++ rs)))
  arrivals_by A B in_range [] more late same =
      (refl, ap (history_of day default) (append-nil B) ∙ same ∙ ap (λ x. remembered day D (history_of day default x)) (sym (append-nil A)))
  arrivals_by A B in_range (r ∷ rs) more late same =
      let H : List Entry = history_of day default A in
      let alike = one H r (laws.legal A (All-from_recursion IsRequest A in_range)) late.0 in
      let here : reply day default (history_of day default B) r ≡ reply day default H r = ap (λ x. reply day default x r) same ∙ alike.0 in
      let next : history_of day default (B ++ r ∷ []) ≡ remembered day D (history_of day default (A ++ r ∷ [])) =
      laws.arrived B r ∙ ap (λ x. with_arrival day default x r) same ∙ alike.1 ∙ ap (remembered day D) (sym (laws.arrived A r)) in
      let late' : AreLater day default D (history_of day default (A ++ r ∷ [])) rs = subst (λ x. AreLater day default D x rs) (sym (laws.arrived A r)) late.1 in
      let rest = arrivals_by (A ++ r ∷ []) (B ++ r ∷ []) (all_push IsRequest A r in_range more.0) rs more.1 late' next in (
        (λ i. here i ∷ rest.0 i),
        ap (history_of day default) (sym (append_assoc B (r ∷ []) rs)) ∙ rest.1 ∙ ap (λ x. remembered day D (history_of day default x)) (append_assoc A (r ∷ []) rs),
      )

  pub later_arrivals : (H : List Entry) (rs : List Request) → IsLegal day default H → All IsRequest rs → AreLater day default D H rs
      → (replies_after day default (requests (remembered day D H)) rs ≡ replies_after day default (requests H) rs)
      × (history_of day default (requests (remembered day D H) ++ rs) ≡ remembered day D (history_of day default (requests H ++ rs)))
  later_arrivals H rs legal range late =
      arrivals_by (requests H) (requests (remembered day D H)) (in_range day default H legal) rs (recursion_from_All IsRequest rs range)
      (subst (λ x. AreLater day default D x rs) (sym (laws.again H legal)) late)
      (built H legal ∙ ap (remembered day D) (sym (laws.again H legal)))
