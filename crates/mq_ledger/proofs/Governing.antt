-- The limit of a day is the one from the latest day up to it.
use Rattle.mq_ledger.proofs.Words.{Entry, List, None, Some, [], ap, arith, by_pushes, cap, cap_of, either, false, first_so, fold_push, from_of, governs, if◌then◌else◌, inl, inr, latest, le_or_lt, limits, nat_le, nat_tests, number_itself, refl, second_so, some_is, some_none, sym, true, ℕ, ◌++◌, ◌<◌}
use Rattle.mq_ledger.proofs.Words.{◌∙◌, ◌∷◌, ◌≡◌, ◌≤◌, ◌⊎◌}
use Rattle.mq_ledger.specs.Limits.{sets, sets_from, set_cap}
use Rattle.mq_ledger.proofs.LimitFacts.{cap_push_other, cap_push_newer, cap_push_older, latest_push_newer, latest_push_older, limits_other, limits_more}

pub set_cap_push : (H : List Entry) (e : Entry) (l : List ℕ) (d : ℕ) → set_cap (H ++ e ∷ []) l d ≡ (if sets_from l d e then Some (cap_of e.request) else set_cap H l d)
set_cap_push H e l d = fold_push (λ c x. if sets_from l d x then Some (cap_of x.request) else c) None H e

set_other : (H : List Entry) (e : Entry) (l : List ℕ) (d : ℕ) → sets_from l d e ≡ false → set_cap (H ++ e ∷ []) l d ≡ set_cap H l d
set_other H e l d f = set_cap_push H e l d ∙ rw f refl

-- no limit up to the day was set
record IsUnset (default : ℕ) (l : List ℕ) (d : ℕ) (H : List Entry) : Type 0 where
  none : (f : ℕ) → f ≤ d → set_cap H l f ≡ None
  cap : cap default H l d ≡ default
  since : latest (limits H l d) ≡ 0

-- the limit is the one that was set from the latest day
record IsSet (default : ℕ) (l : List ℕ) (d : ℕ) (H : List Entry) : Type 0 where
  from : ℕ
  is_latest : latest (limits H l d) ≡ from
  up_to : from ≤ d
  set : set_cap H l from ≡ Some (cap default H l d)
  above : (f : ℕ) → from < f → f ≤ d → set_cap H l f ≡ None

abbrev Stands : ℕ → List ℕ → ℕ → List Entry → Type 0
Stands default l d H = IsUnset default l d H ⊎ IsSet default l d H

-- an entry that doesn't govern the day sets no limit up to it
sets_none : (l : List ℕ) (d f : ℕ) (e : Entry) → governs l d e ≡ false → f ≤ d → sets_from l f e ≡ false
sets_none l d f e h le = grind (arith, nat_tests, h, le)

sets_another : (l : List ℕ) (f : ℕ) (e : Entry) → from_of e.request < f → sets_from l f e ≡ false
sets_another l f e lt = grind (arith, nat_tests, lt)

stands_other : (default : ℕ) (l : List ℕ) (d : ℕ) (H : List Entry) (e : Entry) → governs l d e ≡ false → Stands default l d H → Stands default l d (H ++ e ∷ [])
stands_other default l d H e h (inl u) = inl (record {
  none = λ f le. set_other H e l f (sets_none l d f e h le) ∙ u.none f le;
  cap = cap_push_other default H l d e h ∙ u.cap;
  since = ap latest (limits_other H l d e h) ∙ u.since;
})
stands_other default l d H e h (inr s) = inr (record {
  from = s.from;
  is_latest = ap latest (limits_other H l d e h) ∙ s.is_latest;
  up_to = s.up_to;
  set = set_other H e l s.from (sets_none l d _ e h s.up_to) ∙ s.set ∙ ap Some (sym (cap_push_other default H l d e h));
  above = λ f lt le. set_other H e l f (sets_none l d f e h le) ∙ s.above f lt le;
})

stands_newer : (default : ℕ) (l : List ℕ) (d : ℕ) (H : List Entry) (e : Entry) → governs l d e ≡ true → latest (limits H l d) ≤ from_of e.request → ((f : ℕ) → from_of e.request < f → f ≤ d → set_cap H l f ≡ None) → Stands default l d (H ++ e ∷ [])
stands_newer default l d H e h newer above =
    let from : ℕ = from_of e.request in
    let sets_it : sets l e.request e.reply ≡ true = first_so (sets l e.request e.reply) (nat_le (from_of e.request) d) h in
    let it : (if sets_from l from e then Some (cap_of e.request) else set_cap H l from) ≡ Some (cap_of e.request) = rw (sets_it, number_itself from) refl in
    inr (record {
      from = from;
      is_latest = ap latest (limits_more H l d e h) ∙ latest_push_newer (limits H l d) e newer;
      up_to = grind (arith, nat_tests, second_so (sets l e.request e.reply) (nat_le (from_of e.request) d) h);
      set = set_cap_push H e l from ∙ it ∙ ap Some (sym (cap_push_newer default H l d e h newer));
      above = λ f lt le. set_other H e l f (sets_another l f e lt) ∙ above f lt le;
    })

stands_older : (default : ℕ) (l : List ℕ) (d : ℕ) (H : List Entry) (e : Entry) → governs l d e ≡ true → from_of e.request < latest (limits H l d) → IsSet default l d H → Stands default l d (H ++ e ∷ [])
stands_older default l d H e h older s =
    let before : from_of e.request < s.from = rw (← s.is_latest) older in
    inr (record {
      from = s.from;
      is_latest = ap latest (limits_more H l d e h) ∙ latest_push_older (limits H l d) e older ∙ s.is_latest;
      up_to = s.up_to;
      set = set_other H e l s.from (sets_another l _ e before) ∙ s.set ∙ ap Some (sym (cap_push_older default H l d e h older));
      above = λ f lt le. set_other H e l f (sets_another l f e (omega (arith, before, lt))) ∙ s.above f lt le;
    })

stands_more : (default : ℕ) (l : List ℕ) (d : ℕ) (H : List Entry) (e : Entry) → Stands default l d H → Stands default l d (H ++ e ∷ [])
stands_more default l d H e s = elim (either (governs l d e)) [
  | inr f ↦ stands_other default l d H e f s
  | inl t ↦ elim (le_or_lt (latest (limits H l d)) (from_of e.request)) [
    | inl newer ↦ stands_newer default l d H e t newer (λ f lt le. (elim s [
      | inl u ↦ u.none f le
      | inr p ↦ p.above f (omega (arith, newer, lt, p.is_latest)) le
    ]))
    | inr older ↦ (elim s [
      | inl u ↦ absurd (omega (arith, older, u.since))
      | inr p ↦ stands_older default l d H e t older p
    ])
  ]
]

stands : (default : ℕ) (l : List ℕ) (d : ℕ) (H : List Entry) → Stands default l d H
stands default l d = by_pushes (Stands default l d) (inl (record { none = λ f le. refl; cap = refl; since = refl })) (λ H e s. stands_more default l d H e s)

pub unset_is_default : (default : ℕ) (H : List Entry) (l : List ℕ) (d : ℕ) → ((from : ℕ) → from ≤ d → set_cap H l from ≡ None) → cap default H l d ≡ default
unset_is_default default H l d none = elim (stands default l d H) [
  | inl u ↦ u.cap
  | inr s ↦ absurd (some_none _ (sym s.set ∙ none _ s.up_to))
]

pub latest_governs : (default : ℕ) (H : List Entry) (l : List ℕ) (d from c : ℕ) → from ≤ d → set_cap H l from ≡ Some c → ((later : ℕ) → from < later → later ≤ d → set_cap H l later ≡ None) → cap default H l d ≡ c
latest_governs default H l d from c le here later = elim (stands default l d H) [
  | inl u ↦ absurd (some_none _ (sym here ∙ u.none from le))
  | inr s ↦ elim (le_or_lt s.from from) [
    | inr lt ↦ absurd (some_none _ (sym s.set ∙ later _ lt s.up_to))
    | inl no_later ↦ elim (le_or_lt from s.from) [
      | inr lt ↦ absurd (some_none _ (sym here ∙ s.above from lt le))
      | inl no_earlier ↦ (let same : s.from ≡ from = omega (arith, no_later, no_earlier) in
          sym (some_is _ _ (sym here ∙ ap (set_cap H l) (sym same) ∙ s.set)))
    ]
  ]
]
