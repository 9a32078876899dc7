-- The first day with more used is the least of all days.
use Rattle.mq_ledger.proofs.Words.{Bool, Entry, Granted, In, List, None, Option, Reply, Request, Reserve, Settle, Settled, Some, [], ap, append-nil, arith, concerns, counted, day_from, days_from, either, filter, filter_map-append, first_so, granted, if◌then◌else◌, in_filter, inl, inr, is_abandoned}
use Rattle.mq_ledger.proofs.Words.{is_open, le_or_lt, least, lesser, nat_le, nat_lt, nat_tests, none_some, number_is, option_cases, over, refl, reserved, reserved_of, same_text, second_so, settled_of, some_is, some_none, subst, sym, true, used, zero_or_more, ℕ, ◌&&◌, ◌++◌, ◌+◌, ◌<◌, ◌==◌, ◌∙◌, ◌∷◌}
use Rattle.mq_ledger.proofs.Words.{◌≡◌, ◌≤◌, ◌⊎◌}
use Rattle.mq_lemmas.proofs.Numbers.{le_of}
use Rattle.mq_ledger.specs.Over.{IsLeastOver}
use Rattle.mq_ledger.proofs.Basics.{filter_in, in_filter_map, filter_map_in, some_part}

-- The least of a list.

lesser_le : (n : ℕ) (o : Option ℕ) → lesser n o ≤ n
lesser_le n None = omega arith
lesser_le n (Some m) = grind (arith, nat_tests)

lesser_le_some : (n m : ℕ) → lesser n (Some m) ≤ m
lesser_le_some n m = grind (arith, nat_tests)

lesser_is : (n m : ℕ) → (lesser n (Some m) ≡ n) ⊎ (lesser n (Some m) ≡ m)
lesser_is n m = elim (either (nat_lt m n)) [ inl t ↦ rw t (inr refl) | inr f ↦ rw f (inl refl) ]

pub least_none : (ns : List ℕ) → least ns ≡ None → (n : ℕ) → In n ns → ⊥
least_none [] h n i = i
least_none (x ∷ ns) h n i = some_none _ h

pub least_le : (ns : List ℕ) (m : ℕ) → least ns ≡ Some m → (n : ℕ) → In n ns → m ≤ n
least_le [] m h n i = absurd i
least_le (x ∷ ns) m h n (inl e) = let s = some_is _ _ h in omega (arith, s, e, lesser_le x (least ns))
least_le (x ∷ ns) m h n (inr i) = elim (option_cases (least ns)) [
  | inl none ↦ absurd (least_none ns none n i)
  | inr p ↦ (let s : lesser x (Some p.0) ≡ m = rw p.1 at (some_is _ _ h) in omega (arith, s, lesser_le_some x p.0, least_le ns p.0 p.1 n i))
]

pub least_in : (ns : List ℕ) (m : ℕ) → least ns ≡ Some m → In m ns
least_in [] m h = absurd (none_some m h)
least_in (x ∷ ns) m h = elim (option_cases (least ns)) [
  | inl none ↦ (let s : x ≡ m = rw none at (some_is _ _ h) in inl s)
  | inr p ↦ (let s : lesser x (Some p.0) ≡ m = rw p.1 at (some_is _ _ h) in elim (lesser_is x p.0) [
    | inl e ↦ inl (sym e ∙ s)
    | inr e ↦ (let q : p.0 ≡ m = sym e ∙ s in let P : ℕ → Type 0 = λ k. In k ns in inr (subst P q (least_in ns p.0 p.1)))
  ])
]

-- Days on which something is used.

day_gives : (day : ℕ → ℕ) (l login : List ℕ) (from d moment : ℕ) → from ≤ d → (same_text l login && (day moment == d)) ≡ true → (if same_text l login && nat_le from (day moment) then Some (day moment) else None) ≡ Some d
day_gives day l login from d moment le h =
    let s = first_so (same_text l login) (day moment == d) h in
    let e = number_is (day moment) d (second_so (same_text l login) (day moment == d) h) in
    rw (s, e) (grind (arith, nat_tests))

-- an entry that adds to what is used on a day has that day
adds_reserved : (day : ℕ → ℕ) (H : List Entry) (l : List ℕ) (from d : ℕ) (r : Request) (a : Reply) → from ≤ d → concerns day l d r ≡ true → 0 < granted r a → day_from day l from r a ≡ Some d
adds_reserved day H l from d (Reserve id txn moment login count) (Granted id' n) le h some = day_gives day l login from d moment le h
adds_reserved day H l from d r a le h some = absurd (omega arith)

adds_settled : (day : ℕ → ℕ) (l : List ℕ) (from d : ℕ) (r : Request) (a : Reply) → from ≤ d → concerns day l d r ≡ true → 0 < counted r a → day_from day l from r a ≡ Some d
adds_settled day l from d (Settle id txn moment login count) (Settled id' n) le h some = day_gives day l login from d moment le h
adds_settled day l from d r a le h some = absurd (omega arith)

of_reserved : (day : ℕ → ℕ) (H : List Entry) (l : List ℕ) (from d : ℕ) (e : Entry) → from ≤ d → 0 < reserved_of day H l d e → day_from day l from e.request e.reply ≡ Some d
of_reserved day H l from d e le some = elim (either (concerns day l d e.request && is_open H e.request)) [
  | inr f ↦ (let none : reserved_of day H l d e ≡ 0 = rw f refl in absurd (omega (arith, none, some)))
  | inl t ↦ (let is : reserved_of day H l d e ≡ granted e.request e.reply = rw t refl in
      adds_reserved day H l from d e.request e.reply le (first_so (concerns day l d e.request) (is_open H e.request) t) (omega (arith, is, some)))
]

at_most_if : (b : Bool) (n : ℕ) → (if b then n else 0) ≤ n
at_most_if b n = grind arith

of_settled : (day : ℕ → ℕ) (H : List Entry) (l : List ℕ) (from d : ℕ) (e : Entry) → from ≤ d → 0 < settled_of day H l d e → day_from day l from e.request e.reply ≡ Some d
of_settled day H l from d e le some = elim (either (concerns day l d e.request)) [
  | inr f ↦ (let none : settled_of day H l d e ≡ 0 = rw f refl in absurd (omega (arith, none, some)))
  | inl t ↦ elim (zero_or_more (counted e.request e.reply)) [
    | inr more ↦ adds_settled day l from d e.request e.reply le t more
    | inl none ↦ (let is : settled_of day H l d e ≡ counted e.request e.reply + (if is_abandoned H e.request then granted e.request e.reply else 0) = rw t refl in
        let part = at_most_if (is_abandoned H e.request) (granted e.request e.reply) in
        adds_reserved day H l from d e.request e.reply le t (omega (arith, is, none, some, part)))
  ]
]

-- a day on which something is used is among the login's days
pub used_among : (day : ℕ → ℕ) (H : List Entry) (l : List ℕ) (from d : ℕ) → from ≤ d → 0 < used day H l d → In d (days_from day H l from)
used_among day H l from d le some = elim (zero_or_more (reserved day H l d)) [
  | inr more ↦ (let p = some_part (reserved_of day H l d) H more in
      in_filter_map (λ e. day_from day l from e.request e.reply) H p.at d p.among (of_reserved day H l from d p.at le p.some))
  | inl none ↦ (let p = some_part (settled_of day H l d) H (omega (arith, none, some)) in
      in_filter_map (λ e. day_from day l from e.request e.reply) H p.at d p.among (of_settled day H l from d p.at le p.some))
]

pub day_given : (day : ℕ → ℕ) (l login : List ℕ) (from d moment : ℕ) → (if same_text l login && nat_le from (day moment) then Some (day moment) else None) ≡ Some d → (from ≤ d) × (day moment ≡ d)
day_given day l login from d moment h = elim (either (same_text l login && nat_le from (day moment))) [
  | inl t ↦ (let e : Some (day moment) ≡ Some d = rw t at h in
      let s = some_is _ _ e in
      (omega (arith, s, le_of from (day moment) (second_so (same_text l login) (nat_le from (day moment)) t)), s))
  | inr f ↦ (let e : None ≡ Some d = rw f at h in absurd (none_some d e))
]

of_day : (day : ℕ → ℕ) (l : List ℕ) (from d : ℕ) (r : Request) (a : Reply) → day_from day l from r a ≡ Some d → from ≤ d
of_day day l from d (Reserve id txn moment login count) (Granted id' n) h = (day_given day l login from d moment h).0
of_day day l from d (Settle id txn moment login count) (Settled id' n) h = (day_given day l login from d moment h).0
of_day day l from d r a h = absurd (none_some d h)

-- the login's days from a day on are not before it
pub days_after : (day : ℕ → ℕ) (H : List Entry) (l : List ℕ) (from d : ℕ) → In d (days_from day H l from) → from ≤ d
days_after day H l from d i =
    let m = filter_map_in (λ e. day_from day l from e.request e.reply) H d i in
    of_day day l from d m.source.request m.source.reply m.gives

-- The least of them is the least of all.

over_among : (day : ℕ → ℕ) (H : List Entry) (l : List ℕ) (from c d : ℕ) → from ≤ d → c < used day H l d → In d (filter (λ d. nat_lt c (used day H l d)) (days_from day H l from))
over_among day H l from c d le more =
    in_filter (λ d. nat_lt c (used day H l d)) (days_from day H l from) d (used_among day H l from d le (omega arith)) (grind (arith, nat_tests, more))

pub over_least : (day : ℕ → ℕ) (H : List Entry) (l : List ℕ) (from c : ℕ) (o : Option ℕ) → over day H l from c ≡ o → IsLeastOver day H l from c o
over_least day H l from c None h = λ d le. elim (le_or_lt (used day H l d) c) [
  | inl ok ↦ ok
  | inr more ↦ absurd (least_none _ h d (over_among day H l from c d le more))
]
over_least day H l from c (Some d) h =
    let kept = filter_in (λ d. nat_lt c (used day H l d)) (days_from day H l from) d (least_in _ d h) in
    let more : nat_lt c (used day H l d) ≡ true = kept.1 in (
      days_after day H l from d kept.0,
      grind (arith, nat_tests, more),
      λ e le before. elim (le_or_lt (used day H l e) c) [
        | inl ok ↦ ok
        | inr over' ↦ absurd (omega (arith, least_le _ d h e (over_among day H l from c e le over')))
      ],
    )

-- and it is the only one
same_least : (day : ℕ → ℕ) (H : List Entry) (l : List ℕ) (from c : ℕ) (o p : Option ℕ) → IsLeastOver day H l from c o → IsLeastOver day H l from c p → o ≡ p
same_least day H l from c None None h g = refl
same_least day H l from c None (Some d) h g = absurd (omega (arith, h d g.0, g.1))
same_least day H l from c (Some d) None h g = absurd (omega (arith, g d h.0, h.1))
same_least day H l from c (Some d) (Some e) h g = elim (le_or_lt d e) [
  | inr less ↦ absurd (omega (arith, h.2 e g.0 less, g.1))
  | inl le ↦ elim (le_or_lt e d) [
    | inr less ↦ absurd (omega (arith, g.2 d h.0 less, h.1))
    | inl ge ↦ (let same : d ≡ e = omega arith in ap Some same)
  ]
]

pub least_is_over : (day : ℕ → ℕ) (H : List Entry) (l : List ℕ) (from c : ℕ) (o : Option ℕ) → IsLeastOver day H l from c o → o ≡ over day H l from c
least_is_over day H l from c o h = same_least day H l from c o (over day H l from c) h (over_least day H l from c _ refl)

-- From day to day.

lesser_swap : (n m : ℕ) (o : Option ℕ) → lesser n (Some (lesser m o)) ≡ lesser m (Some (lesser n o))
lesser_swap n m None = grind (arith, nat_tests)
lesser_swap n m (Some k) = grind (arith, nat_tests)

least_push : (ns : List ℕ) (m : ℕ) → least (ns ++ m ∷ []) ≡ Some (lesser m (least ns))
least_push [] m = refl
least_push (n ∷ ns) m = ap (λ o. Some (lesser n o)) (least_push ns m) ∙ ap Some (lesser_swap n m (least ns))

-- the least of the days with one more entry
pub next_other : (day : ℕ → ℕ) (H : List Entry) (l : List ℕ) (from : ℕ) (e : Entry) → day_from day l from e.request e.reply ≡ None → least (days_from day (H ++ e ∷ []) l from) ≡ least (days_from day H l from)
next_other day H l from e h = ap least (filter_map-append (λ (x : Entry). day_from day l from x.request x.reply) H (e ∷ []) ∙ rw h (append-nil (days_from day H l from)))

pub next_more : (day : ℕ → ℕ) (H : List Entry) (l : List ℕ) (from : ℕ) (e : Entry) (d : ℕ) → day_from day l from e.request e.reply ≡ Some d → least (days_from day (H ++ e ∷ []) l from) ≡ Some (lesser d (least (days_from day H l from)))
next_more day H l from e d h = ap least (filter_map-append (λ (x : Entry). day_from day l from x.request x.reply) H (e ∷ []) ∙ rw h refl) ∙ least_push (days_from day H l from) d

-- before the next of the login's days nothing is used, and where there is none nothing is
pub nothing_before : (day : ℕ → ℕ) (H : List Entry) (l : List ℕ) (from d : ℕ) → least (days_from day H l from) ≡ Some d → (e : ℕ) → from ≤ e → e < d → used day H l e ≡ 0
nothing_before day H l from d h e le before = elim (zero_or_more (used day H l e)) [
  | inl none ↦ none
  | inr some ↦ absurd (omega (arith, least_le _ d h e (used_among day H l from e le some)))
]

pub nothing_on : (day : ℕ → ℕ) (H : List Entry) (l : List ℕ) (from : ℕ) → least (days_from day H l from) ≡ None → (e : ℕ) → from ≤ e → used day H l e ≡ 0
nothing_on day H l from h e le = elim (zero_or_more (used day H l e)) [
  | inl none ↦ none
  | inr some ↦ absurd (least_none _ h e (used_among day H l from e le some))
]

pub next_after : (day : ℕ → ℕ) (H : List Entry) (l : List ℕ) (from d : ℕ) → least (days_from day H l from) ≡ Some d → from ≤ d
next_after day H l from d h = days_after day H l from d (least_in _ d h)
