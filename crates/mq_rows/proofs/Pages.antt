-- The pages of a day, login by login.
use Rattle.std.proofs.Common.{◌≡◌, ℕ, suc, ◌≤◌, List, [], ◌∷◌, ◌++◌, true, false, refl, inl, inr, arith, length, map, All, Contains, Option, ◌⊎◌, ◌==◌, Some, None, sym, subst}
use Rattle.mq_rows.proofs.Words.{All-from_recursion, AllByRecursion, AreNext, AreUsage, Entry, IsAscending, IsLoginPage, IsNext, IsNextLogin, UsageRecord, all_both, behind, below, both_parts, either, has_reserve, is_above, is_usage, length-map, number_is, number_itself, same_text, text_is, text_itself, weaker}
use Rattle.mq_ledger.proofs.Pages.{Before, Same, After, below_trans, ordered}
use Rattle.mq_rows.proofs.Days.{has_row, reserved_there, row_of}

abbrev logins : List UsageRecord → List (List ℕ)
logins us = map (λ u. u.login) us

module _ (day : ℕ → ℕ) (H : List Entry) (rows : List UsageRecord) (are : AreUsage day H rows) (d : ℕ) where
  -- a row of the day says that its login has a granted reserve
  reserve_there : (after : List ℕ) (u : UsageRecord) → Contains rows u → is_above d after u ≡ true → has_reserve day H d u.login ≡ true
  reserve_there after u there above =
      let day_is : d ≡ u.day = number_is d u.day (both_parts (d == u.day) (below after u.login) above).0 in
      subst (λ k. has_reserve day H k u.login ≡ true) (sym day_is) (reserved_there day H rows are u there)

  is_above_row : (after l : List ℕ) → below after l ≡ true → is_above d after (row_of day H l d) ≡ true
  is_above_row after l h = rw (number_itself d, h) refl

  record Rising (after : List ℕ) (ls : List (List ℕ)) : Type 0 where
    above : AllByRecursion (λ l. below after l ≡ true) ls
    ascending : IsAscending ls
    there : AllByRecursion (λ l. has_reserve day H d l ≡ true) ls

  rising : (after : List ℕ) (us : List UsageRecord) → AreNext d after rows us → Rising after (logins us)
  rising after [] next = record { above = tt; ascending = tt; there = tt }
  rising after (u ∷ us) next =
      let up : below after u.login ≡ true = (both_parts (d == u.day) (below after u.login) next.0.1).1 in
      let r = rising u.login us next.1 in
      record {
        above = (up, weaker (λ l. below u.login l ≡ true) (λ l. below after l ≡ true) (λ l h. below_trans after u.login l up h) (logins us) r.above);
        ascending = (r.above, r.ascending);
        there = (reserve_there after u next.0.0 next.0.1, r.there);
      }

  -- a login of the day that is above: it is among them, or after all of them
  data Place (after l : List ℕ) (us : List UsageRecord) : Type 0 where
    Among : Contains (logins us) l → Place after l us
    Behind : AllByRecursion (λ m. below m l ≡ true) (logins us) → below (behind after us) l ≡ true → Place after l us

  place : (after : List ℕ) (us : List UsageRecord) → AreNext d after rows us → (l : List ℕ) → below after l ≡ true → has_reserve day H d l ≡ true → Place after l us
  place after [] next l up here = Behind tt up
  place after (u ∷ us) next l up here = elim (ordered u.login l) [
    | Same e ↦ Among (0, omega arith, e)
    | After h ↦ (let f : below l u.login ≡ false = has_row day H rows are l d here (λ other. is_above d after other ≡ true → below other.login u.login ≡ false) next.0.2 (is_above_row after l up) in absurd (cc (f, h)))
    | Before h ↦ elim (place u.login us next.1 l h here) [
      | Among c ↦ Among (suc c.0, omega (arith, c.1), c.2)
      | Behind all b ↦ Behind (h, all) b
    ]
  ]

  finish : (after l : List ℕ) (us : List UsageRecord) → has_reserve day H d l ≡ true → (length us ≡ 100) ⊎ IsNext d (behind after us) rows None → Place after l us → Contains (logins us) l ⊎ ((length (logins us) ≡ 100) × All (λ m. below m l ≡ true) (logins us))
  finish after l us here end (Among c) = inl c
  finish after l us here (inl full) (Behind all b) = inr (simp length-map full, All-from_recursion (λ m. below m l ≡ true) (logins us) all)
  finish after l us here (inr none) (Behind all b) =
      (let f : is_above d (behind after us) (row_of day H l d) ≡ false = has_row day H rows are l d here (λ u. is_above d (behind after us) u ≡ false) none in absurd (cc (f, is_above_row (behind after us) l b)))

  pub page_of : (after : List ℕ) (us : List UsageRecord) → AreNext d after rows us → length us ≤ 100 → (length us ≡ 100) ⊎ IsNext d (behind after us) rows None → IsLoginPage day H d after (logins us)
  page_of after us next few end =
      let r = rising after us next in
      record {
        ascending = r.ascending;
        above = All-from_recursion (λ l. below after l ≡ true) (logins us) r.above;
        there = All-from_recursion (λ l. has_reserve day H d l ≡ true) (logins us) r.there;
        few = simp length-map few;
        first = λ l up here. finish after l us here end (place after us next l up here);
      }

pub next_more : (d : ℕ) (rows : List UsageRecord) (after : List ℕ) (us : List UsageRecord) (u : UsageRecord) → AreNext d after rows us → IsNext d (behind after us) rows (Some u) → AreNext d after rows (us ++ u ∷ [])
next_more d rows after [] u next more = (more, tt)
next_more d rows after (v ∷ us) u next more = (next.0, next_more d rows v.login us u next.1 more)

-- From login to login.

module _ (d : ℕ) (after login : List ℕ) where
  -- the login is the least above, and has no row of the day
  abbrev Least : UsageRecord → Type 0
  Least u = below after u.login ≡ true → below u.login login ≡ false

  abbrev IsBare : UsageRecord → Type 0
  IsBare u = is_usage login d u ≡ false

  its_own : (u : UsageRecord) → login ≡ u.login → (d == u.day) ≡ true → is_usage login d u ≡ true
  its_own u same day = (let e : d ≡ u.day = number_is d u.day day in rw (same, e, text_itself u.login, number_itself u.day) refl)

  -- so a row of the day that is above the one before is above this one
  still_above : (u : UsageRecord) → Least u → IsBare u → is_above d after u ≡ true → is_above d login u ≡ true
  still_above u least bare hit =
      let b = both_parts (d == u.day) (below after u.login) hit in
      elim (ordered login u.login) [
        | Before h ↦ rw (b.0, h) refl
        | Same e ↦ absurd (cc (bare, its_own u e b.0))
        | After h ↦ absurd (cc (h, least b.1))
      ]

  not_above : (u : UsageRecord) → Least u → IsBare u → is_above d login u ≡ false → is_above d after u ≡ false
  not_above u least bare none = elim (either (is_above d after u)) [
    | inl hit ↦ absurd (cc (none, still_above u least bare hit))
    | inr free ↦ free
  ]

  is_above_before : (u : UsageRecord) → below after login ≡ true → is_above d login u ≡ true → is_above d after u ≡ true
  is_above_before u up hit = (let b = both_parts (d == u.day) (below login u.login) hit in rw (b.0, below_trans after login u.login up b.1) refl)

  pub passed_over : (rows : List UsageRecord) (next : Option UsageRecord) → IsNextLogin after rows (Some login) → AllByRecursion IsBare rows → IsNext d login rows next → IsNext d after rows next
  passed_over rows None it bare none =
      all_both Least (λ u. IsBare u × (is_above d login u ≡ false)) (λ u. is_above d after u ≡ false) (λ u least h. not_above u least h.0 h.1) rows it.2
      (all_both IsBare (λ u. is_above d login u ≡ false) (λ u. IsBare u × (is_above d login u ≡ false)) (λ u b n. (b, n)) rows bare none)
  passed_over rows (Some v) it bare next = (
    next.0,
    is_above_before v it.1 next.1,
    all_both Least (λ u. IsBare u × (is_above d login u ≡ true → below u.login v.login ≡ false)) (λ u. is_above d after u ≡ true → below u.login v.login ≡ false)
        (λ u least h hit. h.1 (still_above u least h.0 hit)) rows it.2
        (all_both IsBare (λ u. is_above d login u ≡ true → below u.login v.login ≡ false) (λ u. IsBare u × (is_above d login u ≡ true → below u.login v.login ≡ false)) (λ u b n. (b, n)) rows bare next.2),
  )

  pub found_there : (rows : List UsageRecord) (u : UsageRecord) → IsNextLogin after rows (Some login) → Contains rows u → is_usage login d u ≡ true → IsNext d after rows (Some u)
  found_there rows u it there own =
      let b = both_parts (same_text login u.login) (u.day == d) own in
      let name : login ≡ u.login = text_is login u.login b.0 in
      let day : u.day ≡ d = number_is u.day d b.1 in (
        there,
        rw (← name, day, number_itself d) it.1,
        weaker Least (λ other. is_above d after other ≡ true → below other.login u.login ≡ false) (λ other least hit. rw (← name) (least (both_parts (d == other.day) (below after other.login) hit).1)) rows it.2,
      )

pub none_above : (d : ℕ) (rows : List UsageRecord) (after : List ℕ) → IsNextLogin after rows None → IsNext d after rows None
none_above d rows after none = weaker (λ u. below after u.login ≡ false) (λ u. is_above d after u ≡ false) (λ u free. elim (either (is_above d after u)) [
  | inl hit ↦ absurd (cc (free, (both_parts (d == u.day) (below after u.login) hit).1))
  | inr not ↦ not
]) rows none
