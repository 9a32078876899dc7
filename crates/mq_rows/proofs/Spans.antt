-- The first day and the last of a history's rows of what logins have used.
use Rattle.std.proofs.Common.{◌≡◌, ℕ, zero, suc, ◌≤◌, List, [], ◌∷◌, true, false, refl, sym, subst, inl, inr, arith, Option, Some, None, Contains, map}
use Rattle.mq_rows.proofs.Words.{AllByRecursion, AreUsage, Entry, UsageRecord, either, has_reserve}
use Rattle.mq_rows.specs.Days.{IsOldest, IsNewest, IsReservedOn, IsUnreserved, IsFirstReserved, IsLastReserved}
use Rattle.mq_rows.proofs.Days.{has_row, reserved_there}

-- a row that has that day
row_of_day : (rows : List UsageRecord) (d : ℕ) → Contains (map (λ u. u.day) rows) d → (u : UsageRecord) × Contains rows u × (u.day ≡ d)
row_of_day [] d (k, low, is) = absurd (omega (arith, low))
row_of_day (u ∷ rows) d (zero, low, is) = (u, (0, omega arith, refl), is)
row_of_day (u ∷ rows) d (suc k, low, is) =
    let more = row_of_day rows d (k, omega (arith, low), is) in
    (more.0, (suc more.1.0, omega (arith, more.1.1), more.1.2), more.2)

module _ (day : ℕ → ℕ) (H : List Entry) (rows : List UsageRecord) (are : AreUsage day H rows) where
  reserved_on : (d : ℕ) → Contains (map (λ u. u.day) rows) d → IsReservedOn day H d
  reserved_on d there =
      let it = row_of_day rows d there in
      (it.0.login, subst (λ e. has_reserve day H e it.0.login ≡ true) it.2 (reserved_there day H rows are it.0 it.1))

  unreserved : rows ≡ [] → IsUnreserved day H
  unreserved none d l = elim (either (has_reserve day H d l)) [
    | inl t ↦ absurd (cc (has_row day H rows are l d t (λ _. true ≡ false) (subst (AllByRecursion (λ _. true ≡ false)) (sym none) tt)))
    | inr f ↦ f
  ]

  pub first_reserved : (oldest : Option ℕ) → IsOldest rows oldest → IsFirstReserved day H oldest
  first_reserved None none = unreserved none
  first_reserved (Some first) it = (reserved_on first it.0, λ d on. has_row day H rows are on.0 d on.1 (λ u. first ≤ u.day) it.1)

  pub last_reserved : (newest : Option ℕ) → IsNewest rows newest → IsLastReserved day H newest
  last_reserved None none = unreserved none
  last_reserved (Some last) it = (reserved_on last it.0, λ d on. has_row day H rows are on.0 d on.1 (λ u. u.day ≤ last) it.1)
