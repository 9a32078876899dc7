-- The ranges of what a client holds.
use Rattle.std.specs.Prelude.{◌≡◌, ℕ, List, ◌≤◌, Some}
use Rattle.mq_request.specs.Range.{IsOrdinal, IsMoment, IsLogin}
use Rattle.mq_client.specs.Past.{find}
use Rattle.mq_client.specs.declared.held_transaction.HeldTransaction.{HeldTransaction}

-- a live transaction in range: at most 1,000 of its recipients were let through
pub record IsHeld (txn : ℕ) (h : HeldTransaction) : Type 0 where
  pub number : IsOrdinal txn
  pub moment : IsMoment h.moment
  pub login : IsLogin h.login
  pub granted : h.granted ≤ 1000

-- each of some live transactions is in range
abbrev pub AllHeld : List (ℕ × HeldTransaction) → Type 0
AllHeld held = (txn : ℕ) (h : HeldTransaction) → find held txn ≡ Some h → IsHeld txn h
