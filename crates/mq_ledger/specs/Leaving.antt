-- What the requests of a caller leave of a ledger.
use Rattle.std.specs.Prelude.{◌≡◌}
use Rattle.mq_ledger.specs.Legal.{Book}

-- Its zone and its default stay. It has kept its premise only where it had before, and has a store only where it had one;
-- while it keeps its premise it stays sound.
pub record LeavesLedger {S : Type 0} (book : S → Book) (has_kept is_sound has_store : S → Type 0) (old new : S) : Type 0 where
  pub same_zone : (book new).zone ≡ (book old).zone
  pub same_default : (book new).default ≡ (book old).default
  pub kept : has_kept new → has_kept old
  pub no_store : has_store new → has_store old
  pub sound : has_kept new → is_sound old → is_sound new
