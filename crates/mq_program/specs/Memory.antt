-- Whether a start over a ledger's file fits into the memory that its process may have.
use Rattle.std.specs.Prelude.{ℕ, ◌+◌, ◌*◌, ◌/◌, ◌<◌}

-- the megabytes that a start takes at most over a file of so many bytes, by what was measured
abbrev pub megabytes_over : ℕ → ℕ
megabytes_over bytes = bytes / 333333 + 14

-- a start over a file of so many bytes may take more memory than so many bytes
abbrev pub MayNotFit : ℕ → ℕ → Type 0
MayNotFit bytes limit = limit < 1000000 * megabytes_over bytes
