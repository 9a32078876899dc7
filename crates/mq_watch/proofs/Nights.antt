-- Days of moments that are close.
use Rattle.std.proofs.Common.{ℕ, ◌+◌, ◌*◌, inl, inr, arith}
use Rattle.std.specs.Prelude.{ℤ, pos, ◌+ℤ◌, ◌≤ℤ◌, ◌<ℤ◌}
use Rattle.std.proofs.lemmas.Int.{ints}
use Rattle.mq_watch.specs.Hours.{AreClose, AreFar}

-- no day lies between those of moments that are less than half a day apart, on a clock that is so far ahead
pub near_days : (ahead : ℤ) (moment now day today : ℕ) → (pos (86400 * day) ≤ℤ (pos moment +ℤ ahead)) × ((pos moment +ℤ ahead) <ℤ pos (86400 * (day + 1)))
    → (pos (86400 * today) ≤ℤ (pos now +ℤ ahead)) × ((pos now +ℤ ahead) <ℤ pos (86400 * (today + 1))) → AreClose moment now → AreFar day today → ⊥
near_days ahead moment now day today a n close (inl before) = omega (arith, ints)
near_days ahead moment now day today a n close (inr after) = omega (arith, ints)
