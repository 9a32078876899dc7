use Rattle.std.proofs.Common.{◌≡◌, ℕ, List, refl, ◌∙◌, ap, sym, inl, inr, ◌==◌, Some, None}
use Rattle.mq_rows.proofs.Words.{Entry, either, floor, floor_by, number_is, requests, retired_row}
use Rattle.mq_rows.proofs.laws.floors_are_found.Goals as goal

-- the row of a host has its floor, where it isn't 0
floor_of_row : (H : List Entry) (h : List ℕ) → floor_by (retired_row H h) ≡ floor (requests H) h
floor_of_row H h = elim (either (floor (requests H) h == 0)) [
  | inl t ↦ (let none : retired_row H h ≡ None = rw t refl in ap floor_by none ∙ sym (number_is (floor (requests H) h) 0 t))
  | inr f ↦ (let some : retired_row H h ≡ Some (record { host = h; run = floor (requests H) h }) = rw f refl in ap floor_by some)
]

pub returns-clause-floor : goal.returns-clause-floor
returns-clause-floor c = λ H rows h are. ap floor_by (c.rows_by_key.ensures.retired H rows h are) ∙ floor_of_row H h

pub returns-clause-old : goal.returns-clause-old
returns-clause-old c = λ day default H r id h below. rw (h, below) refl
