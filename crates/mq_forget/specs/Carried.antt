-- Prefixes and places of a history.
use Rattle.std.specs.Prelude.{◌≡◌, ◌<◌, ℕ, List, ◌++◌, length, get_or}
use Rattle.mq_ledger.specs.declared.entry.Entry.{Entry}

-- the whole begins with that front
pub record IsFront (front whole : List Entry) : Type 0 where
  pub rest : List Entry
  pub is : front ++ rest ≡ whole

-- the entry at a place, counted from 0
pub record IsAt (H : List Entry) (place : ℕ) (e : Entry) : Type 0 where
  pub within : place < length H
  pub is : e ≡ get_or H place e
