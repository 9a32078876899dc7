-- A new ledger that has what is remembered of an old one.
use Rattle.std.proofs.Common.{List, arith, inl, inr, sym, ℕ, ◌≡◌, ◌⊎◌}
use Rattle.mq_store.proofs.Words.{Book, Database, Entry, HasCleanDisk, State, Survives, Trees, Zone, day_of, remembered, survives_then}
use Rattle.mq_store.specs.Carrying.{Carries}
use Rattle.mq_store.specs.Forgetting.{MakesBlank, Fills, AreFilled, FindsFilled, FindsFilledOr}
use Rattle.mq_store.specs.Taking.{book_of}
use Rattle.mq_store.proofs.Recovery.{AreOne, book_again, finds_book}

-- made, and then filled from a store that stayed as it was
pub fills_over : (zone : Zone) (default D : ℕ) (from old mid new : Database) → MakesBlank zone default old mid → Carries zone default D from mid new → Fills zone default D from old new
fills_over zone default D from old mid new blank carries H has free = carries H has (blank free)

-- where the commit failed: what was there before, or all
pub leaves_filled : (zone : Zone) (default D : ℕ) (from : Database) (old mid new : State) → (HasCleanDisk mid → Fills zone default D from old.now mid.now)
    → Survives old mid (λ _. ⊥) → Survives mid new (λ db. db ≡ mid.now.trees) → Survives old new (AreFilled zone default D from old.now)
leaves_filled zone default D from old mid new fills before after =
    survives_then old mid new _ _ (AreFilled zone default D from old.now) (λ _ db none. absurd none) (λ clean db all. record { new = mid.now; filled = fills (omega (arith, after.clean, clean)); trees_are = sym all }) before after

module _ (one : AreOne) (zone : Zone) (default D : ℕ) (from : Database) where
  abbrev kept : List Entry → Book
  kept H = book_of zone default (remembered (day_of zone) D H)

  pub found_filled : (old : Database) (new : State) → Fills zone default D from old new.now → ((db : Trees) → new.may_leave db → db ≡ new.now.trees) → FindsFilled zone default D from old new
  found_filled old new fills leaves H has free = finds_book one (kept H) new (fills H has free) leaves

  pub found_filled_or : (old new : State) → ((db : Trees) → new.may_leave db → old.may_leave db ⊎ AreFilled zone default D from old.now db) → FindsFilledOr zone default D from old new
  found_filled_or old new leaves H has free db sound left =
      elim (leaves db.trees left) [
        | inl was ↦ inl was
        | inr all ↦ inr (book_again one (kept H) all.new db sound all.trees_are (all.filled H has free))
      ]
