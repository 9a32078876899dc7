-- What a crash leaves of a request: after its commit what was written, after a commit that failed that or nothing.
use Rattle.std.proofs.Common.{ap, arith, sym, ℕ, ◌∙◌, ◌≡◌}
use Rattle.mq_store.proofs.Words.{Database, HasCleanDisk, Reply, Request, State, Survives, Trees, Zone, survives_then}
use Rattle.mq_store.specs.declared.take.TakenRequest.{TakenRequest}
use Rattle.mq_store.specs.declared.take.TakenRequest.TheVariants.{Read, Written}
use Rattle.mq_store.specs.Crash.{AreAppliedBy, AreApplied}
use Rattle.mq_store.specs.Taking.{book_after, Applies, IsTaken}
use Rattle.mq_store.proofs.Recovery.{AreOne, book_again}

applied_by : AreOne → (zone : Zone) (default : ℕ) (r : Request) (a : Reply) (old new : Database) (trees : Trees)
    → Applies zone default r a old new → new.trees ≡ trees → AreAppliedBy zone default r a old trees
applied_by one zone default r a old new trees is are = record {
  new = new;
  applied = is;
  trees_are = are;
  opened = λ db sound same H has. (let over = is H has in (over.0, book_again one (book_after zone default H r) new db sound (are ∙ sym same) over.1));
}

module _ (one : AreOne) (zone : Zone) (default : ℕ) (r : Request) (old mid new : State) where
  applied : (taken : TakenRequest) (db : Trees) → IsTaken zone default r old.now mid.now taken → db ≡ mid.now.trees → AreApplied zone default r old.now db
  applied (Read a) db is all = (a, applied_by one zone default r a old.now mid.now db is.0 (sym all))
  applied (Written a) db is all = (a, applied_by one zone default r a old.now mid.now db is.0 (sym all))

  -- after the commit the store has what was written, and so has what a crash leaves
  pub leaves_all : (a : Reply) (db : Trees) → IsTaken zone default r old.now mid.now (Written a) → new.now ≡ mid.now → db ≡ new.now.trees → (db ≡ new.now.trees) × AreAppliedBy zone default r a old.now db
  leaves_all a db is same all = (all, applied_by one zone default r a old.now mid.now db is.0 (sym (all ∙ ap (λ (d : Database). d.trees) same)))

  -- where the commit failed: what was there before, or what was written
  pub leaves_either : (taken : TakenRequest) → (HasCleanDisk mid → IsTaken zone default r old.now mid.now taken)
      → Survives old mid (λ _. ⊥) → Survives mid new (λ db. db ≡ mid.now.trees) → Survives old new (AreApplied zone default r old.now)
  leaves_either taken is before after =
      survives_then old mid new _ _ (AreApplied zone default r old.now) (λ _ db none. absurd none) (λ clean db all. applied taken db (is (omega (arith, after.clean, clean))) all) before after
