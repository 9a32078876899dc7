-- A ledger stays where it is when the index is made.
use Rattle.std.proofs.Common.{◌≡◌, ℕ, true, sym, subst}
use Rattle.mq_tables.proofs.Words.{Database, Table, all-slice_get}
use Rattle.mq_tables.specs.Tables.{retired_table}
use Rattle.mq_tables.specs.Places.{IsTableIn, IsUnreferred, IsUnnamed}
use Rattle.mq_tables.specs.Indexing.{HasIndexed, with_day_index}
use Rattle.mq_tables.proofs.Changes.{Stays}

module _ (table : ℕ) (old new : Database) (it : HasIndexed table old new) where
  -- what is said of the tables of a schema is said of it with the index
  pub still_in : (made : Table) (tree : ℕ) → IsTableIn old.schema made tree → IsTableIn new.schema made tree
  still_in made tree p =
      let with_index : IsTableIn (with_day_index table old.schema) made tree = record { at = p.at; named = p.named; there = p.there; stored = p.stored; found = p.found } in
      subst (λ s. IsTableIn s made tree) (sym it.schema) with_index

  pub same_rows : (made : Table) (tree : ℕ) → IsTableIn old.schema made tree → new.trees tree ≡ old.trees tree
  same_rows made tree p = all-slice_get (λ (x : Table). new.trees x.tree ≡ old.trees x.tree) old.schema.tables p.at (record made { tree = tree }) p.there it.rows

  pub stays : Stays (λ name. true) old new
  stays = record {
    sound = it.sound;
    still = still_in;
    alone = λ made tree there h. subst (λ s. IsUnreferred s tree) (sym it.schema) h;
    unnamed = λ h. subst (λ s. IsUnnamed s retired_table.name) (sym it.schema) h;
    rows = λ made tree there k. same_rows made tree there;
  }
