-- What a step inside a transaction answers, besides what specs/Inside.antt of mq_tables has. All of it holds where the
-- disk is clean after the step.
use Rattle.std.specs.Prelude.{Result, OnOk, IfOk, IfErr}
use Rattle.sqlite_trees.specs.declared.store.Store.{Ghosts}
use Rattle.sqlite.specs.Effect.{Database}
use Rattle.sqlite.specs.declared.transaction.Transaction.{Transaction}
use Rattle.sqlite.specs.Held.{state}
use Rattle.sqlite.specs.State.{HasCleanDisk}
use Rattle.mq_store.specs.Taking.{Stays}

module _ {S A E : Type 0} (store : Ghosts S) (old new : Transaction S) (answer : Result A E) where
  -- a refusal is as said of what the store held before
  abbrev pub Stops : (Database → E → Type 0) → Type 0
  Stops Stopped = HasCleanDisk (state store new.conn.now) → IfErr answer (Stopped (state store old.conn.now).now)

  -- with an answer the store is as it was
  abbrev pub ChangesNothing : Type 0
  ChangesNothing = HasCleanDisk (state store new.conn.now) → OnOk answer (Stays (state store old.conn.now) (state store new.conn.now))

  -- an answer is as said of what it held before and after
  abbrev pub Answers : (A → Database → Database → Type 0) → Type 0
  Answers Said = HasCleanDisk (state store new.conn.now) → IfOk answer (λ a. Said a (state store old.conn.now).now (state store new.conn.now).now)
