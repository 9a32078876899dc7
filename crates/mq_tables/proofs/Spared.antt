-- A query that returns nothing of a write writes nothing, whatever the store is.
use Rattle.std.proofs.Common.{◌≡◌, ◌⊎◌, inl, inr, ℕ, List, [], IsSome, true≢false, Ok, Err, Result, sym, subst, ◌∙◌}
use Rattle.mq_tables.proofs.Words.{CommitsShowing, Compiled, Error, FailsToQuery, FailsToShow, Global, HasCleanDisk, IsRolledBack, IsUnchanged, QueriesRow, Row, Schema, Shown, State, Survives, Trees, understood}
use Rattle.std.specs.Prelude.{IsTrue, OnOk, IfOk, IfErr, Vec}
use Rattle.sqlite.specs.Clock.{timed}
use Rattle.mq_tables.specs.Reading.{unlimited, Spares}
use Rattle.mq_tables.proofs.Plain.{IsBare}
use Rattle.mq_tables.proofs.Queries.{shown_same as same, not_run}

abbrev pub AlwaysBare : List ℕ → Type 0
AlwaysBare text = (s : Schema) (c : Compiled) → understood s text ≡ Ok c → IsBare c

module _ (text : List ℕ) (bare : AlwaysBare text) (old new : State) where
  pub shown_same : (rows : List Row) → Shown text [] old new rows → IsUnchanged old new
  shown_same = same text [] old new (bare old.now.schema)

  pub not_shown : (e : Error) → FailsToQuery text [] old new e → IsUnchanged old new ⊎ IsRolledBack old new
  unfolding FailsToQuery
  not_shown e (inl h) = not_run text [] old new e h
  not_shown e (inr h) =
      let none = (bare old.now.schema h.0 h.1.is).0 in
      inl (subst (FailsToShow old new text h.0 (timed [] h.0.formats h.1.now) e) none h.2).3

  queried : (answer : Result Row Error) → QueriesRow text [] old new answer → IsUnchanged old new ⊎ IsRolledBack old new
  unfolding QueriesRow
  queried (Ok row) (inl h) = inl h.1
  queried (Ok row) (inr h) = inl (shown_same h.0 h.1)
  queried (Err e) (inl h) = not_shown e h
  queried (Err e) (inr h) = inl (shown_same [] h.1)

  pub commits_none : (db : Trees) → CommitsShowing text [] old db → ⊥
  unfolding CommitsShowing
  commits_none db h = true≢false (sym (subst IsSome (bare old.now.schema h.0 h.1.is).0 h.2))

  crash : Survives old new (CommitsShowing text [] old) → HasCleanDisk new → (db : Trees) → new.may_leave db → old.may_leave db
  crash survives clean db may = elim (survives.crash clean db may) [ inl before ↦ before | inr commits ↦ absurd (commits_none db commits) ]

  pub spared : (IsTrue old.is_open → old.now ≡ old.committed) → IsUnchanged old new ⊎ IsRolledBack old new → ((db : Trees) → new.may_leave db → old.may_leave db) → Spares old new
  spared settled (inl h) may =
      record { was_open = λ _. h.0.was_open; now = λ _. h.0.now_is; committed = λ _. h.0.committed_is; crash = may }
  spared settled (inr h) may =
      record { was_open = h.was_open; now = λ o. (h.undone o).0 ∙ sym (settled (h.was_open o)); committed = λ o. (h.undone o).1; crash = may }

pub spares : (text : List ℕ) → AlwaysBare text → (old new : State) (answer : Result Row Error) → (IsTrue old.is_open → old.now ≡ old.committed) → QueriesRow text [] (unlimited old) new answer
    → Survives (unlimited old) new (CommitsShowing text [] (unlimited old)) → HasCleanDisk new → Spares old new
spares text bare old new answer settled h survives clean =
    let it = spared text bare (unlimited old) new settled (queried text bare (unlimited old) new answer h) (crash text bare (unlimited old) new survives clean) in
    record { was_open = it.was_open; now = it.now; committed = it.committed; crash = it.crash }

-- the same of all rows of the answer
pub spares_all : (text : List ℕ) → AlwaysBare text → (old new : State) (answer : Result (Vec Row Global) Error) → (IsTrue old.is_open → old.now ≡ old.committed) → IfOk answer (λ rows. Shown text [] (unlimited old) new rows.items)
    → IfErr answer (FailsToQuery text [] (unlimited old) new) → Survives (unlimited old) new (CommitsShowing text [] (unlimited old)) → HasCleanDisk new → Spares old new
spares_all text bare old new (Ok rows) settled shown failed survives clean =
    let it = spared text bare (unlimited old) new settled (inl (shown_same text bare (unlimited old) new rows.items shown)) (crash text bare (unlimited old) new survives clean) in
    record { was_open = it.was_open; now = it.now; committed = it.committed; crash = it.crash }
spares_all text bare old new (Err e) settled shown failed survives clean =
    let it = spared text bare (unlimited old) new settled (not_shown text bare (unlimited old) new e failed) (crash text bare (unlimited old) new survives clean) in
    record { was_open = it.was_open; now = it.now; committed = it.committed; crash = it.crash }

-- a connection that answers is open
pub answers_open : (text : List ℕ) → AlwaysBare text → (old new : State) (row : Row) → QueriesRow text [] old new (Ok row) → IsTrue new.is_open
unfolding QueriesRow
answers_open text bare old new row (inl h) = h.1.0.is_open
answers_open text bare old new row (inr h) = (shown_same text bare old new h.0 h.1).0.is_open

pub shows_open : (text : List ℕ) → AlwaysBare text → (old new : State) (answer : Result (Vec Row Global) Error) → IfOk answer (λ rows. Shown text [] old new rows.items) → OnOk answer (IsTrue new.is_open)
shows_open text bare old new (Ok rows) h = (shown_same text bare old new rows.items h).0.is_open
shows_open text bare old new (Err e) h = tt
