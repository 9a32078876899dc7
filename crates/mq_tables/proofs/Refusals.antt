-- Why a query on one table is refused.
use Rattle.std.proofs.Common.{◌≡◌, ◌⊎◌, inl, inr, ℕ, List, [], length, Any, true, false, Option, Some, None, IsSome, Ok, Err, true≢false, refl, sym, ap, subst, ◌∙◌}
use Rattle.sqlite.specs.declared.error.Error.TheVariants.{SqliteFailure}
use Rattle.sqlite.specs.declared.error.ErrorCode.TheVariants.{OperationInterrupted}
use Rattle.sqlite_trees.specs.declared.error.StoreError.{StoreError}
use Rattle.sqlite_sql.specs.Program.{ProgramOverflows}
use Rattle.std.specs.Prelude.{is_ok, Result, ◌≤◌}
use Rattle.std.proofs.Common.{append-nil}
use Rattle.mq_tables.proofs.Words.{Compiled, Database, Error, FailsToQuery, FailsToShow, IsNoStatement, IsNotRun, IsPlain, IsSourceOf, RefusesToRead, Row, Schema, Select, State, Term, Trees, accepts_program, command_of, reads_listing, store_error, understood}
use Rattle.sqlite.specs.Clock.{timed}
use Rattle.sqlite_resolve.specs.declared.error.CompileError.{CompileError}
use Rattle.sqlite_schema.specs.declared.command.Returning.{Returning}
use Rattle.mq_tables.specs.Written.{plain_query}

none_in : {X : Type 0} (xs : List X) → Any (λ _. ⊥) xs → ⊥
none_in xs h = h.4

never_overflows : (t : ℕ) (tests project : List Term) (db : Trees) (params : Row) → ProgramOverflows db params [] [] (plain_query t tests project) → ⊥
never_overflows t tests project db params (inl h) = h
never_overflows t tests project db params (inr h) = none_in _ h

abbrev pub names_of : Result Compiled CompileError → List (List ℕ)
names_of (Ok c) = c.names
names_of (Err e) = []

abbrev pub tail_of : Result Compiled CompileError → ℕ
tail_of (Ok c) = c.tail
tail_of (Err e) = 0

-- the store failed, or the limit on steps was met
abbrev pub IsStop : State → Error → Type 0
IsStop s e = ((cause : StoreError) × (e ≡ store_error cause)) ⊎ ((e ≡ SqliteFailure OperationInterrupted) × IsSome s.step_limit)

module _ (sql : List ℕ) (params : Row) (old new : State) (e : Error) (schema : Schema) (has : old.now.schema ≡ schema) (t : ℕ) (tests project : List Term) (names : List (List ℕ))
    (is : command_of (understood schema sql) ≡ Select (record { lets = []; body = plain_query t tests project }) names) (plain : IsPlain (understood schema sql))
    (fine : is_ok (understood schema sql) ≡ true) (given : length params ≡ length (names_of (understood schema sql))) (whole : length sql ≤ tail_of (understood schema sql))
    (unlisted : reads_listing schema sql ≡ false) (accepted : accepts_program schema [] (plain_query t tests project) params ≡ true) where
  no_statement : IsNoStatement old sql params e → ⊥
  no_statement (inl h) = let known = ap (λ s. understood s sql) (sym has) ∙ h.1 in absurd (true≢false (sym fine ∙ ap is_ok known))
  no_statement (inr (c, known, inl late)) = late.0 (subst (λ (r : Result Compiled CompileError). length sql ≤ tail_of r) (ap (λ s. understood s sql) (sym has) ∙ known) whole)
  no_statement (inr (c, known, inr (inl wrong))) = wrong.0 (given ∙ ap (λ r. length (names_of r)) (ap (λ s. understood s sql) (sym has) ∙ known))
  no_statement (inr (c, known, inr (inr timed'))) = timed'.0 (subst IsPlain (ap (λ s. understood s sql) (sym has) ∙ known) plain).1

  stops_at_read : (db : Database) → db ≡ old.now → RefusesToRead old.step_limit (Select (record { lets = []; body = plain_query t tests project }) names) db params e → IsStop old e
  stops_at_read db same (inl typed) = absurd (true≢false (sym accepted ∙ sym (ap (λ (d : Database). accepts_program d.schema [] (plain_query t tests project) params) same ∙ ap (λ s. accepts_program s [] (plain_query t tests project) params) has) ∙ typed.1))
  stops_at_read db same (inr (inl over)) = absurd (never_overflows t tests project db.trees params over.1)
  stops_at_read db same (inr (inr limit)) = inr limit

  stops_shown : (c : Compiled) → understood old.now.schema sql ≡ Ok c → (what : Option Returning) → c.returning ≡ what → FailsToShow old new sql c params e what → IsStop old e
  stops_shown c known None none (db, source, refused, same) =
      let about = ap (λ s. understood s sql) (sym has) ∙ known in
      let command : c.command ≡ Select (record { lets = []; body = plain_query t tests project }) names = sym (ap command_of about) ∙ is in
      let now : db ≡ old.now = subst (λ b. IsSourceOf b old.now db) (ap (λ s. reads_listing s sql) has ∙ unlisted) source in
      stops_at_read db now (subst (λ k. RefusesToRead old.step_limit k db params e) command refused)
  stops_shown c known (Some what) some h =
      let about = ap (λ s. understood s sql) (sym has) ∙ known in
      absurd (let none = sym (subst IsPlain about plain).0 ∙ some in cc)

  pub query_stops : FailsToQuery sql params old new e → IsStop old e
  unfolding FailsToQuery IsNotRun
  query_stops (inl (inl h)) = absurd (no_statement h.0)
  query_stops (inl (inr h)) = inl (h.0, h.1)
  query_stops (inr (c, it, h)) =
      let bare = subst IsPlain (ap (λ s. understood s sql) (sym has) ∙ it.is) plain in
      stops_shown c it.is c.returning refl (subst (λ ps. FailsToShow old new sql c ps e c.returning) (ap (λ f. timed params f it.now) bare.1 ∙ append-nil params) h)
