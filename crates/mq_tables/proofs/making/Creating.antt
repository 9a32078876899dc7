-- CREATE TABLE over any schema.
use Rattle.std.proofs.Common.{◌≡◌, ℕ, ◌+◌, suc, zero, List, [], ◌∷◌, ◌++◌, length, inl, inr, Bool, true, false, not, ◌&&◌, Option, Some, None, is_some, Ok, Err, true≢false, codes, refl, sym, ap, subst, ◌∙◌}
use Rattle.mq_tables.proofs.Words.{Checked, Compiled, CreateTable, Executes, ExecutesIn, IsPlain, Name, Nothing, Parsed, Schema, State, Table, and_then, cases_Bool, command, command_of, compiled, create_table, created, creates, everything, first, if_select, index_named, is_attached, is_reserved, lacks_sequence, list_any, listing_schema, meaning, next_tree, planned, position_from, returning, sequence, statement_of, table_named, timed, understood, view_named, with_command}
use Rattle.std.specs.Prelude.{if◌then◌else◌, slice_range, slice_get, option_and_then, ◌==◌}
use Rattle.std.specs.Option.{option_or}
use Rattle.std.proofs.lemmas.List.Folds.{list_any-append}
use Rattle.mq_lemmas.proofs.Booleans.{or_false}
use Rattle.sqlite_ast.specs.declared.Statement.TheVariants as written
use Rattle.sqlite_ast.specs.declared.CreateTable.{CreateTable as Definition}
use Rattle.sqlite.specs.Command.{Command}
use Rattle.sqlite.specs.Compile.{table_defined_by}
use Rattle.sqlite_resolve.specs.declared.error.CompileError.{CompileError}
use Rattle.sqlite_resolve.specs.declared.error.CompileError.TheVariants.{NoSuchTable, Unsupported, Misuse, Exists}
use Rattle.sqlite_resolve.specs.Define as define
use Rattle.mq_tables.specs.Tables.{setting_table, answer_table, trans_table, usage_table, ceiling_table, rule_table, retired_table}
use Rattle.mq_tables.specs.Written.{Created}
use Rattle.mq_tables.proofs.Plain.{parsed_in, as_compiled}
use Rattle.mq_tables.proofs.Statements.{creates as creates_known}

-- ---- what it is compiled to

-- what is made anew comes to the one command, or isn't made
pub made_anew : (k want : Command) (a r o s m : Bool) (e : CompileError) (d : Checked Command) → (d ≡ Ok k → k ≡ want) → m ≡ false
    → (if a then Err e else and_then (if r then Err Misuse else (if o then Err Exists else (if s then (if m then Ok false else Err Exists) else Ok true))) (λ is_new. if is_new then d else Ok Nothing)) ≡ Ok k → k ≡ want
made_anew k want true r o s m e d only off h = absurd (cc)
made_anew k want false true o s m e d only off h = absurd (cc)
made_anew k want false false true s m e d only off h = absurd (cc)
made_anew k want false false false true true e d only off h = absurd (true≢false off)
made_anew k want false false false true false e d only off h = absurd (cc)
made_anew k want false false false false m e d only off h = only h

last_test : (Makes : Table → Bool) (k : Command) (d : Checked Table) → and_then d (λ t. if Makes t then Ok CreateTable else Err Unsupported) ≡ Ok k → k ≡ CreateTable
last_test Makes k (Err e) h = absurd (cc)
last_test Makes k (Ok t) h = go (Makes t) h
  where
    go : (b : Bool) → ◌≡◌ {A = Checked Command} (if b then Ok CreateTable else Err Unsupported) (Ok k) → k ≡ CreateTable
    go true h = cc
    go false h = absurd (cc)

made_by : (s : Schema) (formats : List Name) (def : Definition) (k : Command) → def.if_missing ≡ false → create_table s formats def ≡ Ok k → k ≡ CreateTable
unfolding create_table creates
made_by s formats def k asks h =
    made_anew k CreateTable (is_attached s def.name) (is_reserved def.name) (is_some (index_named s def.name)) (is_some (option_or (table_named s def.name) (view_named s def.name))) def.if_missing Unsupported _
    (last_test (λ t. length t.computed == length t.stamps.places && not def.resolves) k (define.table formats def)) asks h

pub record IsCreate (p : Parsed) : Type 0 where
  pub definition : Definition
  pub statement : p.statement ≡ written.CreateTable definition
  pub asks : definition.if_missing ≡ false

pub one_plan : (p : Parsed) (c : Compiled) (want : Command) (r : Checked Command) → ((k : Command) → r ≡ Ok k → k ≡ want)
    → and_then (and_then (and_then r (λ k. Ok (k, None))) (λ found. Ok ([], found))) (λ plan. Ok (with_command p plan)) ≡ Ok c → c ≡ with_command p ([], (want, None))
one_plan p c want (Ok k) only h =
    let e : ◌≡◌ {A = Checked Compiled} (Ok (with_command p ([], (k, None)))) (Ok c) = h in
    let same : with_command p ([], (k, None)) ≡ c = cc in
    sym same ∙ ap (λ x. with_command p ([], (x, None))) (only k refl)
one_plan p c want (Err e) only h = absurd (cc)

plan_made : (s : Schema) (p : Parsed) (c : Compiled) → IsCreate p → and_then (planned s p) (λ plan. Ok (with_command p plan)) ≡ Ok c → c ≡ with_command p ([], (CreateTable, None))
unfolding planned meaning returning timed command
plan_made s p c it h = one_plan p c CreateTable (create_table s p.formats it.definition) (λ k e. made_by s p.formats it.definition k it.asks e) (rw it.statement at h)

-- the text makes this table
pub record MakesTable (text : List ℕ) (table : Table) : Type 0 where
  pub parses : first text ≡ Ok (parsed_in (first text))
  pub create : IsCreate (parsed_in (first text))
  pub unlisted : if_select (compiled listing_schema text) ≡ Err NoSuchTable
  pub whole : slice_range text (parsed_in (first text)).start (parsed_in (first text)).end ≡ text
  pub defined : table_defined_by text ≡ Ok table
  pub uncounted : table.is_counted ≡ false

module _ {text : List ℕ} {table : Table} (it : MakesTable text table) (s : Schema) (c : Compiled) where
  pub made : understood s text ≡ Ok c → c ≡ with_command (parsed_in (first text)) ([], (CreateTable, None))
  unfolding compiled
  made h = plan_made s (parsed_in (first text)) c it.create (rw it.parses at (as_compiled text it.unlisted s c h).1)

-- ---- the table that counts for others stays

pub place_kept : (p : Table → Bool) (n i : ℕ) (xs ys : List Table) → position_from p n xs ≡ Some i → position_from p n (xs ++ ys) ≡ Some i
place_kept p n i [] ys h = absurd (cc)
place_kept p n i (x ∷ xs) ys h = elim (cases_Bool (p x)) [ inl hit ↦ rw hit (rw hit at h) | inr other ↦ rw other (place_kept p (n + 1) i xs ys (rw other at h)) ]

pub get_kept : (xs ys : List Table) (i : ℕ) (t : Table) → slice_get xs i ≡ Some t → slice_get (xs ++ ys) i ≡ Some t
get_kept [] ys i t h = absurd (cc)
get_kept (x ∷ xs) ys zero t h = h
get_kept (x ∷ xs) ys (suc i) t h = get_kept xs ys i t h

counter_kept : (p : Table → Bool) (xs ys : List Table) → is_some (option_and_then (slice_get xs) (position_from p 0 xs)) ≡ true → is_some (option_and_then (slice_get (xs ++ ys)) (position_from p 0 (xs ++ ys))) ≡ true
counter_kept p xs ys h = go (position_from p 0 xs) refl h
  where
    at : (i : ℕ) (o : Option Table) → slice_get xs i ≡ o → is_some o ≡ true → is_some (slice_get (xs ++ ys) i) ≡ true
    at i None e some = absurd (true≢false (sym some))
    at i (Some t) e some = rw (get_kept xs ys i t e)

    go : (o : Option ℕ) → position_from p 0 xs ≡ o → is_some (option_and_then (slice_get xs) o) ≡ true → is_some (option_and_then (slice_get (xs ++ ys)) (position_from p 0 (xs ++ ys))) ≡ true
    go None e some = absurd (true≢false (sym some))
    go (Some i) e some = rw (place_kept p 0 i xs ys e) (at i (slice_get xs i) refl some)

pub counters_kept : (s : Schema) (t : Table) → t.is_counted ≡ false → lacks_sequence s ≡ false → lacks_sequence (created s t) ≡ false
counters_kept s t uncounted h =
    go (list_any (λ x. x.is_counted) s.tables) (is_some (sequence s)) (list_any-append (λ x. x.is_counted) s.tables (record t { tree = next_tree s } ∷ []) ∙ rw uncounted (or_false _)) (counter_kept _ s.tables _) h
  where
    go : {a2 c2 : Bool} (a c : Bool) → a2 ≡ a → (c ≡ true → c2 ≡ true) → a && not c ≡ false → a2 && not c2 ≡ false
    go false c same kept none = rw same
    go true false same kept none = absurd (true≢false none)
    go true true same kept none = rw (same, kept refl)

-- ---- the statement as a whole

module _ {text : List ℕ} {table : Table} (it : MakesTable text table) (old new : State) where
  pub creates_any : (count : ℕ) → lacks_sequence old.now.schema ≡ false → Executes text [] old new (Ok count) → Created old.now.schema table old new
  unfolding ExecutesIn
  creates_any count counters h =
      let c : Compiled = with_command (parsed_in (first text)) ([], (CreateTable, None)) in
      let is : understood old.now.schema text ≡ Ok c = h.1.is ∙ ap Ok (made it old.now.schema h.0 h.1.is) in
      creates_known text old new old.now.schema refl table (ap command_of is) (ap (statement_of text) is ∙ it.whole) it.defined (subst IsPlain (sym is) (refl, refl))
      (counters_kept old.now.schema table it.uncounted counters) count h

pub makes_setting : MakesTable (codes "CREATE TABLE setting (id INTEGER PRIMARY KEY, version INTEGER NOT NULL, minutes INTEGER NOT NULL, cap INTEGER NOT NULL, arrivals INTEGER NOT NULL) STRICT") setting_table
unfolding everything listing_schema
makes_setting = record { parses = refl; create = record { definition = _; statement = refl; asks = refl }; unlisted = refl; whole = refl; defined = refl; uncounted = refl }

pub makes_answer : MakesTable (codes "CREATE TABLE answer (n INTEGER PRIMARY KEY, host BLOB NOT NULL, run INTEGER NOT NULL, seq INTEGER NOT NULL, request BLOB NOT NULL, reply BLOB NOT NULL, UNIQUE (host, run, seq)) STRICT") answer_table
unfolding everything listing_schema
makes_answer = record { parses = refl; create = record { definition = _; statement = refl; asks = refl }; unlisted = refl; whole = refl; defined = refl; uncounted = refl }

pub makes_trans : MakesTable (codes "CREATE TABLE trans (host BLOB NOT NULL, run INTEGER NOT NULL, txn INTEGER NOT NULL, login BLOB NOT NULL, moment INTEGER NOT NULL, day INTEGER NOT NULL, held INTEGER NOT NULL, settled INTEGER NOT NULL, closed INTEGER NOT NULL, PRIMARY KEY (host, run, txn)) STRICT") trans_table
unfolding everything listing_schema
makes_trans = record { parses = refl; create = record { definition = _; statement = refl; asks = refl }; unlisted = refl; whole = refl; defined = refl; uncounted = refl }

pub makes_usage : MakesTable (codes "CREATE TABLE usage (login BLOB NOT NULL, day INTEGER NOT NULL, settled INTEGER NOT NULL, reserved INTEGER NOT NULL, PRIMARY KEY (login, day)) STRICT") usage_table
unfolding everything listing_schema
makes_usage = record { parses = refl; create = record { definition = _; statement = refl; asks = refl }; unlisted = refl; whole = refl; defined = refl; uncounted = refl }

pub makes_ceiling : MakesTable (codes "CREATE TABLE ceiling (login BLOB NOT NULL, day INTEGER NOT NULL, cap INTEGER NOT NULL, PRIMARY KEY (login, day)) STRICT") ceiling_table
unfolding everything listing_schema
makes_ceiling = record { parses = refl; create = record { definition = _; statement = refl; asks = refl }; unlisted = refl; whole = refl; defined = refl; uncounted = refl }

pub makes_rule : MakesTable (codes "CREATE TABLE rule (id INTEGER PRIMARY KEY, bytes BLOB NOT NULL) STRICT") rule_table
unfolding everything listing_schema
makes_rule = record { parses = refl; create = record { definition = _; statement = refl; asks = refl }; unlisted = refl; whole = refl; defined = refl; uncounted = refl }

pub makes_retired : MakesTable (codes "CREATE TABLE retired (host BLOB PRIMARY KEY, run INTEGER NOT NULL) STRICT") retired_table
unfolding everything listing_schema
makes_retired = record { parses = refl; create = record { definition = _; statement = refl; asks = refl }; unlisted = refl; whole = refl; defined = refl; uncounted = refl }
