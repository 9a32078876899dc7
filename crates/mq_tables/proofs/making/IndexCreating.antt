-- CREATE INDEX over any schema that has our table at some place.
use Rattle.std.proofs.Common.{◌≡◌, ℕ, List, [], false, not, Some, None, is_some, Ok, Err, Result, OnOk, codes, refl, sym, ap, subst, ◌∙◌}
use Rattle.mq_tables.proofs.Words.{Checked, Compiled, CreateIndex, Database, Error, IsPlain, Parsed, Schema, Table, Tally, and_then, command, command_of, compiled, create_index, creates, everything, first, if_select, index_named, is_reserved, listing_schema, meaning, planned, returning, runs_as, statement_of, table_named, timed, understood, view_named, with_command}
use Rattle.std.specs.Prelude.{slice_range, slice_get}
use Rattle.std.specs.Option.{option_or}
use Rattle.sqlite_ast.specs.declared.Statement.TheVariants as written
use Rattle.sqlite_ast.specs.declared.CreateIndex.{CreateIndex as Definition}
use Rattle.sqlite.specs.Command.{Command}
use Rattle.sqlite.specs.State.{State, Executes, ExecutesIn, ExecutesInside, Writes}
use Rattle.sqlite.specs.Compile.{index_defined_by}
use Rattle.sqlite_catalog.specs.Change.{is_used, indexed as indexed_in, KeepsRows}
use Rattle.sqlite_schema.specs.declared.schema.Index.{Index}
use Rattle.sqlite_resolve.specs.declared.error.CompileError.TheVariants.{NoSuchTable, Misuse}
use Rattle.sqlite_resolve.specs.Define as define
use Rattle.mq_tables.specs.Tables.{usage_table}
use Rattle.mq_tables.specs.Places.{IsUsageIn}
use Rattle.mq_tables.specs.Indexing.{day_index, Indexes, HasIndexed, IsIndexed}
use Rattle.mq_tables.proofs.Plain.{parsed_in, as_compiled}
use Rattle.mq_tables.proofs.Statements.{went, same_value}
use Rattle.mq_tables.proofs.making.Creating.{made_anew, one_plan}
use Rattle.mq_tables.proofs.Changes.{ledger_stays}
use Rattle.mq_tables.proofs.making.Indexed.{stays}
use Rattle.mq_tables.proofs.making.Naming.{taken_by}

abbrev pub index_text : List ℕ
index_text = codes "CREATE INDEX usage_by_day ON usage (day, login)"

-- ---- what it is compiled to

module _ (k : Command) (at : ℕ) where
  last_test : (d : Checked Index) → and_then d (λ _. Ok (CreateIndex at)) ≡ Ok k → k ≡ CreateIndex at
  last_test (Err e) h = absurd (cc)
  last_test (Ok i) h = cc

  index_by : (s : Schema) (def : Definition) (table : Table) → def.if_missing ≡ false → table_named s def.table ≡ Some at → slice_get s.tables at ≡ Some table → create_index s def ≡ Ok k → k ≡ CreateIndex at
  unfolding create_index creates
  index_by s def table asks named there h =
      made_anew k (CreateIndex at) (is_reserved def.table) (is_reserved def.name) (is_some (option_or (table_named s def.name) (view_named s def.name))) (is_some (index_named s def.name)) def.if_missing Misuse _ (last_test (define.index table def)) asks
      (rw (named, there) at h)

pub record IsIndexing (p : Parsed) : Type 0 where
  pub definition : Definition
  pub statement : p.statement ≡ written.CreateIndex definition
  pub asks : definition.if_missing ≡ false
  pub on : definition.table ≡ usage_table.name
  pub timeless : p.formats ≡ []

indexing : IsIndexing (parsed_in (first index_text))
unfolding everything
indexing = record { definition = _; statement = refl; asks = refl; on = refl; timeless = refl }

parses : first index_text ≡ Ok (parsed_in (first index_text))
unfolding everything
parses = refl

unlisted : if_select (compiled listing_schema index_text) ≡ Err NoSuchTable
unfolding everything listing_schema
unlisted = refl

whole : slice_range index_text (parsed_in (first index_text)).start (parsed_in (first index_text)).end ≡ index_text
unfolding everything
whole = refl

defined : (tree : ℕ) → index_defined_by (record usage_table { tree = tree }) index_text ≡ Ok (day_index tree)
unfolding everything
defined tree = refl

module _ (s : Schema) (tree : ℕ) (place : IsUsageIn s tree) where
  abbrev as_index : Compiled
  as_index = with_command (parsed_in (first index_text)) ([], (CreateIndex place.at, None))

  plan_indexed : (p : Parsed) (c : Compiled) → IsIndexing p → and_then (planned s p) (λ plan. Ok (with_command p plan)) ≡ Ok c → c ≡ with_command p ([], (CreateIndex place.at, None))
  unfolding planned meaning returning timed command
  plan_indexed p c it h =
      one_plan p c (CreateIndex place.at) (create_index s it.definition)
      (λ k e. index_by k place.at s it.definition (record usage_table { tree = tree }) it.asks (ap (table_named s) it.on ∙ place.named) place.there e) (rw (it.statement, it.timeless) at h)

  indexed : (c : Compiled) → understood s index_text ≡ Ok c → c ≡ as_index
  unfolding compiled
  indexed c h = plan_indexed (parsed_in (first index_text)) c indexing (rw parses at (as_compiled index_text unlisted s c h).1)

-- ---- the statement as a whole

module _ (old new : State) (tree : ℕ) (place : IsUsageIn old.now.schema tree) where
  index_made : (count : ℕ) → Executes index_text [] old new (Ok count) → HasIndexed tree old.now new.now
  unfolding ExecutesIn
  index_made count h =
      let c : Compiled = as_index old.now.schema tree place in
      let is : understood old.now.schema index_text ≡ Ok c = h.1.is ∙ ap Ok (indexed old.now.schema tree place h.0 h.1.is) in
      let w = subst (λ t. Writes old new None (CreateIndex place.at) t [] count) (ap (statement_of index_text) is ∙ whole) (runs_as index_text [] old new old.now.schema refl (CreateIndex place.at) (ap command_of is) (subst IsPlain (sym is) (refl, refl)) count h) in
      let all = went (rw place.there at w.changed) in
      let made = all.1 in
      let same : made.index ≡ day_index tree = same_value (sym made.defined ∙ defined tree) in
      let now : new.now ≡ all.0 = ap (λ (p : Tally × Database). p.1) (same_value all.2) in
      record {
        sound = w.sound;
        free = ap not (taken_by old.now.schema (day_index 0).name (subst (λ (i : Index). is_used old.now.schema i.name ≡ false) same made.free));
        schema = ap (λ (d : Database). d.schema) now ∙ made.is ∙ ap (indexed_in old.now.schema (record usage_table { tree = tree })) same;
        rows = subst (λ (d : Database). KeepsRows old.now.schema.tables old.now.trees d.trees) (sym now) made.rows;
      }

pub indexes : (old new : State) (r : Result ℕ Error) → ExecutesInside 0 index_text [] old new r → OnOk r (Indexes old new)
indexes old new (Err e) h = tt
indexes old new (Ok count) h = (h.1.mode, λ tree place. index_made old new tree place count h.0)

-- so a ledger has it
pub has_indexed : (old new : State) → Indexes old new → IsIndexed old.now new.now
has_indexed old new h = record { made = λ t l. let it = h.1 l.at.usage l.tables.usage in (it, ledger_stays (stays l.at.usage old.now new.now it) t l) }
