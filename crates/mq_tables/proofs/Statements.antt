-- What one statement on a table of a known schema leaves, whatever the table is.
use Rattle.std.proofs.Common.{◌≡◌, ◌⊎◌, inl, inr, ℕ, ◌/◌, List, [], ◌∷◌, length, slice_get, Bool, false, Option, Some, None, Ok, Err, Result, refl, sym, ap, subst, subst₂, ◌∙◌}
use Rattle.mq_tables.proofs.Words.{Above, AllByRecursion, Applies, Chosen, Counts, CountsIn, CreateTable, Database, Does, Edit, Executes, Given, Gives, Insert, Inserts, IsPermutation, IsPlain, Null, OnRows, Row, Schema, State, Table, Tally, Task, Term, Trees, Update, WritesRows, Written, all_weaker, and_parts, command_of, count_of, created, edit_of, eval_all, higher, ids_of, int_cmp, is_lt, is_used, lacks_sequence, mode_of, next_tree, not-true, one_step, rowids_for, runs_as, sequence, stamped, statement_of, taken_by, understood, value_rows, with_rowid}
use Rattle.std.specs.Prelude.{fold, MatchBool, ℤ, if◌then◌else◌}
use Rattle.sqlite.specs.Source.TheVariants.{Values}
use Rattle.sqlite.specs.Command.{Command}
use Rattle.sqlite.specs.Cast.{cast_row}
use Rattle.sqlite.specs.declared.run.Mode.{Mode}
use Rattle.sqlite_rules.specs.Action.{works, Writes}
use Rattle.sqlite_schema.specs.declared.schema.Keys.TheVariants.{Enforced}
use Rattle.sqlite.specs.State.{Writes as Writes'}
use Rattle.sqlite.specs.Compile.{table_defined_by}
use Rattle.sqlite_schema.specs.declared.program.Program.{Program}
use Rattle.sqlite_schema.specs.Program.{lets_of}
use Rattle.sqlite.specs.Program.{overlay, IsProgramAnswer}
use Rattle.sqlite.specs.Query.{IsAnswer}
use Rattle.mq_tables.proofs.Queries.{answer_rows}
use Rattle.mq_tables.specs.Written.{Inserted, Updated, Created, plain_query, chosen}

pub went : {B E R : Type 0} {b : B} {Stops : E → Type 0} → ((stop : E) × Stops stop × (Ok b ≡ Err stop)) ⊎ R → R
went (inl stopped) = absurd (let e = stopped.2 in cc)
went (inr on) = on

pub same_value : {B E : Type 0} {a b : B} → ◌≡◌ {A = Result B E} (Ok a) (Ok b) → a ≡ b
same_value e = cc

-- nothing acts on the table, nor does it count its rows or read the time
pub record IsPlainTable (schema : Schema) (at : ℕ) (table : Table) : Type 0 where
  pub place : slice_get schema.tables at ≡ Some table
  pub uncounted : table.is_counted ≡ false
  pub timeless : (params : Row) → stamped table params ≡ params
  pub unreferred : (news : List Row) → works schema Enforced 0 table.tree [] news ≡ []

concluded : (task : Task) (mode : Mode) (command : Command) (db : Trees) (out : Tally × Database) → OnRows task mode None command db (Ok out)
    → (w : Written) × WritesRows task db command (Ok w) × (out.1 ≡ record { schema = task.schema; trees = w.trees })
concluded task mode command db out h =
    let done = went h in
    (done.0, done.1, ap (λ (p : Tally × Database). p.1) (same_value (went (went done.2).2).2))

abbrev new_row : Trees → Table → Row → List Term → Row
new_row db table params terms = with_rowid Chosen (db table.tree) (cast_row table (eval_all terms (params ∷ [])))

abbrev one_edit : Trees → Table → Row → List Term → Edit
one_edit db table params terms = record { table = table; gone = []; news = new_row db table params terms ∷ [] }

same_edit : (db : Trees) (table : Table) (params : Row) (terms : List Term) (top : ℤ) (rows : List Row) → table.is_counted ≡ false → rows ≡ eval_all terms (params ∷ []) ∷ []
    → edit_of db table [] (rowids_for table top) 0 rows ≡ one_edit db table params terms
same_edit db table params terms top rows uncounted one =
    ap (λ (all : List Row). edit_of db table [] (rowids_for table top) 0 all) one
    ∙ ap (λ (b : Bool). edit_of db table [] (if b then Above top else Chosen) 0 (eval_all terms (params ∷ []) ∷ [])) uncounted

uncounted_trees : (task : Task) (db next : Trees) (counter : Option Row) (top : ℤ) → task.table.is_counted ≡ false → Counts task db counter top (Ok next) → next ≡ db
uncounted_trees task db next counter top uncounted h =
    same_value (subst (λ (b : Bool). MatchBool (if b then is_lt (int_cmp (count_of counter) top) else false) (CountsIn task db counter top (sequence task.schema) (Ok next)) (Gives db (Ok next))) uncounted h)

put_in : (task : Task) (at : ℕ) (it : IsPlainTable task.schema at task.table) (enforced : task.keys ≡ Enforced) (terms : List Term) (width : ℕ) (db : Trees) (w : Written)
    → value_rows task.params width (length terms / width) terms ≡ eval_all terms (task.params ∷ []) ∷ []
    → Inserts task (Values terms width) db (Ok w) → Applies task.schema Enforced db (one_edit db task.table task.params terms) w.trees
put_in task at it enforced terms width db w one h =
    let given = went h in
    let rows : given.0 ≡ eval_all terms (task.params ∷ []) ∷ [] = given.1.1 ∙ ap (λ (ps : Row). value_rows ps width (length terms / width) terms) (it.timeless task.params) ∙ one in
    let counter = went given.2 in
    let written = went counter.2 in
    let counted = went written.2 in
    let one' = one_edit db task.table task.params terms in
    let made : Edit = edit_of db task.table [] (rowids_for task.table (count_of counter.0)) 0 given.0 in
    let same : made ≡ one' = same_edit db task.table task.params terms (count_of counter.0) given.0 it.uncounted rows in
    let trees : w.trees ≡ written.0 = ap (λ (x : Written). x.trees) (same_value counted.2) ∙ uncounted_trees task written.0 counted.0 counter.0 (fold higher (count_of counter.0) made.news) it.uncounted counted.1 in
    let made = one_step task.schema Enforced db written.0 one' (it.unreferred one'.news)
    (subst (λ (x : Edit). Writes task.schema Enforced db x (Ok written.0)) same (subst (λ k. Writes task.schema k db made (Ok written.0)) enforced written.1)) in
    subst (Applies task.schema Enforced db (one_edit db task.table task.params terms)) (sym trees) made

module _ (sql : List ℕ) (params : Row) (old new : State) (schema : Schema) (has : old.now.schema ≡ schema) (at : ℕ) (table : Table) (it : IsPlainTable schema at table) where
  pub inserts : (terms : List Term) (width : ℕ) → command_of (understood schema sql) ≡ Insert at (Values terms width) → IsPlain (understood schema sql)
      → value_rows params width (length terms / width) terms ≡ eval_all terms (params ∷ []) ∷ []
      → (count : ℕ) → Executes sql params old new (Ok count) → Inserted schema table (new_row old.now.trees table params terms) old new
  inserts terms width is plain one count h =
      let command = Insert at (Values terms width) in
      let w = runs_as sql params old new schema has command is plain count h in
      let text = statement_of sql (understood schema sql) in
      let task : Task = record { limit = old.step_limit; keys = Enforced; schema = schema; table = table; params = params } in
      let done = concluded task (mode_of old) command old.now.trees (w.tally, new.now) (rw it.place at (subst (λ s. Does old.step_limit (mode_of old) params (record old.now { schema = s }) text None command (Ok (w.tally, new.now))) has w.changed)) in
      let made = put_in task at it refl terms width old.now.trees done.0 one done.1 in
      record {
        sound = w.sound;
        schema_is = ap (λ (d : Database). d.schema) done.2;
        keyed = (and_parts _ _ made.keyed).0;
        fresh = not-true _ (and_parts _ _ made.fresh).0;
        rows = ap (λ (d : Database). d.trees table.tree) done.2 ∙ made.rows;
        tables = all_weaker _ _ (λ t same apart. ap (λ (d : Database). d.trees t.tree) done.2 ∙ same apart) schema.tables made.tables;
      }

  pub updates : ((olds news : List Row) → works schema Enforced 0 table.tree olds news ≡ []) → (q : Program) (tests project : List Term) → command_of (understood schema sql) ≡ Update at q → (lets_of q ≡ []) × (q.body ≡ plain_query table.tree tests project) → IsPlain (understood schema sql)
      → overlay old.now.trees [] table.tree ≡ old.now.trees table.tree
      → (count : ℕ) → Executes sql params old new (Ok count) → Updated schema table tests project params old new
  updates unreferred q tests project is body plain bare count h =
      let command = Update at q in
      let w = runs_as sql params old new schema has command is plain count h in
      let text = statement_of sql (understood schema sql) in
      let task : Task = record { limit = old.step_limit; keys = Enforced; schema = schema; table = table; params = params } in
      let done = concluded task (mode_of old) command old.now.trees (w.tally, new.now) (rw it.place at (subst (λ s. Does old.step_limit (mode_of old) params (record old.now { schema = s }) text None command (Ok (w.tally, new.now))) has w.changed)) in
      let read = went done.1 in
      let wrote = went read.2 in
      let edit : Edit = edit_of old.now.trees table (ids_of read.0) Given 1 read.0 in
      let trees : done.0.trees ≡ wrote.0 = ap (λ (x : Written). x.trees) (same_value wrote.2) in
      let made = one_step schema Enforced old.now.trees wrote.0 edit (unreferred (taken_by old.now.trees edit) edit.news) wrote.1 in
      let answer : IsProgramAnswer (lets_of q) q.body old.now.trees params read.0 = read.1.answer in
      let bodied : IsAnswer (plain_query table.tree tests project) (overlay old.now.trees []) params read.0 =
      subst (λ b. IsAnswer b (overlay old.now.trees []) params read.0) body.1 ((subst (λ ls. IsProgramAnswer ls q.body old.now.trees params read.0) body.0 answer) Null) in
      record {
        sound = w.sound;
        schema_is = ap (λ (d : Database). d.schema) done.2;
        hits = read.0;
        found = subst (λ all. IsPermutation (chosen tests project params all) read.0) bare (answer_rows table.tree tests project (overlay old.now.trees []) params read.0 bodied);
        keyed = made.keyed;
        fresh = made.fresh;
        rows = ap (λ (d : Database). d.trees table.tree) done.2 ∙ ap (λ (f : Trees). f table.tree) trees ∙ made.rows;
        tables = all_weaker _ _ (λ t same apart. ap (λ (d : Database). d.trees t.tree) done.2 ∙ ap (λ (f : Trees). f t.tree) trees ∙ same apart) schema.tables made.tables;
      }

kept_rows : (tables : List Table) (before : Trees) (made after : Database) → after ≡ made → AllByRecursion (λ t. made.trees t.tree ≡ before t.tree) tables → AllByRecursion (λ t. after.trees t.tree ≡ before t.tree) tables
kept_rows tables before made after same h = subst (λ (d : Database). AllByRecursion (λ t. d.trees t.tree ≡ before t.tree) tables) (sym same) h

module _ (sql : List ℕ) (old new : State) (schema : Schema) (has : old.now.schema ≡ schema) (table : Table) where
  pub creates : command_of (understood schema sql) ≡ CreateTable → statement_of sql (understood schema sql) ≡ sql → table_defined_by sql ≡ Ok table → IsPlain (understood schema sql)
      → lacks_sequence (created schema table) ≡ false
      → (count : ℕ) → Executes sql [] old new (Ok count) → Created schema table old new
  creates is whole defined plain unsequenced count h =
      let w = subst (λ t. Writes' old new None CreateTable t [] count) whole (runs_as sql [] old new schema has CreateTable is plain count h) in
      let all = went w.changed in
      let first = went all.1 in
      let made = first.1 in
      let both : Ok made.table ≡ Ok table = sym made.defined ∙ defined in
      let same : made.table ≡ table = same_value both in
      let after : first.0.schema ≡ created schema table = made.is ∙ ap (λ s. created s made.table) has ∙ ap (created schema) same in
      let none : lacks_sequence first.0.schema ≡ false = ap lacks_sequence after ∙ unsequenced in
      let kept : all.0 ≡ first.0 = same_value (rw none at first.2) in
      let now : new.now ≡ first.0 = ap (λ (p : Tally × Database). p.1) (same_value all.2) ∙ kept in
      record {
        sound = w.sound;
        schema_is = ap (λ (d : Database). d.schema) now ∙ after;
        free = subst₂ (λ (t : Table) (s : Schema). is_used s t.name ≡ false) same has made.free;
        empty = ap (λ (d : Database). d.trees (next_tree schema)) now ∙ subst (λ s. first.0.trees (next_tree s) ≡ []) has made.empty;
        tables = subst (λ (s : Schema). AllByRecursion (λ t. new.now.trees t.tree ≡ old.now.trees t.tree) s.tables) has (kept_rows old.now.schema.tables old.now.trees first.0 new.now now made.others);
      }
