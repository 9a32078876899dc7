-- What the statements of `create` leave, over any schema.
use Rattle.std.proofs.Common.{IsTrue, ◌≡◌, ◌≢◌, ℕ, ◌+◌, List, [], ◌∷◌, true, false, Some, Ok, Err, Result, arith, OnOk, slice_get, sym, ap, subst, ◌∙◌}
use Rattle.mq_tables.proofs.Words.{AllByRecursion, Error, ExecutesInside, Row, Schema, State, Table, all_both, created, lacks_sequence, next_tree, same_name, table_named}
use Rattle.mq_tables.specs.Tables.{answer_table, trans_table, usage_table, ceiling_table, rule_table, retired_table}
use Rattle.mq_tables.specs.Written.{Created}
use Rattle.mq_tables.specs.Making.{Makes, Puts, HasCounters, HasAdded, HasStarted, four_tables, later_tables, other_tables}
use Rattle.mq_tables.proofs.making.Creating.{MakesTable, creates_any, counters_kept}
use Rattle.mq_tables.proofs.making.Places.{placed, all_below}
use Rattle.mq_lemmas.proofs.Lists.{all_split}
use Rattle.mq_tables.proofs.Chains.{adds_both}
use Rattle.sqlite_catalog.proofs.StepLemmas.{no_table}

module _ {text : List ℕ} {table : Table} (it : MakesTable text table) (old new : State) where
  pub makes : (r : Result ℕ Error) → ExecutesInside 0 text [] old new r → OnOk r (Makes table old new)
  makes (Err e) h = tt
  makes (Ok count) h = (
    h.1.mode,
    λ counters.
        let done = creates_any it old new count counters h.0 in
        (done, subst (λ s. lacks_sequence s ≡ false) (sym done.schema_is) (counters_kept old.now.schema table it.uncounted counters)),
  )

-- what succeeds was asked of a store that was open
pub was_open : (text : List ℕ) (params : Row) (old new : State) (r : Result ℕ Error) → ExecutesInside 0 text params old new r → OnOk r (IsTrue old.is_open)
was_open text params old new (Err e) h = tt
was_open text params old new (Ok count) h = h.1.was_open

created_adds : (table : Table) (old new : State) → Created old.now.schema table old new → HasCounters new → HasAdded (table ∷ []) old new
created_adds table old new it counters = record { schema = it.schema_is; free = (it.free, tt); empty = (it.empty, tt); others = it.tables; counters = counters; sound = it.sound }

adds_next : (table : Table) (more : List Table) (a b z : State) → Makes table a b → (HasCounters b → HasAdded more b z) → HasCounters a → HasAdded (table ∷ more) a z
adds_next table more a b z p rest counters = let one = p.1 counters in adds_both (table ∷ []) more a b z (created_adds table a b one.0 one.1) (rest one.1)

adds_last : (table : Table) (a z : State) → Makes table a z → HasCounters a → HasAdded (table ∷ []) a z
adds_last table a z p counters = let one = p.1 counters in created_adds table a z one.0 one.1

-- ---- a table and its row

pub starts : (table : Table) (row : Row) → same_name table.name table.name ≡ true → (a b c : State) → Makes table a b → Puts table row b c → HasCounters a → HasStarted table row a c
starts table row self a b c p q counters =
    let one = p.1 counters in
    let s = a.now.schema in
    let made : Table = record table { tree = next_tree s } in
    let place = placed (λ t. same_name t.name table.name) 0 s.tables made (no_table s table.name one.0.free) self in
    let there : (at : ℕ) → 0 + at ≡ at = λ at. omega arith in
    let put = q.1 place.at (next_tree s) (ap (λ x. table_named x table.name) one.0.schema_is ∙ place.found ∙ ap Some (there place.at)) (ap (λ (x : Schema). slice_get x.tables place.at) one.0.schema_is ∙ place.there) one.0.empty in
    let kept : AllByRecursion (λ t. t.tree ≢ next_tree s → c.now.trees t.tree ≡ b.now.trees t.tree) (created s table).tables =
    subst (λ (x : Schema). AllByRecursion (λ t. t.tree ≢ next_tree s → c.now.trees t.tree ≡ b.now.trees t.tree) x.tables) one.0.schema_is put.others in
    let before = (all_split (λ t. t.tree ≢ next_tree s → c.now.trees t.tree ≡ b.now.trees t.tree) s.tables (made ∷ []) kept).0 in
    let same : AllByRecursion (λ t. c.now.trees t.tree ≡ b.now.trees t.tree) s.tables = all_both _ _ _ (λ t low apart. apart (λ e. omega (arith, low, e))) s.tables (all_below s) before in
    record {
      free = one.0.free;
      schema = put.schema ∙ one.0.schema_is;
      row_is = put.row_is;
      others = all_both _ _ _ (λ t later first. later ∙ first) s.tables same one.0.tables;
      counters = ap lacks_sequence put.schema ∙ one.1;
    }

-- ---- one table after another

pub adds_four : (a b c d e : State) → Makes answer_table a b → Makes trans_table b c → Makes usage_table c d → Makes ceiling_table d e → HasCounters a → HasAdded four_tables a e
adds_four a b c d e p q r s = adds_next answer_table _ a b e p (adds_next trans_table _ b c e q (adds_next usage_table _ c d e r (adds_last ceiling_table d e s)))

pub adds_later : (a b c : State) → Makes rule_table a b → Makes retired_table b c → HasCounters a → HasAdded (later_tables false) a c
adds_later a b c p q = adds_next rule_table _ a b c p (adds_last retired_table b c q)

pub adds_others : (a b c : State) → (HasCounters a → HasAdded four_tables a b) → (HasCounters b → HasAdded (later_tables false) b c) → HasCounters a → HasAdded other_tables a c
adds_others a b c p q counters = let one = p counters in adds_both four_tables (later_tables false) a b c one (q one.counters)
