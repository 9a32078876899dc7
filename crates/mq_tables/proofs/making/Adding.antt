-- One more table leaves a ledger where it is; so the tables of later versions come to one of an older version.
use Rattle.std.proofs.Common.{◌≡◌, ◌≢◌, ℕ, ◌<◌, ◌==◌, find, List, [], ◌∷◌, ◌++◌, Bool, true, false, Some, None, arith, refl, sym, ap, subst, ◌∙◌}
use Rattle.std.proofs.Common.{inl, inr, nat_le, true≢false}
use Rattle.std.proofs.lemmas.Bool.{ne_eqb}
use Rattle.mq_lemmas.proofs.Numbers.{other_number}
use Rattle.mq_tables.proofs.Words.{AllByRecursion, Schema, State, Table, Tables, all-append, all-slice_get, all_both, all_weaker, cases_Bool, created, lacks_sequence, next_tree, same_name}
use Rattle.std.specs.Prelude.{if◌then◌else◌}
use Rattle.sqlite_schema.specs.declared.schema.Reference.{Reference}
use Rattle.mq_tables.specs.Tables.{rule_table, retired_table}
use Rattle.mq_tables.specs.Settings.{rule_rows}
use Rattle.mq_tables.specs.Places.{IsTableIn, IsUnreferred, IsUnnamed, is_tree, refers}
use Rattle.mq_tables.specs.Records.{retired_fields, HoldsRetired}
use Rattle.mq_tables.specs.Ledger.{IsThere, HasRule, HasFloors, Since, HasLedger}
use Rattle.mq_tables.specs.Written.{Created}
use Rattle.mq_tables.specs.Making.{Makes, chain, later_tables}
use Rattle.mq_tables.specs.Indexing.{with_day_index, IndexesIf}
use Rattle.mq_tables.specs.Updates.{KeepsOthers}
use Rattle.mq_lemmas.proofs.Lists.{all_split}
use Rattle.mq_tables.proofs.Chains.{of_chain}
use Rattle.mq_tables.proofs.making.Found.{IsFound, begun, still_all, in_database}
use Rattle.mq_tables.proofs.making.Places.{all_below}
use Rattle.mq_tables.proofs.making.Indexed as indexed
use Rattle.mq_tables.specs.Migrating.{AddsRule, SetsVersion, HasMigrated, IsMigratedBy, migrated}
use Rattle.mq_tables.proofs.Changes.{is_since, Stays, rule_kept, with_rows, ledger_stays}
use Rattle.mq_tables.proofs.making.NewLedger.{names_selves, find_apart, holds_none}

-- ---- one more table leaves a ledger where it is

find_more : (p : Table → Bool) (tree : ℕ) (xs : List Table) (t : Table) → is_tree tree (find p xs) ≡ false → (t.tree == tree) ≡ false → is_tree tree (find p (xs ++ t ∷ [])) ≡ false
find_more p tree [] t none new = elim (p t) as (λ b. is_tree tree (if b then Some t else None) ≡ false) [ true ↦ new | false ↦ refl ]
find_more p tree (x ∷ xs) t none new = elim (cases_Bool (p x)) [ inl hit ↦ rw hit (rw hit at none) | inr other ↦ rw other (find_more p tree xs t (rw other at none) new) ]

-- a tree that is there is below the next one
there_below : (s : Schema) (made : Table) (tree : ℕ) → IsTableIn s made tree → tree < next_tree s
there_below s made tree p = all-slice_get (λ (t : Table). t.tree < next_tree s) s.tables p.at (record made { tree = tree }) p.there (all_below s)

module _ (s : Schema) (t : Table) (none : t.references ≡ []) (made : Table) (tree : ℕ) (place : IsTableIn s made tree) where
  still_apart : (ref : Reference) → refers s tree ref ≡ false → refers (created s t) tree ref ≡ false
  still_apart ref h = find_more (λ x. same_name x.name ref.parent) tree s.tables (record t { tree = next_tree s }) h (ne_eqb (next_tree s) tree (λ same. let low = there_below s made tree place in omega (arith, same, low)))

  pub still_alone : IsUnreferred s tree → IsUnreferred (created s t) tree
  still_alone h =
      all-append (λ (x : Table). AllByRecursion (λ ref. refers (created s t) tree ref ≡ false) x.references) s.tables (record t { tree = next_tree s } ∷ [])
      (all_weaker (λ (x : Table). AllByRecursion (λ ref. refers s tree ref ≡ false) x.references) (λ (x : Table). AllByRecursion (λ ref. refers (created s t) tree ref ≡ false) x.references)
      (λ x refs. all_weaker (λ ref. refers s tree ref ≡ false) (λ ref. refers (created s t) tree ref ≡ false) still_apart x.references refs) s.tables h)
      (subst (AllByRecursion (λ ref. refers (created s t) tree ref ≡ false)) (sym none) tt, tt)

module _ (old new : State) (t : Table) (none : t.references ≡ []) (it : Created old.now.schema t old new) where
  still_in : (made : Table) (tree : ℕ) → IsTableIn old.now.schema made tree → IsTableIn new.now.schema made tree
  still_in made tree p =
      let found : IsFound old.now.schema.tables (record made { tree = tree }) = record { at = p.at; named = p.named; there = p.there; found = p.found } in
      in_database made tree new.now it.sound (subst (λ (x : Schema). IsFound x.tables (record made { tree = tree })) (sym it.schema_is) (still_all (record made { tree = tree }) (t ∷ []) old.now.schema found))

  same_rows : (made : Table) (tree : ℕ) → IsTableIn old.now.schema made tree → new.now.trees tree ≡ old.now.trees tree
  same_rows made tree p = all-slice_get (λ (x : Table). new.now.trees x.tree ≡ old.now.trees x.tree) old.now.schema.tables p.at (record made { tree = tree }) p.there it.tables

  alone_in : (made : Table) (tree : ℕ) → IsTableIn old.now.schema made tree → IsUnreferred old.now.schema tree → IsUnreferred new.now.schema tree
  alone_in made tree p h = subst (λ x. IsUnreferred x tree) (sym it.schema_is) (still_alone old.now.schema t none made tree p h)

  pub stays : Stays (λ name. true) old.now new.now
  stays = record {
    sound = it.sound;
    still = still_in;
    alone = alone_in;
    unnamed = λ h. subst (λ x. IsUnnamed x retired_table.name) (sym it.schema_is)
        (all-append (λ (x : Table). AllByRecursion (λ ref. same_name retired_table.name ref.parent ≡ false) x.references) old.now.schema.tables (record t { tree = next_tree old.now.schema } ∷ []) h
        (subst (AllByRecursion (λ ref. same_name retired_table.name ref.parent ≡ false)) (sym none) tt, tt));
    rows = λ made tree there k. same_rows made tree there;
  }

  -- the new one is there, and empty
  pub empty_made : same_name t.name t.name ≡ true → IsThere new.now t []
  empty_made self = record {
    tree = next_tree old.now.schema;
    table = in_database t (next_tree old.now.schema) new.now it.sound (subst (λ (x : Schema). IsFound x.tables (record t { tree = next_tree old.now.schema })) (sym it.schema_is) (begun t self old.now.schema it.free));
    holds = it.empty;
  }

-- where no foreign key names a table so, none refers to the one that is made
new_alone : (s : Schema) → IsUnnamed s retired_table.name → IsUnreferred (created s retired_table) (next_tree s)
new_alone s unnamed =
    let tree : ℕ = next_tree s in
    let apart_ref : (ref : Reference) → same_name retired_table.name ref.parent ≡ false → refers (created s retired_table) tree ref ≡ false = λ ref other.
    find_apart (λ x. same_name x.name ref.parent) tree (created s retired_table).tables
    (all-append (λ (x : Table). same_name x.name ref.parent ≡ true → (x.tree == tree) ≡ false) s.tables (record retired_table { tree = tree } ∷ [])
    (all_weaker (λ (x : Table). x.tree < tree) (λ (x : Table). same_name x.name ref.parent ≡ true → (x.tree == tree) ≡ false) (λ x low hit. other_number x.tree tree low) s.tables (all_below s))
    ((λ hit. absurd (true≢false (sym hit ∙ other))), tt)) in
    all-append (λ (x : Table). AllByRecursion (λ ref. refers (created s retired_table) tree ref ≡ false) x.references) s.tables (record retired_table { tree = tree } ∷ [])
    (all_weaker (λ (x : Table). AllByRecursion (λ ref. same_name retired_table.name ref.parent ≡ false) x.references) (λ (x : Table). AllByRecursion (λ ref. refers (created s retired_table) tree ref ≡ false) x.references)
    (λ x refs. all_weaker (λ ref. same_name retired_table.name ref.parent ≡ false) (λ ref. refers (created s retired_table) tree ref ≡ false) apart_ref x.references refs) s.tables unnamed)
    (tt, tt)

-- ---- the tables of later versions

pub was_before : (Now Before : Type 0) (b : Bool) → b ≡ false → Since b Now Before → Before
was_before Now Before true e h = absurd cc
was_before Now Before false e h = h

-- of the tables that are there after one more, those before it
before_made : (P : Table → Type 0) (s more : Schema) (t : Table) → more ≡ created s t → AllByRecursion P more.tables → AllByRecursion P s.tables
before_made P s more t is h = (all_split P s.tables (record t { tree = next_tree s } ∷ []) (subst (λ (x : Schema). AllByRecursion P x.tables) is h)).0

-- the table of the floors is made, and the version set
module _ (b c d : State) (t : Tables) (old : nat_le 3 t.setting.version ≡ false) (q : Makes retired_table b c) (s : SetsVersion c.now d.now) where
  floors_added : (l : HasLedger b.now t) → HasRule b.now t.setting.rule → lacks_sequence b.now.schema ≡ false → HasLedger d.now (migrated t) × (d.now.schema ≡ created b.now.schema retired_table) × KeepsOthers b.now.schema l.at.setting b.now.trees d.now.trees
  unfolding empty_made ledger_stays with_rows
  floors_added l rule counters =
      let two = (q.1 counters).0 in
      let before = was_before _ _ (nat_le 3 t.setting.version) old l.later.retired in
      let floors : HasFloors c.now t.retired = record {
        tree = next_tree b.now.schema;
        table = (empty_made b c retired_table refl two names_selves.6).table;
        alone = subst (λ x. IsUnreferred x (next_tree b.now.schema)) (sym two.schema_is) (new_alone b.now.schema before.unnamed);
        holds = subst (HoldsRetired (c.now.trees (next_tree b.now.schema))) (sym before.none) (holds_none retired_fields _ two.empty);
      } in
      let set = s t (ledger_stays (stays b c retired_table refl two) t l) (rule_kept (stays b c retired_table refl two) _ refl rule) floors in
      let kept = before_made (λ (x : Table). x.tree ≢ l.at.setting → d.now.trees x.tree ≡ c.now.trees x.tree) b.now.schema c.now.schema retired_table two.schema_is set.2 in
      (set.0, set.1 ∙ two.schema_is, all_both _ _ _ (λ x same was apart. same apart ∙ was) b.now.schema.tables kept two.tables)

pub migrates_from : (has_rule : Bool) (a b c d : State) → AddsRule has_rule a b → Makes retired_table b c → SetsVersion c.now d.now → IsMigratedBy false has_rule a.now d.now
unfolding ledger_stays with_rows
migrates_from true a b c d p q s = record {
  made = λ counters t l is old.
      subst (λ db. lacks_sequence db.schema ≡ false → (l : HasLedger db t) → HasMigrated false true t l.at.setting db d.now) p.1
      (λ counters l.
      let added = floors_added b c d t old q s l (is_since _ _ (nat_le 2 t.setting.version) is l.later.rule) counters in
      record { ledger = added.0; schema = added.1; others = added.2 })
      counters l;
}
migrates_from false a b c d p q s = record {
  made = λ counters t l is old.
      let one = p.1 counters in
      let none : t.setting.rule ≡ None = was_before _ _ (nat_le 2 t.setting.version) is l.later.rule in
      let rule : HasRule b.now t.setting.rule = subst (λ r. IsThere b.now rule_table (rule_rows r)) (sym none) (empty_made a b rule_table refl one.0 names_selves.5) in
      let added = floors_added b c d t old q s (ledger_stays (stays a b rule_table refl one.0) t l) rule one.1 in
      let kept = before_made (λ (x : Table). x.tree ≢ l.at.setting → d.now.trees x.tree ≡ b.now.trees x.tree) a.now.schema b.now.schema rule_table one.0.schema_is added.2 in
      record { ledger = added.0; schema = added.1 ∙ ap (λ x. created x retired_table) one.0.schema_is; others = all_both _ _ _ (λ x same was apart. same apart ∙ was) a.now.schema.tables kept one.0.tables };
}

-- ---- and the index

pub migrated_indexed : (indexed has_rule : Bool) (a d e : State) → IsMigratedBy false has_rule a.now d.now → IndexesIf indexed d e → IsMigratedBy indexed has_rule a.now e.now
unfolding ledger_stays with_rows
migrated_indexed true has_rule a d e p q = record {
  made = λ counters t l is old.
      let m = p.made counters t l is old in
      let tree = m.ledger.at.usage in
      let more = q.1 tree m.ledger.tables.usage in
      let kept : AllByRecursion (λ t. e.now.trees t.tree ≡ d.now.trees t.tree) (chain a.now.schema (later_tables has_rule)).tables = subst (λ (x : Schema). AllByRecursion (λ t. e.now.trees t.tree ≡ d.now.trees t.tree) x.tables) m.schema more.rows in
      let before = (of_chain (λ n. e.now.trees n ≡ d.now.trees n) (later_tables has_rule) a.now.schema kept).0 in
      record {
        ledger = ledger_stays (indexed.stays tree d.now e.now more) (migrated t) m.ledger;
        schema = more.schema ∙ ap (with_day_index tree) m.schema;
        others = all_both _ _ _ (λ x same was apart. same ∙ was apart) a.now.schema.tables before m.others;
      };
}
migrated_indexed false has_rule a d e p q = subst (IsMigratedBy false has_rule a.now) (sym q.1) p
