-- A new ledger with the rule of its zone, where it has one.
use Rattle.std.proofs.Common.{◌≡◌, ◌≢◌, ◌<◌, ℕ, ℤ, Bool, true, false, List, [], ◌∷◌, Option, Some, None, IsTrue, refl, sym, ap, subst, ◌∙◌, arith}
use Rattle.mq_tables.proofs.Words.{AllByRecursion, Database, Schema, State, Table, all_both, all_weaker, created, next_tree}
use Rattle.mq_ledger.specs.Day.{ByOffset, ByRule, rule_in}
use Rattle.mq_ledger.specs.declared.zone.Zone.{Zone}
use Rattle.mq_tables.specs.declared.setting.NewSetting.{NewSetting}
use Rattle.mq_tables.specs.Tables.{setting_table, rule_table}
use Rattle.mq_tables.specs.Settings.{rule_fields}
use Rattle.mq_tables.specs.Making.{chain, trees_for, other_tables, five_tables, setting_row, IsMadeOverBy, three_tables, HasCounters, HasStarted, HasAdded, HasPut, PutsAny, IsMadeBy, AreMadeFor}
use Rattle.mq_tables.proofs.Chains.{of_chain}
use Rattle.mq_tables.proofs.Changes.{kept_of, rule_changed, ledger_stays}
use Rattle.mq_tables.specs.Places.{IsSettingIn, IsUsageIn}
use Rattle.mq_tables.proofs.making.NewLedger.{AreSeven, seven_made, without_rule}
use Rattle.mq_tables.proofs.making.Places.{all_below}
use Rattle.mq_tables.proofs.making.Indexed.{still_in, same_rows, stays}
use Rattle.mq_tables.specs.Indexing.{with_day_index, HasIndexed, IndexesIf}

-- with an offset there is none
module _ (minutes : ℤ) (cap : ℕ) (old new : Database) where
  abbrev by_offset : NewSetting
  by_offset = record { zone = ByOffset minutes; cap = cap }

  with_offset : AreSeven by_offset old new → IsMadeBy false by_offset old new
  with_offset it = record {
    sound = it.sound;
    schema = it.schema;
    row = it.row;
    rule = it.empty.1.1.1.1.0;
    empty = all_weaker (λ n. new.trees n ≡ []) (λ n. n ≢ next_tree (chain old.schema five_tables) → new.trees n ≡ []) (λ n none apart. none) (trees_for (created old.schema setting_table) other_tables) it.empty;
    setting = it.setting;
    ledger = it.ledger;
    others = it.others;
  }

-- with a rule its row is put in
module _ (text : List ℕ) (cap : ℕ) (a b c : State) where
  abbrev by_rule : NewSetting
  by_rule = record { zone = ByRule text; cap = cap }

  abbrev s : Schema
  s = a.now.schema

  abbrev tree : ℕ
  tree = next_tree (chain s five_tables)

  -- those that stand before it have other trees
  before : AllByRecursion (λ (t : Table). t.tree ≢ tree) s.tables × (next_tree s ≢ tree)
  before =
      let low = of_chain (λ n. n ≢ tree) five_tables s (all_weaker (λ (t : Table). t.tree < tree) (λ (t : Table). t.tree ≢ tree) (λ t l e. omega (arith, l, e)) (chain s five_tables).tables (all_below (chain s five_tables))) in
      (low.0, low.1.0)

  with_rule : AreSeven by_rule a.now b.now → HasPut tree (rule_fields text) b c → IsMadeBy false by_rule a.now c.now
  with_rule it put =
      let kept : AllByRecursion (λ t. t.tree ≢ tree → c.now.trees t.tree ≡ b.now.trees t.tree) (chain s (setting_table ∷ other_tables)).tables =
      subst (λ (x : Schema). AllByRecursion (λ t. t.tree ≢ tree → c.now.trees t.tree ≡ b.now.trees t.tree) x.tables) it.schema put.others in
      let parts = of_chain (λ n. n ≢ tree → c.now.trees n ≡ b.now.trees n) (setting_table ∷ other_tables) s kept in
      record {
        sound = put.sound;
        schema = put.schema ∙ it.schema;
        row = parts.1.0 before.1 ∙ it.row;
        rule = put.row_is;
        empty = all_both (λ n. n ≢ tree → c.now.trees n ≡ b.now.trees n) (λ n. b.now.trees n ≡ []) (λ n. n ≢ tree → c.now.trees n ≡ []) (λ n same none apart. same apart ∙ none) (trees_for (created s setting_table) other_tables) parts.1.1 it.empty;
        setting = record {
          tree = it.setting.tree;
          table = subst (λ x. IsSettingIn x it.setting.tree) (sym put.schema) it.setting.table;
          row = kept_of b.now.schema setting_table rule_table it.setting.tree tree b.now.trees c.now.trees it.setting.table it.rule refl put.others ∙ it.setting.row;
        };
        ledger = λ unnamed. rule_changed b.now c.now (without_rule by_rule) (it.ledger unnamed) put.schema put.sound (record { tree = tree; table = it.rule; holds = it.empty.1.1.1.1.0 }) refl put.others (Some text) put.row_is;
        others = all_both _ _ _ (λ t same was. same ∙ was) s.tables (all_both _ _ _ (λ t apart same. same apart) s.tables before.0 parts.0) it.others;
      }

-- that of what each login has used is where it was put
abbrev usage_tree : Schema → ℕ
usage_tree s = next_tree (chain s three_tables)

made_whole : (zone : Zone) (cap : ℕ) (a b c d : State) → HasStarted setting_table (setting_row (record { zone = zone; cap = cap })) a b → HasAdded other_tables b c → PutsAny (rule_in zone) c d
    → IsMadeBy false (record { zone = zone; cap = cap }) a.now d.now × IsUsageIn d.now.schema (usage_tree a.now.schema)
made_whole (ByOffset minutes) cap a b c d p q r =
    let it = seven_made (by_offset minutes cap a.now c.now) a b c p q in
    subst (λ db. IsMadeBy false (by_offset minutes cap a.now c.now) a.now db × IsUsageIn db.schema (usage_tree a.now.schema)) (sym r.1) (with_offset minutes cap a.now c.now it, it.usage)
made_whole (ByRule text) cap a b c d p q r =
    let it = seven_made (by_rule text cap a c d) a b c p q in
    let put = r.1 it.rule.at (tree text cap a c d) it.rule.named it.rule.there it.empty.1.1.1.1.0 in
    (with_rule text cap a c d it put, subst (λ s. IsUsageIn s (usage_tree a.now.schema)) (sym put.schema) it.usage)

pub made_all : (made_with : NewSetting) (a b c d : State) → (HasCounters a → HasStarted setting_table (setting_row made_with) a b) → (HasCounters b → HasAdded other_tables b c) → PutsAny (rule_in made_with.zone) c d → AreMadeFor made_with a.now d.now
made_all made_with a b c d p q r =
    let whole : HasCounters a → IsMadeBy false made_with a.now d.now × IsUsageIn d.now.schema (usage_tree a.now.schema) = λ counters.
    let started = p counters in
    made_whole made_with.zone made_with.cap a b c d started (q started.counters) r
    in
    record { made = record { made = λ counters. (whole counters).0 }; usage = λ counters. (whole counters).1 }

pub inside_by : (rule : Option (List ℕ)) (c d : State) → PutsAny rule c d → IsTrue d.in_transaction
inside_by None c d h = h.0
inside_by (Some text) c d h = h.0

-- ---- with the index

module _ (made_with : NewSetting) (old mid new : Database) (it : IsMadeBy false made_with old mid) (more : HasIndexed (usage_tree old.schema) mid new) where
  with_index : IsMadeBy true made_with old new
  with_index =
      let kept : AllByRecursion (λ t. new.trees t.tree ≡ mid.trees t.tree) (chain old.schema (setting_table ∷ other_tables)).tables = subst (λ (x : Schema). AllByRecursion (λ t. new.trees t.tree ≡ mid.trees t.tree) x.tables) it.schema more.rows in
      let parts = of_chain (λ n. new.trees n ≡ mid.trees n) (setting_table ∷ other_tables) old.schema kept in
      let set = it.setting in
      record {
        sound = more.sound;
        schema = more.schema ∙ ap (with_day_index (usage_tree old.schema)) it.schema;
        row = parts.1.0 ∙ it.row;
        rule = parts.1.1.1.1.1.1.0 ∙ it.rule;
        empty = all_both (λ n. new.trees n ≡ mid.trees n) (λ n. n ≢ next_tree (chain old.schema five_tables) → mid.trees n ≡ []) (λ n. n ≢ next_tree (chain old.schema five_tables) → new.trees n ≡ []) (λ n same none apart. same ∙ none apart) (trees_for (created old.schema setting_table) other_tables) parts.1.1 it.empty;
        setting = record { tree = set.tree; table = still_in _ mid new more setting_table set.tree set.table; row = same_rows _ mid new more setting_table set.tree set.table ∙ set.row };
        ledger = λ unnamed. ledger_stays (stays _ mid new more) _ (it.ledger unnamed);
        others = all_both _ _ _ (λ t later before. later ∙ before) old.schema.tables parts.0 it.others;
      }

pub indexed_made : (indexed : Bool) (made_with : NewSetting) (a b c : State) → AreMadeFor made_with a.now b.now → IndexesIf indexed b c → IsMadeOverBy indexed made_with a.now c.now
indexed_made true made_with a b c p q = record { made = λ counters. with_index made_with a.now b.now c.now (p.made.made counters) (q.1 _ (p.usage counters)) }
indexed_made false made_with a b c p q = subst (IsMadeOverBy false made_with a.now) (sym q.1) p.made

pub index_inside : (indexed : Bool) (b c : State) → IndexesIf indexed b c → IsTrue c.in_transaction
index_inside true b c h = h.0
index_inside false b c h = h.0
