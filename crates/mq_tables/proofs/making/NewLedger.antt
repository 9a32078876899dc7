-- The five tables of a new ledger are found, and hold the rows of the empty history.
use Rattle.std.proofs.Common.{◌≡◌, inl, inr, ℕ, pos, ◌<◌, ◌==◌, find, List, [], ◌∷◌, Bool, true, false, None, true≢false, refl, sym, ap, subst, ◌∙◌}
use Rattle.mq_tables.proofs.Words.{AllByRecursion, Database, IsDatabase, IsPermutation-refl, Row, Schema, State, Table, Tables, all-append, all_both, all_weaker, cases_Bool, created, is_used, next_tree, or_parts, same_name}
use Rattle.std.specs.Prelude.{⊤}
use Rattle.sqlite_schema.specs.declared.schema.Reference.{Reference}
use Rattle.mq_lemmas.proofs.Numbers.{other_number}
use Rattle.mq_tables.specs.Tables.{setting_table, answer_table, trans_table, usage_table, ceiling_table, rule_table, retired_table}
use Rattle.mq_tables.specs.declared.setting.NewSetting.{NewSetting}
use Rattle.mq_tables.specs.Places.{IsTableIn, IsUnreferred, is_tree, refers}
use Rattle.mq_tables.specs.Records.{Holds}
use Rattle.mq_tables.specs.Ledger.{HasLedger, IsLedgerIn}
use Rattle.mq_tables.specs.Settings.{HasSetting, setting_after}
use Rattle.mq_tables.specs.Making.{chain, trees_for, is_ours, AllFree, AreUnnamed, other_tables, three_tables, five_tables, ledger_over, setting_row, new_rows, HasStarted, HasAdded}
use Rattle.mq_tables.proofs.Chains.{of_chain}
use Rattle.mq_tables.proofs.making.Found.{IsFound, begun, still_all, in_database}
use Rattle.mq_tables.proofs.making.Places.{all_below}

pub names_selves : (same_name setting_table.name setting_table.name ≡ true) × (same_name answer_table.name answer_table.name ≡ true) × (same_name trans_table.name trans_table.name ≡ true)
    × (same_name usage_table.name usage_table.name ≡ true) × (same_name ceiling_table.name ceiling_table.name ≡ true) × (same_name rule_table.name rule_table.name ≡ true) × (same_name retired_table.name retired_table.name ≡ true)
unfolding same_name
names_selves = (refl, refl, refl, refl, refl, refl, refl)

-- the rows of a new ledger before its rule is put in
abbrev pub without_rule : NewSetting → Tables
without_rule made_with = record (new_rows made_with) { setting = record (new_rows made_with).setting { rule = None } }

-- ---- no foreign key refers to a new table

abbrev AllMade : (Table → Type 0) → Schema → List Table → Type 0
AllMade P s [] = ⊤
AllMade P s (t ∷ more) = P (record t { tree = next_tree s }) × AllMade P (created s t) more

all_chain : (P : Table → Type 0) (made : List Table) (s : Schema) → AllByRecursion P s.tables → AllMade P s made → AllByRecursion P (chain s made).tables
all_chain P [] s h k = h
all_chain P (t ∷ more) s h k = all_chain P more (created s t) (all-append P s.tables _ h (k.0, tt)) k.1

pub find_apart : (p : Table → Bool) (tree : ℕ) (xs : List Table) → AllByRecursion (λ (t : Table). p t ≡ true → (t.tree == tree) ≡ false) xs → is_tree tree (find p xs) ≡ false
find_apart p tree [] h = refl
find_apart p tree (x ∷ xs) h = elim (cases_Bool (p x)) [ inl hit ↦ rw hit (h.0 hit) | inr other ↦ rw other (find_apart p tree xs h.1) ]

unlike : {P : Type 0} (b : Bool) → b ≡ false → b ≡ true → P
unlike b not_so is = absurd (true≢false (sym is ∙ not_so))

module _ (s : Schema) (before : List Table) where
  abbrev tree : ℕ
  tree = next_tree (chain s before)

  older : AllByRecursion (λ (t : Table). t.tree < tree) s.tables
  older = (of_chain (λ n. n < tree) before s (all_below (chain s before))).0

  not_referred : (ref : Reference) → is_ours ref.parent ≡ false → refers (ledger_over s) tree ref ≡ false
  not_referred ref others =
      let p : Table → Bool = λ t. same_name t.name ref.parent in
      let a = or_parts _ _ others in
      let b = or_parts _ _ a.1 in
      let c = or_parts _ _ b.1 in
      let d = or_parts _ _ c.1 in
      let e = or_parts _ _ d.1 in
      let f = or_parts _ _ e.1 in
      find_apart p tree (ledger_over s).tables
      (all_chain (λ (t : Table). p t ≡ true → (t.tree == tree) ≡ false) (setting_table ∷ other_tables) s (all_weaker (λ (t : Table). t.tree < tree) (λ (t : Table). p t ≡ true → (t.tree == tree) ≡ false) (λ t low hit. other_number t.tree tree low) s.tables older)
      (unlike _ a.0, (unlike _ b.0, (unlike _ c.0, (unlike _ d.0, (unlike _ e.0, (unlike _ f.0, (unlike _ f.1, tt))))))))

  pub alone : AreUnnamed s → IsUnreferred (ledger_over s) tree
  alone unnamed =
      all_chain (λ (t : Table). AllByRecursion (λ ref. refers (ledger_over s) tree ref ≡ false) t.references) (setting_table ∷ other_tables) s
      (all_weaker (λ (t : Table). AllByRecursion (λ ref. is_ours ref.parent ≡ false) t.references) (λ (t : Table). AllByRecursion (λ ref. refers (ledger_over s) tree ref ≡ false) t.references)
      (λ t refs. all_weaker (λ ref. is_ours ref.parent ≡ false) (λ ref. refers (ledger_over s) tree ref ≡ false) not_referred t.references refs) s.tables unnamed) (tt, (tt, (tt, (tt, (tt, (tt, (tt, tt)))))))

-- ---- what they hold

pub holds_none : {R : Type 0} (fields : R → Row) (rows : List Row) → rows ≡ [] → Holds 1 fields rows []
holds_none fields rows none = subst (λ rs. Holds 1 fields rs []) (sym none) (record { numbered = search; same = IsPermutation-refl _ })

module _ (made_with : NewSetting) (old new : Database) (sound : IsDatabase new) (schema : new.schema ≡ ledger_over old.schema) (free : AllFree old.schema (setting_table ∷ other_tables)) where
  abbrev s : Schema
  s = old.schema

  abbrev after : List Table → ℕ
  after before = next_tree (chain s before)

  -- where each stands that is made after some and before others
  placed_in : (before : List Table) (made : Table) (more : List Table) → same_name made.name made.name ≡ true → is_used (chain s before) made.name ≡ false → ledger_over s ≡ chain (created (chain s before) made) more → IsTableIn new.schema made (after before)
  placed_in before made more self unused whole =
      in_database made (after before) new sound (subst (λ (x : Schema). IsFound x.tables (record made { tree = after before })) (sym (schema ∙ whole)) (still_all (record made { tree = after before }) more (created (chain s before) made) (begun made self (chain s before) unused)))

  setting_place : IsTableIn new.schema setting_table (after [])
  setting_place = placed_in [] setting_table other_tables names_selves.0 free.0 refl

  left_alone : AreUnnamed s → (before : List Table) → IsUnreferred new.schema (after before)
  left_alone unnamed before = subst (λ x. IsUnreferred x (after before)) (sym schema) (alone s before unnamed)

  usage_place : IsTableIn new.schema usage_table (after three_tables)
  usage_place = placed_in three_tables usage_table (ceiling_table ∷ rule_table ∷ retired_table ∷ []) names_selves.3 free.1.1.1.0 refl

  abbrev one_table : List Table
  one_table = setting_table ∷ []

  abbrev two_tables : List Table
  two_tables = setting_table ∷ answer_table ∷ []

  abbrev four : List Table
  four = setting_table ∷ answer_table ∷ trans_table ∷ usage_table ∷ []

  abbrev six_tables : List Table
  six_tables = setting_table ∷ answer_table ∷ trans_table ∷ usage_table ∷ ceiling_table ∷ rule_table ∷ []

  ledger_in : AreUnnamed s → IsLedgerIn new.schema (record { setting = after []; answer = after one_table; trans = after two_tables; usage = after three_tables; ceiling = after four })
  ledger_in unnamed = record {
    setting = setting_place;
    answer = placed_in one_table answer_table (trans_table ∷ usage_table ∷ ceiling_table ∷ rule_table ∷ retired_table ∷ []) names_selves.1 free.1.0 refl;
    trans = placed_in two_tables trans_table (usage_table ∷ ceiling_table ∷ rule_table ∷ retired_table ∷ []) names_selves.2 free.1.1.0 refl;
    usage = usage_place;
    ceiling = placed_in four ceiling_table (rule_table ∷ retired_table ∷ []) names_selves.4 free.1.1.1.1.0 refl;
    setting_alone = left_alone unnamed [];
    answer_alone = left_alone unnamed one_table;
    trans_alone = left_alone unnamed two_tables;
    usage_alone = left_alone unnamed three_tables;
    ceiling_alone = left_alone unnamed four;
  }

  rule_place : IsTableIn new.schema rule_table (after five_tables)
  rule_place = placed_in five_tables rule_table (retired_table ∷ []) names_selves.5 free.1.1.1.1.1.0 refl

  ledger_held : new.trees (next_tree s) ≡ setting_row made_with ∷ [] → AllByRecursion (λ n. new.trees n ≡ []) (trees_for (created s setting_table) other_tables) → AreUnnamed s → HasLedger new (without_rule made_with)
  ledger_held row empty unnamed = record {
    sound = sound;
    at = _;
    tables = ledger_in unnamed;
    holds = record { setting = row; answers = record { rows = empty.0; numbered = tt }; transactions = holds_none _ _ empty.1.0; usage = holds_none _ _ empty.1.1.0; limits = holds_none _ _ empty.1.1.1.0 };
    later = record {
      rule = record { tree = after five_tables; table = rule_place; holds = empty.1.1.1.1.0 };
      retired = record {
        tree = after six_tables;
        table = placed_in six_tables retired_table [] names_selves.6 free.1.1.1.1.1.1.0 refl;
        alone = left_alone unnamed six_tables;
        holds = holds_none _ _ empty.1.1.1.1.1.0;
      };
    };
  }

-- the seven were made over a store, and no rule was put in yet
pub record AreSeven (made_with : NewSetting) (old new : Database) : Type 0 where
  pub sound : IsDatabase new
  pub schema : new.schema ≡ ledger_over old.schema
  pub row : new.trees (next_tree old.schema) ≡ setting_row made_with ∷ []
  pub empty : AllByRecursion (λ n. new.trees n ≡ []) (trees_for (created old.schema setting_table) other_tables)
  pub setting : HasSetting new (setting_after (pos 0) made_with)
  pub rule : IsTableIn new.schema rule_table (next_tree (chain old.schema five_tables))
  pub usage : IsTableIn new.schema usage_table (next_tree (chain old.schema three_tables))
  pub ledger : AreUnnamed old.schema → HasLedger new (without_rule made_with)
  pub others : AllByRecursion (λ t. new.trees t.tree ≡ old.trees t.tree) old.schema.tables

pub seven_made : (made_with : NewSetting) (a b c : State) → HasStarted setting_table (setting_row made_with) a b → HasAdded other_tables b c → AreSeven made_with a.now c.now
seven_made made_with a b c p q =
    let kept : AllByRecursion (λ t. c.now.trees t.tree ≡ b.now.trees t.tree) (created a.now.schema setting_table).tables = subst (λ (s : Schema). AllByRecursion (λ t. c.now.trees t.tree ≡ b.now.trees t.tree) s.tables) p.schema q.others in
    let parts = of_chain (λ n. c.now.trees n ≡ b.now.trees n) (setting_table ∷ []) a.now.schema kept in
    let schema : c.now.schema ≡ ledger_over a.now.schema = q.schema ∙ ap (λ s. chain s other_tables) p.schema in
    let free : AllFree a.now.schema (setting_table ∷ other_tables) = (p.free, subst (λ s. AllFree s other_tables) p.schema q.free) in
    let row : c.now.trees (next_tree a.now.schema) ≡ setting_row made_with ∷ [] = parts.1.0 ∙ p.row_is in
    let empty : AllByRecursion (λ n. c.now.trees n ≡ []) (trees_for (created a.now.schema setting_table) other_tables) = subst (λ s. AllByRecursion (λ n. c.now.trees n ≡ []) (trees_for s other_tables)) p.schema q.empty in
    record {
      sound = q.sound;
      schema = schema;
      row = row;
      empty = empty;
      setting = record { tree = next_tree a.now.schema; table = setting_place made_with a.now c.now q.sound schema free; row = row };
      rule = rule_place made_with a.now c.now q.sound schema free;
      usage = usage_place made_with a.now c.now q.sound schema free;
      ledger = ledger_held made_with a.now c.now q.sound schema free row empty;
      others = all_both _ _ _ (λ t later before. later ∙ before) a.now.schema.tables parts.0 p.others;
    }
