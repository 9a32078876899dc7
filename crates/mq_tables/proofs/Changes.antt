-- Where one of the five tables changes, the other four hold what they held, and so do those of later versions.
use Rattle.std.proofs.Common.{◌≡◌, ◌≢◌, ◌==◌, not, ◌||◌, ℕ, find, List, [], ◌∷◌, nat_le, Bool, true, false, true≢false, Option, Some, None, refl, sym, ap, subst, ◌∙◌}
use Rattle.mq_tables.proofs.Words.{AnswerRecord, Database, IsDatabase, LimitRecord, RetiredRecord, Schema, Table, Tables, TransactionRecord, Trees, UsageRecord, all-slice_get, eq-eqb}
use Rattle.mq_rows.specs.declared.setting.TheConstants.{VERSION}
use Rattle.mq_tables.specs.Tables.{setting_table, answer_table, trans_table, usage_table, ceiling_table, rule_table, retired_table}
use Rattle.mq_tables.specs.Places.{IsTableIn, IsUnreferred, IsUnnamed}
use Rattle.mq_tables.specs.Records.{HoldsAnswers, HoldsTransactions, HoldsUsage, HoldsLimits, HoldsRetired}
use Rattle.mq_tables.specs.Settings.{setting_fields, rule_rows}
use Rattle.mq_tables.specs.Ledger.{HasRule, Since, HasFloors, HasNoFloors, HasLedger, setting_in}
use Rattle.mq_tables.specs.Updates.{KeepsOthers}

-- two names differ
abbrev pub differ : List ℕ → List ℕ → Bool
differ [] [] = false
differ [] (y ∷ ys) = true
differ (x ∷ xs) [] = true
differ (x ∷ xs) (y ∷ ys) = not (x == y) || differ xs ys

not_from_itself : (xs : List ℕ) → differ xs xs ≡ false
not_from_itself [] = refl
not_from_itself (x ∷ xs) = rw (eq-eqb x x refl) (not_from_itself xs)

-- two tables of different names have different trees
trees_differ : (s : Schema) (one two : Table) (m n : ℕ) → IsTableIn s one m → IsTableIn s two n → differ one.name two.name ≡ true → m ≢ n
trees_differ s one two m n p q apart same =
    let both : Some (record one { tree = m }) ≡ Some (record two { tree = n }) = sym p.found ∙ ap (λ k. find (λ (t : Table). t.tree == k) s.tables) same ∙ q.found in
    let tables : record one { tree = m } ≡ record two { tree = n } = cc in
    absurd (true≢false (sym apart ∙ ap (differ one.name) (sym (ap (λ (t : Table). t.name) tables)) ∙ not_from_itself one.name))

-- what is kept of each other table is kept of this one
pub kept_of : (s : Schema) (one two : Table) (m n : ℕ) (old new : Trees) → IsTableIn s one m → IsTableIn s two n → differ one.name two.name ≡ true → KeepsOthers s n old new → new m ≡ old m
kept_of s one two m n old new p q apart h = all-slice_get _ s.tables p.at (record one { tree = m }) p.there h (trees_differ s one two m n p q apart)

-- what holds since some version is made of what held since then, and what held before it of what held before it
pub since : (Now Then Before Earlier : Type 0) (b : Bool) → (Now → Then) → (Before → Earlier) → Since b Now Before → Since b Then Earlier
since Now Then Before Earlier true make keep h = make h
since Now Then Before Earlier false make keep h = keep h

-- what holds since some version holds of a later one
pub is_since : (Now Before : Type 0) (b : Bool) → b ≡ true → Since b Now Before → Now
is_since Now Before true e h = h
is_since Now Before false e h = absurd cc

-- ---- what stays

-- Each table stays where it is, and those whose names `keeps` tells keep their rows.
pub record Stays (keeps : List ℕ → Bool) (old new : Database) : Type 0 where
  pub sound : IsDatabase new
  pub still : (made : Table) (tree : ℕ) → IsTableIn old.schema made tree → IsTableIn new.schema made tree
  pub alone : (made : Table) (tree : ℕ) → IsTableIn old.schema made tree → IsUnreferred old.schema tree → IsUnreferred new.schema tree
  pub unnamed : IsUnnamed old.schema retired_table.name → IsUnnamed new.schema retired_table.name
  pub rows : (made : Table) (tree : ℕ) → IsTableIn old.schema made tree → keeps made.name ≡ true → new.trees tree ≡ old.trees tree

module _ {keeps : List ℕ → Bool} {old new : Database} (it : Stays keeps old new) where
  pub rule_kept : (rule : Option (List ℕ)) → keeps rule_table.name ≡ true → HasRule old rule → HasRule new rule
  rule_kept rule k h = record { tree = h.tree; table = it.still rule_table h.tree h.table; holds = it.rows rule_table h.tree h.table k ∙ h.holds }

  pub floors_kept : (rows : List RetiredRecord) → keeps retired_table.name ≡ true → HasFloors old rows → HasFloors new rows
  floors_kept rows k h = record {
    tree = h.tree;
    table = it.still retired_table h.tree h.table;
    alone = it.alone retired_table h.tree h.table h.alone;
    holds = subst (λ rs. HoldsRetired rs rows) (sym (it.rows retired_table h.tree h.table k)) h.holds;
  }

  no_floors : (rows : List RetiredRecord) → HasNoFloors old rows → HasNoFloors new rows
  no_floors rows h = record { none = h.none; unnamed = it.unnamed h.unnamed }

  module _ (t : Tables) (l : HasLedger old t) where
    pub setting_kept : keeps setting_table.name ≡ true → new.trees l.at.setting ≡ setting_fields (setting_in t.setting) ∷ []
    setting_kept k = it.rows setting_table l.at.setting l.tables.setting k ∙ l.holds.setting

    pub answers_kept : keeps answer_table.name ≡ true → HoldsAnswers (new.trees l.at.answer) t.answers
    answers_kept k = subst (λ rows. HoldsAnswers rows t.answers) (sym (it.rows answer_table l.at.answer l.tables.answer k)) l.holds.answers

    pub transactions_kept : keeps trans_table.name ≡ true → HoldsTransactions (new.trees l.at.trans) t.transactions
    transactions_kept k = subst (λ rows. HoldsTransactions rows t.transactions) (sym (it.rows trans_table l.at.trans l.tables.trans k)) l.holds.transactions

    pub usage_kept : keeps usage_table.name ≡ true → HoldsUsage (new.trees l.at.usage) t.usage
    usage_kept k = subst (λ rows. HoldsUsage rows t.usage) (sym (it.rows usage_table l.at.usage l.tables.usage k)) l.holds.usage

    pub limits_kept : keeps ceiling_table.name ≡ true → HoldsLimits (new.trees l.at.ceiling) t.limits
    limits_kept k = subst (λ rows. HoldsLimits rows t.limits) (sym (it.rows ceiling_table l.at.ceiling l.tables.ceiling k)) l.holds.limits

    pub rule_since : keeps rule_table.name ≡ true → Since (nat_le 2 t.setting.version) (HasRule new t.setting.rule) (t.setting.rule ≡ None)
    rule_since k = since _ _ _ _ (nat_le 2 t.setting.version) (rule_kept t.setting.rule k) (λ none. none) l.later.rule

    pub floors_since : keeps retired_table.name ≡ true → Since (nat_le 3 t.setting.version) (HasFloors new t.retired) (HasNoFloors new t.retired)
    floors_since k = since _ _ _ _ (nat_le 3 t.setting.version) (floors_kept t.retired k) (no_floors t.retired) l.later.retired

    -- at the same places a ledger of these rows
    unfoldable pub with_rows : (u : Tables) → new.trees l.at.setting ≡ setting_fields (setting_in u.setting) ∷ [] → HoldsAnswers (new.trees l.at.answer) u.answers → HoldsTransactions (new.trees l.at.trans) u.transactions
        → HoldsUsage (new.trees l.at.usage) u.usage → HoldsLimits (new.trees l.at.ceiling) u.limits → Since (nat_le 2 u.setting.version) (HasRule new u.setting.rule) (u.setting.rule ≡ None)
        → Since (nat_le 3 u.setting.version) (HasFloors new u.retired) (HasNoFloors new u.retired) → HasLedger new u
    with_rows u setting answers transactions usage limits rule retired = record {
      sound = it.sound;
      at = l.at;
      tables = record {
        setting = it.still setting_table _ l.tables.setting;
        answer = it.still answer_table _ l.tables.answer;
        trans = it.still trans_table _ l.tables.trans;
        usage = it.still usage_table _ l.tables.usage;
        ceiling = it.still ceiling_table _ l.tables.ceiling;
        setting_alone = it.alone setting_table _ l.tables.setting l.tables.setting_alone;
        answer_alone = it.alone answer_table _ l.tables.answer l.tables.answer_alone;
        trans_alone = it.alone trans_table _ l.tables.trans l.tables.trans_alone;
        usage_alone = it.alone usage_table _ l.tables.usage l.tables.usage_alone;
        ceiling_alone = it.alone ceiling_table _ l.tables.ceiling l.tables.ceiling_alone;
      };
      holds = record { setting = setting; answers = answers; transactions = transactions; usage = usage; limits = limits };
      later = record { rule = rule; retired = retired };
    }

-- where all tables keep their rows, a ledger is the same
unfoldable pub ledger_stays : {old new : Database} → Stays (λ name. true) old new → (t : Tables) → HasLedger old t → HasLedger new t
ledger_stays it t l = with_rows it t l t (setting_kept it t l refl) (answers_kept it t l refl) (transactions_kept it t l refl) (usage_kept it t l refl) (limits_kept it t l refl) (rule_since it t l refl) (floors_since it t l refl)

-- ---- what becomes of a ledger when the rows of one table change

module _ (old new : Database) (t : Tables) (l : HasLedger old t) (schema : new.schema ≡ old.schema) (sound : IsDatabase new) where
  -- each other table holds what it held
  but : (changed : Table) (tree : ℕ) → IsTableIn old.schema changed tree → KeepsOthers old.schema tree old.trees new.trees → Stays (λ name. differ name changed.name) old new
  but changed tree place others = record {
    sound = sound;
    still = λ made n there. subst (λ s. IsTableIn s made n) (sym schema) there;
    alone = λ made n there h. subst (λ s. IsUnreferred s n) (sym schema) h;
    unnamed = λ h. subst (λ s. IsUnnamed s retired_table.name) (sym schema) h;
    rows = λ made n there apart. kept_of old.schema made changed n tree old.trees new.trees there place apart others;
  }

  pub arrivals_changed : KeepsOthers old.schema l.at.setting old.trees new.trees → (arrivals : ℕ) → new.trees l.at.setting ≡ setting_fields (setting_in (record t.setting { arrivals = arrivals })) ∷ [] → HasLedger new (record t { setting = record t.setting { arrivals = arrivals } })
  arrivals_changed others arrivals holds =
      let it = but setting_table _ l.tables.setting others in
      with_rows it t l (record t { setting = record t.setting { arrivals = arrivals } }) holds (answers_kept it t l refl) (transactions_kept it t l refl) (usage_kept it t l refl) (limits_kept it t l refl) (rule_since it t l refl) (floors_since it t l refl)

  pub version_changed : KeepsOthers old.schema l.at.setting old.trees new.trees → HasRule old t.setting.rule → HasFloors old t.retired → new.trees l.at.setting ≡ setting_fields (setting_in (record t.setting { version = VERSION })) ∷ []
      → HasLedger new (record t { setting = record t.setting { version = VERSION } })
  version_changed others rule floors holds =
      let it = but setting_table _ l.tables.setting others in
      with_rows it t l (record t { setting = record t.setting { version = VERSION } }) holds (answers_kept it t l refl) (transactions_kept it t l refl) (usage_kept it t l refl) (limits_kept it t l refl) (rule_kept it _ refl rule) (floors_kept it _ refl floors)

  pub answers_changed : KeepsOthers old.schema l.at.answer old.trees new.trees → (after : List AnswerRecord) → HoldsAnswers (new.trees l.at.answer) after → HasLedger new (record t { answers = after })
  answers_changed others after holds =
      let it = but answer_table _ l.tables.answer others in
      with_rows it t l (record t { answers = after }) (setting_kept it t l refl) holds (transactions_kept it t l refl) (usage_kept it t l refl) (limits_kept it t l refl) (rule_since it t l refl) (floors_since it t l refl)

  pub transactions_changed : KeepsOthers old.schema l.at.trans old.trees new.trees → (after : List TransactionRecord) → HoldsTransactions (new.trees l.at.trans) after → HasLedger new (record t { transactions = after })
  transactions_changed others after holds =
      let it = but trans_table _ l.tables.trans others in
      with_rows it t l (record t { transactions = after }) (setting_kept it t l refl) (answers_kept it t l refl) holds (usage_kept it t l refl) (limits_kept it t l refl) (rule_since it t l refl) (floors_since it t l refl)

  pub usage_changed : KeepsOthers old.schema l.at.usage old.trees new.trees → (after : List UsageRecord) → HoldsUsage (new.trees l.at.usage) after → HasLedger new (record t { usage = after })
  usage_changed others after holds =
      let it = but usage_table _ l.tables.usage others in
      with_rows it t l (record t { usage = after }) (setting_kept it t l refl) (answers_kept it t l refl) (transactions_kept it t l refl) holds (limits_kept it t l refl) (rule_since it t l refl) (floors_since it t l refl)

  pub limits_changed : KeepsOthers old.schema l.at.ceiling old.trees new.trees → (after : List LimitRecord) → HoldsLimits (new.trees l.at.ceiling) after → HasLedger new (record t { limits = after })
  limits_changed others after holds =
      let it = but ceiling_table _ l.tables.ceiling others in
      with_rows it t l (record t { limits = after }) (setting_kept it t l refl) (answers_kept it t l refl) (transactions_kept it t l refl) (usage_kept it t l refl) holds (rule_since it t l refl) (floors_since it t l refl)

  pub floors_changed : (was : HasFloors old t.retired) → nat_le 3 t.setting.version ≡ true → KeepsOthers old.schema was.tree old.trees new.trees → (after : List RetiredRecord) → HoldsRetired (new.trees was.tree) after → HasLedger new (record t { retired = after })
  floors_changed was from_3 others after holds =
      let it = but retired_table was.tree was.table others in
      let floors : HasFloors new after = record { tree = was.tree; table = it.still retired_table was.tree was.table; alone = it.alone retired_table was.tree was.table was.alone; holds = holds } in
      with_rows it t l (record t { retired = after }) (setting_kept it t l refl) (answers_kept it t l refl) (transactions_kept it t l refl) (usage_kept it t l refl) (limits_kept it t l refl) (rule_since it t l refl) (rw from_3 floors)

  pub rule_changed : (was : HasRule old t.setting.rule) → nat_le 2 t.setting.version ≡ true → KeepsOthers old.schema was.tree old.trees new.trees → (rule : Option (List ℕ)) → new.trees was.tree ≡ rule_rows rule
      → HasLedger new (record t { setting = record t.setting { rule = rule } })
  rule_changed was from_2 others rule holds =
      let it = but rule_table was.tree was.table others in
      let there : HasRule new rule = record { tree = was.tree; table = it.still rule_table was.tree was.table; holds = holds } in
      with_rows it t l (record t { setting = record t.setting { rule = rule } }) (setting_kept it t l refl) (answers_kept it t l refl) (transactions_kept it t l refl) (usage_kept it t l refl) (limits_kept it t l refl) (rw from_2 there) (floors_since it t l refl)
