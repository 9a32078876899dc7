-- What becomes of a store that holds the rows of a history, in whatever version, where it is opened.
use Rattle.std.proofs.Common.{Bool, Err, IfOk, IsTrue, List, None, Ok, Option, Result, Some, ap, ap₂, eqb-true, false, if◌then◌else◌, inl, inr, int_eq, nat_le, pos, refl, subst, sym, true, true≢false, ℕ, ℤ, ◌&&◌, ◌==◌, ◌∙◌, ◌≡◌, ◌⊎◌}
use Rattle.mq_store.proofs.Words.{AreRows, Audit, Book, ByOffset, ByRule, Database, Entry, HasLedger, HasRule, IsDatabase, IsIndexed, IsLegalBook, IsMigrated, Schema, Setting, SettingRecord, SettingRow, Since, Sound, Spares, State, Tables, Trees, Wrong, Zone, has_later_table, is_version, migrated, minutes_in, older_version, or_cases, rule_in, setting_in, shown_of}
use Rattle.std.proofs.lemmas.Slice.Eq.{bytes_eq-Decides}
use Rattle.std.specs.Cmp.{signed_Decides}
use Rattle.mq_tables.proofs.Changes.{is_since}
use Rattle.mq_store.specs.declared.fault.OpenFault.{OpenFault}
use Rattle.mq_store.specs.declared.fault.OpenFault.TheVariants.{NotOurs, ZoneDiffers, DefaultDiffers, Memory, Store}
use Rattle.mq_store.specs.declared.fault.Refusal.{Refusal}
use Rattle.mq_store.specs.Auditing.{IsAuditIn, IsRightAnswer}
use Rattle.mq_store.specs.Crash.{LeavesBy, FindsOnly, FindsOpened}
use Rattle.mq_store.specs.Opening.{fault_in, same_rule, audit_fault, known_version, judged_as, if_none, HasCurrent, HoldsKnown, HasSettings, IsStop, IsOf, IsFoundOf, IsKeptUp, IsBroughtUp, AreBroughtUp, Opens, Refuses}
use Rattle.mq_store.specs.Taking.{HasBook, book_of}
use Rattle.mq_store.specs.Soundness.{book_in, HasKept, HasStored, IsSound, MeansBook}
use Rattle.mq_store.specs.declared.fault.Refusal.TheVariants as stop
use Rattle.mq_store.proofs.Recovery.{AreOne, book_again, finds_book}
use Rattle.mq_store.proofs.Sound.{Means, means_book, sound_book}
use Rattle.mq_tables.proofs.making.Adding.{was_before}

-- ---- the version

versions : (z : Zone) (v : ℕ) → is_version z v ≡ true → (v ≡ 3) ⊎ (v ≡ older_version z)
versions z v h = elim (or_cases (v == 3) (v == older_version z) h) [
  | inl current ↦ inl (eqb-true v 3 current)
  | inr older ↦ inr (eqb-true v (older_version z) older)
]

older_is : (z : Zone) → nat_le 3 (older_version z) ≡ false
older_is (ByOffset minutes) = refl
older_is (ByRule text) = refl

known_older : (z : Zone) → known_version (pos (older_version z)) ≡ Some (older_version z)
known_older (ByOffset minutes) = refl
known_older (ByRule text) = refl

known_is : (z : Zone) (v : ℕ) → is_version z v ≡ true → known_version (pos v) ≡ Some v
known_is z v h = elim (versions z v h) [
  | inl current ↦ subst (λ k. known_version (pos k) ≡ Some k) (sym current) refl
  | inr older ↦ subst (λ k. known_version (pos k) ≡ Some k) (sym older) (known_older z)
]

-- nothing was found against the version
found_none : (version n : ℕ) (fault : Option OpenFault) → Ok version ≡ if_none n fault → (version ≡ n) × (fault ≡ None)
found_none version n None e = ((let same : ◌≡◌ {A = Result ℕ OpenFault} (Ok version) (Ok n) = e in cc), refl)
found_none version n (Some f) e = absurd cc

-- ---- the row of settings agrees

same_number : (a b : ℤ) → int_eq a b ≡ true → a ≡ b
same_number a b hit = (signed_Decides a b).0 hit

-- the zone whose minutes and rule these are is that one
same_zone : (zone z : Zone) → int_eq (minutes_in z) (minutes_in zone) ≡ true → same_rule (rule_in zone) (rule_in z) ≡ true → z ≡ zone
same_zone (ByOffset minutes) (ByOffset other) p q = ap ByOffset (same_number other minutes p)
same_zone (ByRule text) (ByRule other) p q = ap ByRule (sym ((bytes_eq-Decides text other).0 q))
same_zone (ByOffset minutes) (ByRule other) p q = absurd (true≢false (sym q))
same_zone (ByRule text) (ByOffset other) p q = absurd (true≢false (sym q))

-- the fault of the settings of a history
abbrev fault_of_book : Zone → ℕ → Book → Option OpenFault
fault_of_book zone default b =
    if int_eq (minutes_in b.zone) (minutes_in zone) && same_rule (rule_in zone) (rule_in b.zone)
    then (if int_eq (pos b.default) (pos default) then None else Some DefaultDiffers)
    else Some ZoneDiffers

agrees : (zone : Zone) (default : ℕ) (b : Book) → fault_of_book zone default b ≡ None → (b.zone ≡ zone) × (b.default ≡ default)
agrees zone default b e = go (int_eq (minutes_in b.zone) (minutes_in zone)) (same_rule (rule_in zone) (rule_in b.zone)) (int_eq (pos b.default) (pos default)) refl refl refl e
  where
    go : (a r d : Bool) → int_eq (minutes_in b.zone) (minutes_in zone) ≡ a → same_rule (rule_in zone) (rule_in b.zone) ≡ r → int_eq (pos b.default) (pos default) ≡ d
        → (if a && r then (if d then None else Some DefaultDiffers) else Some ZoneDiffers) ≡ None → (b.zone ≡ zone) × (b.default ≡ default)
    go true true true p q o e = (same_zone zone b.zone p q, (let is : pos b.default ≡ pos default = same_number (pos b.default) (pos default) o in cc))
    go true true false p q o e = absurd cc
    go true false d p q o e = absurd cc
    go false r d p q o e = absurd cc

same_as_itself : (zone : Zone) → same_rule (rule_in zone) (rule_in zone) ≡ true
same_as_itself (ByOffset minutes) = refl
same_as_itself (ByRule text) = (bytes_eq-Decides text text).1 refl

no_fault : (zone : Zone) (default : ℕ) (H : List Entry) → fault_of_book zone default (book_of zone default H) ≡ None
no_fault zone default H = rw ((signed_Decides (minutes_in zone) (minutes_in zone)).1 refl, same_as_itself zone, (signed_Decides (pos default) (pos default)).1 refl) refl

-- ---- the tables of a version

module _ (b : Book) (db : Database) (has : HasStored b db) where
  abbrev t : Tables
  t = has.tables

  abbrev v : ℕ
  v = has.tables.setting.version

  rule_is : t.setting.rule ≡ rule_in b.zone
  rule_is = ap (λ (s : SettingRecord). s.rule) has.rows.setting.row

  current_held : v ≡ 3 → HasCurrent db t.setting.rule
  current_held e = (is_since _ _ (nat_le 2 v) (ap (nat_le 2) e) has.holds.later.rule, (t.retired, is_since _ _ (nat_le 3 v) (ap (nat_le 3) e) has.holds.later.retired))

  older_held : (z : Zone) (rule : Option (List ℕ)) → rule ≡ rule_in z → Since (nat_le 2 (older_version z)) (HasRule db rule) (rule ≡ None) → HoldsKnown (Some (older_version z)) db (rule_in z)
  older_held (ByOffset minutes) rule is h = refl
  older_held (ByRule text) rule is h = subst (HasRule db) is h

  later_held : HoldsKnown (known_version (pos v)) db (rule_in b.zone)
  later_held = rw (known_is b.zone v has.rows.setting.version) (elim (versions b.zone v has.rows.setting.version) [
    | inl current ↦ subst (λ k. HoldsKnown (Some k) db (rule_in b.zone)) (sym current) (subst (HasCurrent db) rule_is (current_held current))
    | inr older ↦ subst (λ k. HoldsKnown (Some k) db (rule_in b.zone)) (sym older) (older_held b.zone t.setting.rule rule_is (subst (λ k. Since (nat_le 2 k) (HasRule db t.setting.rule) (t.setting.rule ≡ None)) older has.holds.later.rule))
  ])

  settings_had : HasSettings db (setting_in t.setting) (rule_in b.zone)
  settings_had = record { setting = record { tree = has.holds.at.setting; table = has.holds.tables.setting; row = has.holds.holds.setting }; later = later_held }

  fault_is : (zone : Zone) (default : ℕ) → fault_in zone default (shown_of (setting_in t.setting)) (rule_in b.zone) ≡ fault_of_book zone default b
  fault_is zone default = rw has.rows.setting.row refl

  -- no name of a later version is taken
  free : has_later_table v db.schema ≡ false
  free = elim (versions b.zone v has.rows.setting.version) [
    | inl current ↦ subst (λ k. has_later_table k db.schema ≡ false) (sym current) refl
    | inr older ↦ (was_before _ _ (nat_le 3 v) (ap (nat_le 3) older ∙ older_is b.zone) has.room).free
  ]

  judged_is : (zone : Zone) (default : ℕ) → judged_as (known_version (pos v)) zone default db.schema (shown_of (setting_in t.setting)) (rule_in b.zone) ≡ if_none v (fault_of_book zone default b)
  judged_is zone default = rw (known_is b.zone v has.rows.setting.version, free) (ap (if_none v) (fault_is zone default))

  -- what was found is the version, and the zone and the default are the book's
  found_as : (zone : Zone) (default version : ℕ) → IsOf zone default db.schema (setting_in t.setting) (rule_in b.zone) (Ok version) → (version ≡ v) × (b.zone ≡ zone) × (b.default ≡ default)
  found_as zone default version (inl e) = let it = found_none version v (fault_of_book zone default b) (e ∙ judged_is zone default) in let same = agrees zone default b it.1 in (it.0, same.0, same.1)
  found_as zone default version (inr stopped) = absurd stopped

  -- ---- it is of the current version afterwards

  rows_again : AreRows b (migrated t)
  rows_again = record {
    setting = record { row = ap (λ (s : SettingRecord). record s { version = 3 }) has.rows.setting.row; version = refl };
    answers = has.rows.answers;
    transactions = has.rows.transactions;
    usage = has.rows.usage;
    limits = has.rows.limits;
    retired = has.rows.retired;
  }

  migrated_book : (new : Database) → nat_le 3 v ≡ false → IsMigrated (nat_le 2 v) db new → HasBook b new
  migrated_book new older it =
      let made = it.made (was_before _ _ (nat_le 3 v) older has.room).counters t has.holds refl older in
      record { legal = has.legal; has = record { tables = migrated t; holds = made.ledger; rows = rows_again; current = refl } }

  indexed_book : (new : Database) → v ≡ 3 → IsIndexed db new → HasBook b new
  indexed_book new current it = record { legal = has.legal; has = record { tables = t; holds = (it.made t has.holds).1; rows = has.rows; current = current } }

  kept_book : (new : Database) → v ≡ 3 → new ≡ db → HasBook b new
  kept_book new current same = record { legal = has.legal; has = record { tables = t; holds = subst (λ x. HasLedger x t) (sym same) has.holds; rows = has.rows; current = current } }

-- so is each database whose trees are what was to be written
module _ (one : AreOne) (b : Book) (old db : Database) (has : HasStored b old) (sound : IsDatabase db) where
  pub written_book : AreBroughtUp has.tables.setting.version old db.trees → HasBook b db
  written_book up = elim (versions b.zone has.tables.setting.version has.rows.setting.version) [
    | inl current ↦ (let made = is_since _ _ (nat_le 3 has.tables.setting.version) (ap (nat_le 3) current) up in book_again one b made.new db sound made.trees_are (indexed_book b old has made.new current made.made))
    | inr older ↦ (let below = ap (nat_le 3) older ∙ older_is b.zone in
        let made = was_before _ _ (nat_le 3 has.tables.setting.version) below up in
        book_again one b made.new db sound made.trees_are (migrated_book b old has made.new below made.made))
  ]

module _ (b : Book) (old new : State) (has : HasStored b old.now) where
  abbrev v' : ℕ
  v' = has.tables.setting.version

  brought_book : IsTrue new.is_open → IsBroughtUp v' old new → HasBook b new.now
  brought_book is_open up = elim (versions b.zone v' has.rows.setting.version) [
    | inl current ↦ elim (is_since _ _ (nat_le 3 v') (ap (nat_le 3) current) up) [
      | inl left ↦ kept_book b old.now has new.now current (left.0.now is_open)
      | inr made ↦ indexed_book b old.now has new.now current made.1
    ]
    | inr older ↦ (let below = ap (nat_le 3) older ∙ older_is b.zone in migrated_book b old.now has new.now below (was_before _ _ (nat_le 3 v') below up).0)
  ]

module _ (zone : Zone) (default : ℕ) (old new : State) (exact : (s : SettingRow) (rule : Option (List ℕ)) → HasSettings old.now s rule → Opens (IsFoundOf zone default old.now s rule) old new) where
  -- the version that was found is that of the rows
  found_of : (b : Book) (has : HasStored b old.now) → (b.zone ≡ zone) × (b.default ≡ default) × IsBroughtUp has.tables.setting.version old new
  found_of b has =
      let it = exact _ _ (settings_had b old.now has) in
      let of = found_as b old.now has zone default it.0 it.1.0 in
      (of.1, of.2, subst (λ k. IsBroughtUp k old new) of.0 it.2)

  pub opens_book : Means → HasKept new → MeansBook zone default old.now new
  opens_book meaning kept b has =
      let it = found_of b has in
      let there = brought_book b old new has kept.is_open it.2 in
      let zoned : IsSound zone b.default new = subst (λ k. IsSound k b.default new) it.0 (sound_book meaning b new kept there) in
      (it.0, it.1, subst (λ k. IsSound zone k new) it.1 zoned, ap₂ (λ k n. book_in k n new.now) (sym it.0) (sym it.1) ∙ means_book meaning b new.now there)

  pub finds_opened : AreOne → HasKept new → FindsOpened old new
  finds_opened one kept b has =
      let it = found_of b has in
      let there = brought_book b old new has kept.is_open it.2 in
      go there (nat_le 3 has.tables.setting.version) it.2
    where
      kept_up : HasBook b new.now → IsKeptUp old new → FindsOnly new (λ db. old.may_leave db.trees ⊎ HasBook b db)
      kept_up there (inl left) = λ db sound may. inl (left.0.crash db.trees may)
      kept_up there (inr made) = λ db sound may. inr (finds_book one b new there made.2 db sound may)

      go : HasBook b new.now → (is : Bool) → Since is (IsKeptUp old new) (IsMigrated (nat_le 2 has.tables.setting.version) old.now new.now × ((db : Trees) → new.may_leave db → db ≡ new.now.trees))
          → Since is (FindsOnly new (λ db. old.may_leave db.trees ⊎ HasBook b db)) (FindsOnly new (HasBook b))
      go there true up = kept_up there up
      go there false up = finds_book one b new there up.1

-- ---- what refuses such rows

abbrev pub AreRight : Type 0
AreRight = (b : Book) (t : Tables) (db : Database) (a : Audit) → IsLegalBook b → HasLedger db t → AreRows b t → IsAuditIn b.zone b.default db a → IsRightAnswer a

stopped_audit : (b : Book) (db : Database) (f : OpenFault) (found : Result Audit Refusal) → AreRight → HasStored b db → IfOk found (IsAuditIn b.zone b.default db) → Some f ≡ audit_fault found → IsStop f
stopped_audit b db f (Ok (Sound days transactions)) right has is_audit is = absurd cc
stopped_audit b db f (Ok (Wrong login day)) right has is_audit is = absurd (right b has.tables db (Wrong login day) has.legal has.holds has.rows is_audit)
stopped_audit b db f (Err stop.Memory) right has is_audit is = (let same : f ≡ Memory = cc in subst IsStop (sym same) tt)
stopped_audit b db f (Err (stop.Store c)) right has is_audit is = (let same : f ≡ Store c = cc in subst IsStop (sym same) tt)

module _ (zone : Zone) (default : ℕ) (old new : State) (f : OpenFault) (exact : (s : SettingRow) (rule : Option (List ℕ)) → HasSettings old.now s rule → Refuses (IsFoundOf zone default old.now s rule) old new f) where
  pub refuses : AreRight → (H : List Entry) → HasStored (book_of zone default H) old.now → IsStop f
  refuses right H has =
      let b = book_of zone default H in
      elim (exact _ _ (settings_had b old.now has)) [
        | inl (inl (inl refused), spares) ↦ absurd (let none : ◌≡◌ {A = Result ℕ OpenFault} (Err f) (Ok has.tables.setting.version) = refused ∙ judged_is b old.now has zone default ∙ ap (if_none has.tables.setting.version) (no_fault zone default H) in cc)
        | inl (inl (inr stopped), spares) ↦ stopped
        | inl (inr both, spares) ↦ stopped_audit b old.now f both.2.found right has both.2.is_audit both.2.fault_is
        | inr left ↦ left.2.fault
      ]

  pub finds_refused : AreOne → (b : Book) → HasStored b old.now → FindsOnly new (λ db. old.may_leave db.trees ⊎ HasBook b db)
  finds_refused one b has = λ db sound left.
      elim (exact _ _ (settings_had b old.now has)) [
        | inl found ↦ inl (found.1.crash db.trees left)
        | inr (version, found, older) ↦ elim (older.crash db.trees left) [
          | inl was ↦ inl was
          | inr (was_open, made) ↦ inr (let is = (found_as b old.now has zone default version found.0).0 in
              written_book one b old.now db has sound (subst (λ k. AreBroughtUp k old.now db.trees) is made))
        ]
      ]

-- what a refusal leaves, whatever the rows are
module _ (old new : State) (f : OpenFault) (Found : Result ℕ OpenFault → Type 0) where
  pub same_refused : Refuses Found old new f → IsTrue new.is_open → new.now ≡ old.now
  same_refused (inl found) is_open = found.1.now is_open
  same_refused (inr older) is_open = older.2.now is_open

  pub spares_refused : Refuses Found old new f → Spares old new ⊎ IsStop f
  spares_refused (inl found) = inl found.1
  spares_refused (inr older) = inr older.2.fault

-- ---- what a refusal leaves where the settings are of this version

known_of : (k : Option ℕ) (zone : Zone) (default : ℕ) (schema : Schema) (s : Setting) (rule : Option (List ℕ)) (version : ℕ) → Ok version ≡ judged_as k zone default schema s rule → k ≡ Some version
known_of None zone default schema s rule version e = absurd cc
known_of (Some n) zone default schema s rule version e = go (has_later_table n schema) e
  where
    go : (later : Bool) → Ok version ≡ (if later then Err NotOurs else if_none n (fault_in zone default s rule)) → Some n ≡ Some version
    go true e = absurd cc
    go false e = ap Some (sym (found_none version n (fault_in zone default s rule) e).0)

-- the version that was judged is that of the settings
known_as : (zone : Zone) (default : ℕ) (schema : Schema) (s : SettingRow) (rule : Option (List ℕ)) (version : ℕ) → IsOf zone default schema s rule (Ok version) → known_version s.version ≡ Some version
known_as zone default schema s rule version (inl e) = known_of (known_version s.version) zone default schema (shown_of s) rule version e
known_as zone default schema s rule version (inr stopped) = absurd stopped

module _ (old new : State) (f : OpenFault) (Found : Result ℕ OpenFault → Type 0) (refused : Refuses Found old new f) where
  by_version : (k : Option ℕ) → ((version : ℕ) → Found (Ok version) → k ≡ Some version) → LeavesBy k old new
  by_version None known = λ db left. elim refused [
    | inl found ↦ found.1.crash db left
    | inr (version, found, older) ↦ absurd (let is : ◌≡◌ {A = Option ℕ} None (Some version) = known version found in cc)
  ]
  by_version (Some n) known = λ db left. elim refused [
    | inl found ↦ inl (found.1.crash db left)
    | inr (version, found, behind) ↦ elim (behind.crash db left) [
      | inl was ↦ inl was
      | inr made ↦ inr (let same : n ≡ version = cc (known version found) in subst (λ k. AreBroughtUp k old.now db) (sym same) made.1)
    ]
  ]

pub leaves_refused : (zone : Zone) (default : ℕ) (old new : State) (f : OpenFault) (s : SettingRow) (rule : Option (List ℕ)) → Refuses (IsFoundOf zone default old.now s rule) old new f → LeavesBy (known_version s.version) old new
leaves_refused zone default old new f s rule refused =
    by_version old new f (IsFoundOf zone default old.now s rule) refused (known_version s.version) (λ version found. known_as zone default old.now.schema s rule version found.0)
