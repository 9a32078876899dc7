-- What `open` answers to what the store answers.
use Rattle.std.specs.Prelude.{◌≡◌, ◌⊎◌, ℕ, ℤ, pos, nat_le, List, Bool, true, false, ◌&&◌, bytes_eq, if◌then◌else◌}
use Rattle.std.specs.Prelude.{Option, Some, None, Result, Ok, Err, Vec, IsTrue, IfOk, ⊤}
use Rattle.std.specs.declared.alloc.Global.{Global}
use Rattle.std.specs.Ordering.{int_eq}
use Rattle.sqlite_trees.specs.declared.store.Store.{Ghosts}
use Rattle.sqlite.specs.Effect.{Database}
use Rattle.sqlite.specs.Held.{Held, state}
use Rattle.sqlite.specs.Order.{Row}
use Rattle.sqlite.specs.Schema.{Schema}
use Rattle.sqlite.specs.State.{State}
use Rattle.sqlite.specs.Tree.{Trees}
use Rattle.sqlite.specs.declared.error.ErrorCode.{ErrorCode}
use Rattle.sqlite.specs.declared.error.ErrorCode.TheVariants.{OutOfMemory, SystemIoFailure, DatabaseCorrupt, DiskFull}
use Rattle.sqlite.specs.declared.error.ErrorCode.TheVariants.{Closed, TooBig, TransactionState}
use Rattle.sqlite.specs.declared.error.Error.{Error}
use Rattle.sqlite.specs.declared.error.Error.TheVariants.{SqliteFailure, QueryReturnedNoRows}
use Rattle.mq_ledger.specs.declared.zone.Zone.{Zone}
use Rattle.mq_ledger.specs.Day.{minutes_in, rule_in}
use Rattle.mq_rows.specs.declared.audited.Audit.{Audit}
use Rattle.mq_rows.specs.declared.audited.Audit.TheVariants.{Sound, Wrong}
use Rattle.mq_tables.specs.declared.setting.Setting.{Setting}
use Rattle.mq_tables.specs.declared.setting.NewSetting.{NewSetting}
use Rattle.mq_rows.specs.declared.record.RetiredRecord.{RetiredRecord}
use Rattle.mq_tables.specs.Floors.{are_floors}
use Rattle.mq_tables.specs.Ledger.{HasRule, HasFloors, Since}
use Rattle.mq_tables.specs.Indexing.{lacks_index, IsIndexed, AreIndexed}
use Rattle.mq_tables.specs.Making.{has_later_table}
use Rattle.mq_tables.specs.Migrating.{IsMigrated, AreMigrated}
use Rattle.mq_tables.specs.Reading.{IsRead, IsRuleRead, AreFloorsRead, Spares}
use Rattle.mq_tables.specs.Settings.{SettingRow, HasSetting, shown_of, rule_text_of}
use Rattle.mq_store.specs.declared.fault.OpenFault.{OpenFault}
use Rattle.mq_store.specs.declared.fault.OpenFault.TheVariants.{NotOurs, ZoneDiffers, DefaultDiffers, Damaged}
use Rattle.mq_store.specs.declared.fault.OpenFault.TheVariants.{Memory, Store}
use Rattle.mq_store.specs.declared.fault.Refusal.{Refusal}
use Rattle.mq_store.specs.declared.opening.KnownLedger.{KnownLedger}
use Rattle.mq_store.specs.declared.fault.Refusal.TheVariants as refused
use Rattle.mq_store.specs.declared.fault.StoreCause.TheVariants as cause
use Rattle.mq_store.specs.Auditing.{IsAuditIn}

-- what the tables are made with
abbrev pub made_with : Zone → ℕ → NewSetting
made_with zone default = record { zone = zone; cap = default }

-- the store failed, and its library says so
abbrev pub failed : Error → OpenFault
failed e = Store (cause.Refused e)

-- memory and the disk, and any other cause
abbrev pub fault_of_code : ErrorCode → OpenFault
fault_of_code OutOfMemory = Memory
fault_of_code SystemIoFailure = failed (SqliteFailure SystemIoFailure)
fault_of_code DatabaseCorrupt = failed (SqliteFailure DatabaseCorrupt)
fault_of_code DiskFull = failed (SqliteFailure DiskFull)
fault_of_code Closed = failed (SqliteFailure Closed)
fault_of_code TooBig = failed (SqliteFailure TooBig)
fault_of_code _ = NotOurs

-- the connection is within a transaction
abbrev pub within_transaction : OpenFault
within_transaction = failed (SqliteFailure TransactionState)

-- memory ran out, or the store failed
abbrev pub IsStop : OpenFault → Type 0
IsStop Memory = ⊤
IsStop (Store c) = ⊤
IsStop _ = ⊥

-- memory that runs out, and any other cause, of making the tables
abbrev pub create_fault : Error → OpenFault
create_fault (SqliteFailure OutOfMemory) = Memory
create_fault e = failed e

-- of reading them
abbrev pub fault_of : Error → OpenFault
fault_of (SqliteFailure c) = fault_of_code c
fault_of _ = NotOurs

-- the version, where a ledger's tables may have it
abbrev pub known_version : ℤ → Option ℕ
known_version v =
    if int_eq v (pos 1) then Some 1 else (if int_eq v (pos 2) then Some 2 else (if int_eq v (pos 3) then Some 3 else None))

-- neither has a rule, or the rules have the same bytes
abbrev pub same_rule : Option (List ℕ) → Option (List ℕ) → Bool
same_rule None None = true
same_rule (Some text) (Some other) = bytes_eq text other
same_rule None (Some other) = false
same_rule (Some text) None = false

-- zone and default, checked in this order, where the zone is the same or isn't
abbrev pub fault_where : Bool → ℕ → Setting → Option OpenFault
fault_where is_zone default s =
    if is_zone then (if int_eq s.cap (pos default) then None else Some DefaultDiffers) else Some ZoneDiffers

-- the same where the store keeps this rule, or none
abbrev pub fault_in : Zone → ℕ → Setting → Option (List ℕ) → Option OpenFault
fault_in zone default s rule =
    fault_where (int_eq s.minutes (minutes_in zone) && same_rule (rule_in zone) rule) default s

-- the same by what stands in the row of the rule, if bytes do
abbrev pub fault_by_text : Zone → ℕ → Setting → Option (List ℕ) → Option OpenFault
fault_by_text zone default s None = Some NotOurs
fault_by_text zone default s (Some text) = fault_in zone default s (Some text)

-- the same by what is read of the rule, which there must be
abbrev pub fault_by_rule : Zone → ℕ → Setting → Result Row Error → Option OpenFault
fault_by_rule zone default s (Ok row) = fault_by_text zone default s (rule_text_of row)
fault_by_rule zone default s (Err e) = Some (fault_of e)

-- the same where there may be none
abbrev pub fault_by_any_rule : Zone → ℕ → Setting → Result Row Error → Option OpenFault
fault_by_any_rule zone default s (Err QueryReturnedNoRows) = fault_in zone default s None
fault_by_any_rule zone default s read = fault_by_rule zone default s read

-- what is read of the floors isn't floors
abbrev pub fault_by_floors : Result (Vec Row Global) Error → Option OpenFault
fault_by_floors (Ok rows) = if are_floors rows.items then None else Some NotOurs
fault_by_floors (Err e) = Some (fault_of e)

-- the version, where nothing is found against it
abbrev pub if_none : ℕ → Option OpenFault → Result ℕ OpenFault
if_none version None = Ok version
if_none version (Some f) = Err f

-- What is read after the settings, by their version.

-- the rule is read, unless there is a fault already
abbrev pub IsJudgedBehind : {S : Type 0} (g : Ghosts S) → Option OpenFault → Zone → ℕ → Setting → Held S → Held S
    → Option OpenFault → Type 0
IsJudgedBehind g (Some f) zone default s old new fault = (new ≡ old) × (fault ≡ Some f)
IsJudgedBehind g None zone default s old new fault =
    (rule : Result Row Error) × IsRuleRead (state g old) (state g new) rule
    × (fault ≡ fault_by_any_rule zone default s rule)

-- version 3: the floors are read, and after them the rule
pub record IsJudgedCurrent {S : Type 0} (g : Ghosts S) (zone : Zone) (default : ℕ) (s : Setting) (old new : Held S)
    (fault : Option OpenFault) : Type 0 where
  pub floors : Result (Vec Row Global) Error
  pub between : Held S
  pub are_read : AreFloorsRead (state g old) (state g between) floors
  pub judged : IsJudgedBehind g (fault_by_floors floors) zone default s between new fault

-- version 2: the rule is read
abbrev pub IsJudgedRuled : {S : Type 0} (g : Ghosts S) → Zone → ℕ → Setting → Held S → Held S → Option OpenFault → Type 0
IsJudgedRuled g zone default s old new fault =
    (rule : Result Row Error) × IsRuleRead (state g old) (state g new) rule
    × (fault ≡ fault_by_rule zone default s rule)

-- version 1: nothing is read
abbrev pub IsJudgedPlain : {S : Type 0} → Zone → ℕ → Setting → Held S → Held S → Option OpenFault → Type 0
IsJudgedPlain zone default s old new fault = (new ≡ old) × (fault ≡ fault_in zone default s None)

-- the rows are judged as those of this version are: 3, 2 or 1
abbrev pub IsJudgedBy : {S : Type 0} (g : Ghosts S) → ℕ → Zone → ℕ → Setting → Held S → Held S → Option OpenFault
    → Type 0
IsJudgedBy g version zone default s old new fault =
    Since (nat_le 3 version) (IsJudgedCurrent g zone default s old new fault)
    (Since (nat_le 2 version) (IsJudgedRuled g zone default s old new fault) (IsJudgedPlain zone default s old new fault))

-- they are judged by this version, unless a table has a name of a later one: then they aren't ours
abbrev pub IsJudgedUnless : {S : Type 0} (g : Ghosts S) → Bool → ℕ → Zone → ℕ → Setting → Held S → Held S
    → Result ℕ OpenFault → Type 0
IsJudgedUnless g true version zone default s old new r = (new ≡ old) × (r ≡ Err NotOurs)
IsJudgedUnless g false version zone default s old new r =
    (fault : Option OpenFault) × IsJudgedBy g version zone default s old new fault × (r ≡ if_none version fault)

-- the same where the version is known; else they aren't ours
abbrev pub IsJudgedAs : {S : Type 0} (g : Ghosts S) → Option ℕ → Zone → ℕ → Setting → Held S → Held S
    → Result ℕ OpenFault → Type 0
IsJudgedAs g None zone default s old new r = (new ≡ old) × (r ≡ Err NotOurs)
IsJudgedAs g (Some version) zone default s old new r =
    IsJudgedUnless g (has_later_table version (state g old).now.schema) version zone default s old new r

-- the same by the version in the settings; without settings the tables aren't ours, and a reading that failed is its fault
abbrev pub IsJudgedAfter : {S : Type 0} (g : Ghosts S) → Zone → ℕ → Result (Option Setting) Error → Held S → Held S
    → Result ℕ OpenFault → Type 0
IsJudgedAfter g zone default (Ok (Some s)) old new r = IsJudgedAs g (known_version s.version) zone default s old new r
IsJudgedAfter g zone default (Ok None) old new r = (new ≡ old) × (r ≡ Err NotOurs)
IsJudgedAfter g zone default (Err e) old new r = (new ≡ old) × (r ≡ Err (fault_of e))

-- the settings are read, and after them what their version has; the answer is the version, or why it isn't this ledger
pub record IsJudged {S : Type 0} (g : Ghosts S) (zone : Zone) (default : ℕ) (old new : Held S)
    (r : Result ℕ OpenFault) : Type 0 where
  pub read : Result (Option Setting) Error
  pub between : Held S
  pub is_read : IsRead (state g old) (state g between) read
  pub judged : IsJudgedAfter g zone default read between new r

-- What the rows decide where the tables are ours.

-- the table of the rule has a row
abbrev pub IsRuled : Database → Option (List ℕ) → Type 0
IsRuled db None = ⊥
IsRuled db (Some text) = HasRule db (Some text)

-- the tables of rule and floors are there
abbrev pub HasCurrent : Database → Option (List ℕ) → Type 0
HasCurrent db rule = HasRule db rule × ((floors : List RetiredRecord) × HasFloors db floors)

-- the tables of this version are there, with this rule or with none
abbrev pub HoldsVersion : ℕ → Database → Option (List ℕ) → Type 0
HoldsVersion version db rule =
    Since (nat_le 3 version) (HasCurrent db rule) (Since (nat_le 2 version) (IsRuled db rule) (rule ≡ None))

-- the same where the version is known; where it isn't there is no rule
abbrev pub HoldsKnown : Option ℕ → Database → Option (List ℕ) → Type 0
HoldsKnown None db rule = rule ≡ None
HoldsKnown (Some version) db rule = HoldsVersion version db rule

-- our table of settings is there, at some place, with this row, and so are those for rule and floors where its version
-- has them
pub record HasSettings (db : Database) (s : SettingRow) (rule : Option (List ℕ)) : Type 0 where
  pub setting : HasSetting db s
  pub later : HoldsKnown (known_version s.version) db rule

-- memory or the disk stopped the reading
abbrev pub IsStoppedBy : Option OpenFault → Type 0
IsStoppedBy None = ⊥
IsStoppedBy (Some f) = IsStop f

-- the fault is that of these rows, or memory or the disk stopped the reading
abbrev pub IsFaultOf : Zone → ℕ → SettingRow → Option (List ℕ) → Option OpenFault → Type 0
IsFaultOf zone default s rule fault = (fault ≡ fault_in zone default (shown_of s) rule) ⊎ IsStoppedBy fault

-- the version, or why it isn't this ledger
abbrev pub judged_as : Option ℕ → Zone → ℕ → Schema → Setting → Option (List ℕ) → Result ℕ OpenFault
judged_as None zone default schema s rule = Err NotOurs
judged_as (Some version) zone default schema s rule =
    if has_later_table version schema then Err NotOurs else if_none version (fault_in zone default s rule)

-- memory or the disk stopped the reading
abbrev pub IsStopped : Result ℕ OpenFault → Type 0
IsStopped (Ok version) = ⊥
IsStopped (Err f) = IsStop f

-- the answer is that of these rows, or memory or the disk stopped the reading
abbrev pub IsOf : Zone → ℕ → Schema → SettingRow → Option (List ℕ) → Result ℕ OpenFault → Type 0
IsOf zone default schema s rule r =
    (r ≡ judged_as (known_version s.version) zone default schema (shown_of s) rule) ⊎ IsStopped r

-- What an audit finds after the settings.

-- memory or the store stopped it
abbrev pub open_fault : Refusal → OpenFault
open_fault refused.Memory = Memory
open_fault (refused.Store c) = Store c

-- nothing where each pair is right, else the pair that isn't
abbrev pub audit_fault : Result Audit Refusal → Option OpenFault
audit_fault (Ok (Sound days transactions)) = None
audit_fault (Ok (Wrong login day)) = Some (Damaged login day)
audit_fault (Err fault) = Some (open_fault fault)

-- the fault is that of an audit of these rows
pub record IsChecked (zone : Zone) (default : ℕ) (db : Database) (fault : Option OpenFault) : Type 0 where
  pub found : Result Audit Refusal
  pub is_audit : IfOk found (IsAuditIn zone default db)
  pub fault_is : fault ≡ audit_fault found

-- The first of two checks finds a version, and the second nothing; or the first that finds a fault reports it.
abbrev pub IsInTurn : (Result ℕ OpenFault → Type 0) → (Option OpenFault → Type 0) → Result ℕ OpenFault → Type 0
IsInTurn First Second (Ok version) = First (Ok version) × Second None
IsInTurn First Second (Err f) = First (Err f) ⊎ ((version : ℕ) × First (Ok version) × Second (Some f))

-- the settings are judged so: by an answer that was the last, or by one after which the connection went on
abbrev pub IsSettled : {S : Type 0} (g : Ghosts S) → Zone → ℕ → Held S → Held S → Result ℕ OpenFault → Type 0
IsSettled {S} g zone default old new (Ok version) = (read : Held S) × IsJudged g zone default old read (Ok version)
IsSettled g zone default old new (Err f) = IsJudged g zone default old new (Err f)

-- first what the store answers to the queries for settings, floors and rule, then an audit of its rows
abbrev pub IsFound : {S : Type 0} (g : Ghosts S) → Zone → ℕ → Held S → Held S → Result ℕ OpenFault → Type 0
IsFound g zone default old new =
    IsInTurn (IsSettled g zone default old new) (IsChecked zone default (state g old).now)

-- first the rows of settings and rule, then an audit of the rows
abbrev pub IsFoundOf : Zone → ℕ → Database → SettingRow → Option (List ℕ) → Result ℕ OpenFault → Type 0
IsFoundOf zone default db s rule = IsInTurn (IsOf zone default db.schema s rule) (IsChecked zone default db)

-- the version that was found, or why it isn't this ledger
abbrev pub version_of : Result KnownLedger OpenFault → Result ℕ OpenFault
version_of (Ok known) = Ok known.version
version_of (Err f) = Err f

-- What becomes of a store that is found to be this ledger.

-- nothing is written to a ledger where something has the index's name; else it has the index, and a crash leaves it so
abbrev pub IsKeptUp : State → State → Type 0
IsKeptUp old new =
    (Spares old new × (IsTrue new.is_open → lacks_index new.now.schema ≡ false))
    ⊎ (IsTrue old.is_open × IsIndexed old.now new.now × ((db : Trees) → new.may_leave db → db ≡ new.now.trees))

-- a ledger of the current version has the same rows; an older one is given that version, and a crash leaves it so
abbrev pub IsBroughtUp : ℕ → State → State → Type 0
IsBroughtUp version old new =
    Since (nat_le 3 version) (IsKeptUp old new)
    (IsMigrated (nat_le 2 version) old.now new.now × ((db : Trees) → new.may_leave db → db ≡ new.now.trees))

-- what a crash may leave of a ledger of the current version, with the index, and of an older one, with that version
abbrev pub AreBroughtUp : ℕ → Database → Trees → Type 0
AreBroughtUp version old db = Since (nat_le 3 version) (AreIndexed old db) (AreMigrated (nat_le 2 version) old db)

-- it wasn't brought up: a crash leaves what it left before, or all that was to be written
pub record IsLeftBehind (AreWritten : Database → Trees → Type 0) (old new : State) (f : OpenFault) : Type 0 where
  pub fault : IsStop f
  pub now : IsTrue new.is_open → new.now ≡ old.now
  pub crash : (db : Trees) → new.may_leave db
      → old.may_leave db ⊎ (IsTrue old.is_open × AreWritten old.now db)

-- this version was found, and the ledger brought up to the current one
abbrev pub Opens : (Result ℕ OpenFault → Type 0) → State → State → Type 0
Opens Found old new = (version : ℕ) × Found (Ok version) × IsBroughtUp version old new

-- this fault was found, and nothing written; or a version was found, and not brought up
abbrev pub Refuses : (Result ℕ OpenFault → Type 0) → State → State → OpenFault → Type 0
Refuses Found old new f =
    (Found (Err f) × Spares old new) ⊎ ((version : ℕ) × Found (Ok version) × IsLeftBehind (AreBroughtUp version) old new f)
