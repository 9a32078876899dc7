-- The fault of what was read of our rows.
use Rattle.std.proofs.Common.{Err, Global, IsTrue, List, None, Ok, OnOk, Option, Result, Some, Vec, ap, inl, inr, refl, subst, sym, ℕ, ◌∙◌, ◌≡◌}
use Rattle.mq_store.proofs.Words.{AreFloorsRead, Database, HasRule, Held, IsRuleOf, IsRuleRead, Row, Schema, Setting, SettingRow, Spares, State, Zone, shown_of, state}
use Rattle.sqlite_trees.specs.declared.store.Store.{Ghosts}
use Rattle.sqlite.specs.declared.error.Error.{Error}
use Rattle.sqlite_trees.specs.declared.error.StoreError.TheVariants.{OutOfMemory, Io, Corrupt, Full, Broken, Unstorable}
use Rattle.mq_tables.specs.Floors.{AreFloorsOf}
use Rattle.mq_tables.specs.Settings as settings
use Rattle.mq_store.specs.declared.fault.OpenFault.{OpenFault}
use Rattle.mq_store.specs.Opening.{fault_of, fault_in, fault_by_rule, fault_by_any_rule, fault_by_floors, IsJudgedCurrent, IsRuled, IsFaultOf, IsStop, IsOf}

-- memory or the disk stopped the reading
stops : (zone : Zone) (default : ℕ) (setting : Setting) (e : Error) → settings.IsStop e → IsStop (fault_of e) × (fault_by_any_rule zone default setting (Err e) ≡ Some (fault_of e))
stops zone default setting e (OutOfMemory, is) = rw is (tt, refl)
stops zone default setting e (Io, is) = rw is (tt, refl)
stops zone default setting e (Corrupt, is) = rw is (tt, refl)
stops zone default setting e (Full, is) = rw is (tt, refl)
stops zone default setting e (Broken, is) = rw is (tt, refl)
stops zone default setting e (Unstorable, is) = rw is (tt, refl)

module _ (zone : Zone) (default : ℕ) (s : SettingRow) (setting : Setting) (shown : shown_of s ≡ setting) where
  -- the settings were read, and then the row of the rule, which there is
  pub of_rule : (text : List ℕ) (read : Result Row Error) → IsRuleOf (Some text) read → IsFaultOf zone default s (Some text) (fault_by_rule zone default setting read)
  of_rule text (Ok row) is = inl (ap (λ r. fault_by_rule zone default setting (Ok r)) is ∙ ap (λ x. fault_in zone default x (Some text)) (sym shown))
  of_rule text (Err e) stopped = inr (stops zone default setting e stopped).0

  pub of_ruled : (db : Database) (rule : Option (List ℕ)) (read : Result Row Error) → IsRuled db rule → ((known : Option (List ℕ)) → HasRule db known → IsRuleOf known read) → IsFaultOf zone default s rule (fault_by_rule zone default setting read)
  of_ruled db None read has is = absurd has
  of_ruled db (Some text) read has is = of_rule text read (is (Some text) has)

  -- the same where there may be none
  stopped_any : (rule : Option (List ℕ)) (e : Error) → settings.IsStop e → IsFaultOf zone default s rule (fault_by_any_rule zone default setting (Err e))
  stopped_any rule e stopped = (let so = stops zone default setting e stopped in subst (IsFaultOf zone default s rule) (sym so.1) (inr so.0))

  pub of_any_rule : (rule : Option (List ℕ)) (read : Result Row Error) → IsRuleOf rule read → IsFaultOf zone default s rule (fault_by_any_rule zone default setting read)
  of_any_rule None (Ok row) is = absurd is
  of_any_rule None (Err e) (inl is) = rw is (inl (ap (λ x. fault_in zone default x None) (sym shown)))
  of_any_rule None (Err e) (inr stopped) = stopped_any None e stopped
  of_any_rule (Some text) (Ok row) is = of_rule text (Ok row) is
  of_any_rule (Some text) (Err e) stopped = stopped_any (Some text) e stopped

-- a fault that was found in the floors stopped the reading
pub of_floors : (zone : Zone) (default : ℕ) (s : SettingRow) (rule : Option (List ℕ)) (read : Result (Vec Row Global) Error) (f : OpenFault) → AreFloorsOf read → fault_by_floors read ≡ Some f → IsFaultOf zone default s rule (Some f)
of_floors zone default s rule (Ok rows) f are is = absurd (let none : fault_by_floors (Ok rows) ≡ None = rw are refl in let both : ◌≡◌ {A = Option OpenFault} None (Some f) = sym none ∙ is in cc)
of_floors zone default s rule (Err e) f stopped is = subst (IsFaultOf zone default s rule) is (inr (stops zone default (shown_of s) e stopped).0)

-- what was judged after the floors
module _ {S : Type 0} (g : Ghosts S) (zone : Zone) (default : ℕ) (s : Setting) where
  pub judged_some : (old new : Held S) (floors : Result (Vec Row Global) Error) (f : OpenFault) → AreFloorsRead (state g old) (state g new) floors → fault_by_floors floors ≡ Some f → IsJudgedCurrent g zone default s old new (Some f)
  judged_some old new floors f read is = record { floors = floors; between = new; are_read = read; judged = rw is (refl, refl) }

  pub judged_none : (old mid new : Held S) (floors : Result (Vec Row Global) Error) (rule : Result Row Error) (fault : Option OpenFault) → AreFloorsRead (state g old) (state g mid) floors → fault_by_floors floors ≡ None → IsRuleRead (state g mid) (state g new) rule
      → fault ≡ fault_by_any_rule zone default s rule → IsJudgedCurrent g zone default s old new fault
  judged_none old mid new floors rule fault read is rule_read judged = record { floors = floors; between = mid; are_read = read; judged = rw is (rule, rule_read, judged) }

pub floors_open : (read : Result (Vec Row Global) Error) {Open : Type 0} → fault_by_floors read ≡ None → OnOk read Open → Open
floors_open (Ok rows) is is_open = is_open
floors_open (Err e) is is_open = absurd cc

pub has_rule_behind : (a b : State) (rule : Option (List ℕ)) → Spares a b → IsTrue b.is_open → HasRule a.now rule → HasRule b.now rule
has_rule_behind a b rule spares is_open has = subst (λ db. HasRule db rule) (sym (spares.now is_open)) has

-- what was read of the settings

pub read_some : (s : SettingRow) (found : Option Setting) (setting : Setting) → settings.IsOf s (Ok found) → found ≡ Some setting → shown_of s ≡ setting
read_some s found setting (inl is) some = cc
read_some s found setting (inr stopped) some = absurd stopped

pub read_none : (s : SettingRow) (found : Option Setting) → settings.IsOf s (Ok found) → found ≡ None → ⊥
read_none s found (inl is) none = absurd cc
read_none s found (inr stopped) none = absurd stopped

pub read_err : (zone : Zone) (default : ℕ) (schema : Schema) (s : SettingRow) (rule : Option (List ℕ)) (e : Error) → settings.IsOf s (Err e) → IsOf zone default schema s rule (Err (fault_of e))
read_err zone default schema s rule e (inl is) = absurd cc
read_err zone default schema s rule e (inr stopped) = inr (stops zone default (shown_of s) e stopped).0
