-- What is found of a store, one check after another, and what becomes of it.
use Rattle.std.proofs.Common.{Bool, Err, IfErr, IfOk, IsTrue, None, Ok, OnOk, Option, Result, Some, false, inl, inr, nat_le, refl, subst, sym, true, ℕ, ◌∙◌, ◌≡◌, ◌⊎◌}
use Rattle.mq_store.proofs.Words.{AreIndexed, AreMigrated, Audit, Database, IsIndexed, IsMigrated, Since, Spares, State, Trees, Zone, lacks_index}
use Rattle.mq_store.specs.declared.fault.OpenFault.{OpenFault}
use Rattle.mq_store.specs.declared.fault.Refusal.{Refusal}
use Rattle.mq_store.specs.Auditing.{IsAuditIn}
use Rattle.mq_store.specs.Opening.{IsStop, audit_fault, if_none, IsChecked, IsInTurn, IsKeptUp, IsBroughtUp, AreBroughtUp, IsLeftBehind, Opens, Refuses}
use Rattle.mq_store.proofs.Chain.{spares_both}

-- an audit after a reading that wrote nothing is one of the rows before it
checked : (zone : Zone) (default : ℕ) (old mid : State) (found : Result Audit Refusal) → Spares old mid → OnOk found (IsTrue mid.is_open) → IfOk found (IsAuditIn zone default mid.now)
    → IsChecked zone default old.now (audit_fault found)
checked zone default old mid (Ok a) spares is_open is_audit = record { found = Ok a; is_audit = subst (λ db. IsAuditIn zone default db a) (spares.now is_open) is_audit; fault_is = refl }
checked zone default old mid (Err e) spares is_open is_audit = record { found = Err e; is_audit = tt; fault_is = refl }

in_turn : (First : Result ℕ OpenFault → Type 0) (Second : Option OpenFault → Type 0) (version : ℕ) (fault : Option OpenFault) → First (Ok version) → Second fault → IsInTurn First Second (if_none version fault)
in_turn First Second version None first second = (first, second)
in_turn First Second version (Some f) first second = inr (version, first, second)

-- the settings are this ledger's, and after them the audit found this
pub audited_behind : (zone : Zone) (default : ℕ) (old mid : State) (First : Result ℕ OpenFault → Type 0) (version : ℕ) (found : Result Audit Refusal) (r : Result ℕ OpenFault) → r ≡ if_none version (audit_fault found) → First (Ok version)
    → Spares old mid → OnOk found (IsTrue mid.is_open) → IfOk found (IsAuditIn zone default mid.now) → IsInTurn First (IsChecked zone default old.now) r
audited_behind zone default old mid First version found r is first spares is_open is_audit =
    subst (IsInTurn First (IsChecked zone default old.now)) (sym is) (in_turn First (IsChecked zone default old.now) version (audit_fault found) first (checked zone default old mid found spares is_open is_audit))

-- a ledger that is left as it is, and one that got the index
pub left_alone : (s : State) → lacks_index s.now.schema ≡ false → IsKeptUp s s
left_alone s taken = inl (record { was_open = λ o. o; now = λ o. refl; committed = λ o. refl; crash = λ db may. may }, λ o. taken)

pub given_index : (old new : State) → IsTrue old.is_open → IsIndexed old.now new.now → ((db : Trees) → new.may_leave db → db ≡ new.now.trees) → IsKeptUp old new
given_index old new was_open indexed leaves = inr (was_open, indexed, leaves)

-- of the current version that is all that is done; else a later version is written
pub up_current : {X : Type 0} (version : ℕ) (old new : State) (r : Result X OpenFault) → nat_le 3 version ≡ true → OnOk r (IsKeptUp old new) → OnOk r (IsBroughtUp version old new)
up_current version old new (Ok x) current up =
    subst (λ is. Since is (IsKeptUp old new) (IsMigrated (nat_le 2 version) old.now new.now × ((db : Trees) → new.may_leave db → db ≡ new.now.trees))) (sym current) up
up_current version old new (Err f) current up = tt

behind_by : (version : ℕ) (is : Bool) (old new : State) (f : OpenFault) → nat_le 3 version ≡ is
    → IsLeftBehind (λ db trees. Since is (AreIndexed db trees) (AreMigrated (nat_le 2 version) db trees)) old new f → IsLeftBehind (AreBroughtUp version) old new f
behind_by version is old new f same h =
    subst (λ b. IsLeftBehind (λ db trees. Since b (AreIndexed db trees) (AreMigrated (nat_le 2 version) db trees)) old new f) (sym same) h

pub behind_current : {X : Type 0} (version : ℕ) (old new : State) (r : Result X OpenFault) → nat_le 3 version ≡ true → IfErr r (IsLeftBehind AreIndexed old new) → IfErr r (IsLeftBehind (AreBroughtUp version) old new)
behind_current version old new (Ok x) current h = tt
behind_current version old new (Err f) current h = behind_by version true old new f current h

pub behind_older : (version : ℕ) (old new : State) (f : OpenFault) → nat_le 3 version ≡ false → IsStop f → (IsTrue new.is_open → new.now ≡ old.now)
    → ((db : Trees) → new.may_leave db → old.may_leave db ⊎ (IsTrue old.is_open × AreMigrated (nat_le 2 version) old.now db)) → IsLeftBehind (AreBroughtUp version) old new f
behind_older version old new f older stop now crash = behind_by version false old new f older (record { fault = stop; now = now; crash = crash })

-- what becomes of a store after a reading that wrote nothing becomes of it before that
module _ (version : ℕ) (a b c : State) (spares : Spares a b) where
  kept_behind : IsKeptUp b c → IsKeptUp a c
  kept_behind (inl left) = inl (spares_both a b c spares left.0, left.1)
  kept_behind (inr made) = inr (spares.was_open made.0, subst (λ (db : Database). IsIndexed db c.now) (spares.now made.0) made.1, made.2)

  pub up_behind : (nat_le 3 version ≡ false → IsTrue b.is_open) → IsBroughtUp version b c → IsBroughtUp version a c
  up_behind is_open up = go (nat_le 3 version) is_open up
    where
      go : (is : Bool) → (is ≡ false → IsTrue b.is_open) → Since is (IsKeptUp b c) (IsMigrated (nat_le 2 version) b.now c.now × ((db : Trees) → c.may_leave db → db ≡ c.now.trees))
          → Since is (IsKeptUp a c) (IsMigrated (nat_le 2 version) a.now c.now × ((db : Trees) → c.may_leave db → db ≡ c.now.trees))
      go true is_open up = kept_behind up
      go false is_open up = (subst (λ (db : Database). IsMigrated (nat_le 2 version) db c.now) (spares.now (is_open refl)) up.0, up.1)

  pub left_behind : (f : OpenFault) → (IsTrue c.is_open → IsTrue b.is_open) → IsLeftBehind (AreBroughtUp version) b c f → IsLeftBehind (AreBroughtUp version) a c f
  left_behind f was_open left = record {
    fault = left.fault;
    now = λ o. left.now o ∙ spares.now (was_open o);
    crash = λ db may. elim (left.crash db may) [
      | inl was ↦ inl (spares.crash db was)
      | inr made ↦ inr (spares.was_open made.0, subst (λ (x : Database). AreBroughtUp version x db) (spares.now made.0) made.1)
    ];
  }

-- the ledger was found, and then brought up or not
module _ {X : Type 0} (Found : Result ℕ OpenFault → Type 0) (version : ℕ) (a b c : State) (found : Found (Ok version)) (spares : Spares a b) where
  pub opens_behind : (r : Result X OpenFault) → OnOk r (nat_le 3 version ≡ false → IsTrue b.is_open) → OnOk r (IsBroughtUp version b c) → OnOk r (Opens Found a c)
  opens_behind (Ok x) is_open up = (version, found, up_behind version a b c spares is_open up)
  opens_behind (Err f) is_open up = tt

  pub refuses_behind : (r : Result X OpenFault) → (IsTrue c.is_open → IsTrue b.is_open) → IfErr r (IsLeftBehind (AreBroughtUp version) b c) → IfErr r (Refuses Found a c)
  refuses_behind (Ok x) was_open left = tt
  refuses_behind (Err f) was_open left = inr (version, found, left_behind version a b c spares f was_open left)
