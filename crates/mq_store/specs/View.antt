-- What a ledger in a store shows.
use Rattle.std.specs.Prelude.{◌≡◌, ℕ, false, Option, Some, None, refl}
use Rattle.std.specs.Coded.{Coded, code_by, coded×, coded_ℕ, coded_option}
use Rattle.mq_ledger.specs.DaysCode.{days_code}
use Rattle.sqlite.specs.Held.{Held, held_code}
use Rattle.sqlite.specs.declared.error.Error.{Error}
use Rattle.sqlite.specs.contracts.error.Error as error
use Rattle.mq_request.specs.Range.{IsAmount}
use Rattle.mq_ledger.specs.declared.zone.Zone.{Zone}
use Rattle.mq_store.specs.declared.auditing.RowCounts.{RowCounts}
use Rattle.mq_store.specs.declared.fault.StoreCause.{StoreCause}
use Rattle.mq_store.specs.declared.fault.StoreCause.TheVariants.{Refused, Content}

-- a ledger as its callers see it: its store, its terms, what its opening counted, and why its last call failed
pub record LedgerView (S : Type 0) : Type 0 where
  pub connection : Held S
  pub zone : Zone
  pub default : ℕ
  -- the rows that were counted as it was opened
  pub found : RowCounts
  -- why the last call answered that the store failed, if it did
  pub cause : Option StoreCause

-- a cause is stored as its error, or as none
abbrev pub split : StoreCause → Option Error
split (Refused e) = Some e
split Content = None

-- the cause that is stored so
abbrev pub join : Option Error → StoreCause
join (Some e) = Refused e
join None = Content

-- nothing of a cause is lost on the way
pub joined : (c : StoreCause) → join (split c) ≡ c
joined (Refused e) = refl
joined Content = refl

-- so causes are told apart
abbrev pub cause_code : Coded StoreCause
cause_code = code_by (Option Error) (coded_option error.the_row.coded) split join joined

-- so are counts of rows
abbrev pub counts_code : Coded RowCounts
counts_code =
    code_by (ℕ × ℕ) (coded× coded_ℕ coded_ℕ) (λ c. (c.days, c.transactions))
    (λ p. record { days = p.0; transactions = p.1 }) (λ _. refl)

-- so are ledgers, where their stores can be
abbrev pub view_code : {S : Type 0} → Coded S → Coded (LedgerView S)
view_code {S} store =
    code_by (Held S × (Zone × (ℕ × (RowCounts × Option StoreCause))))
    (coded× (held_code store) (coded× days_code (coded× coded_ℕ (coded× counts_code (coded_option cause_code)))))
    (λ v. (v.connection, (v.zone, (v.default, (v.found, v.cause)))))
    (λ p. record {
      connection = p.0;
      zone = p.1.0;
      default = p.1.1.0;
      found = p.1.1.1.0;
      cause = p.1.1.1.1;
    })
    (λ _. refl)

-- no transaction is open, no statement is cut short, and the default is in range
pub record IsReady {S : Type 0} (l : LedgerView S) : Type 0 where
  pub autocommit : l.connection.in_transaction ≡ false
  pub unlimited : l.connection.step_limit ≡ None
  pub default : IsAmount l.default
