-- What stops a request over the rows of a legal history.
use Rattle.std.proofs.Common.{Err, IfErr, IsErrAnd, List, None, Ok, Option, Result, Some, inl, inr, is_some, length, nat_le, refl, subst, sym, ◌<◌, ◌≡◌}
use Rattle.mq_store.proofs.Words.{Entry, cases_Bool, le_of, lt_of}
use Rattle.mq_ledger.specs.declared.ledger.LedgerFault.{LedgerFault}
use Rattle.mq_ledger.specs.declared.ledger.LedgerFault.TheVariants as ledger
use Rattle.mq_store.specs.declared.fault.Refusal.{Refusal}
use Rattle.mq_store.specs.declared.fault.StoreCause.{StoreCause}
use Rattle.mq_store.specs.declared.fault.StoreCause.TheVariants as cause
use Rattle.mq_store.specs.Causes.{refused_at, cause_in, first_cause, is_closed, IsCauseOver}

-- the rows that were read decide the request unless as many answers are stored as there may be
pub of_stored : (H : List Entry) (fault : LedgerFault) → (fault ≡ ledger.Store → length H < 4611686018427387904 → ⊥) → IsCauseOver H (cause_in (refused_at fault))
of_stored H ledger.Memory decides = tt
of_stored H ledger.Store decides = elim (cases_Bool (nat_le 4611686018427387904 (length H))) [
  | inl full ↦ le_of 4611686018427387904 (length H) full
  | inr few ↦ absurd (decides refl (lt_of 4611686018427387904 (length H) few))
]

-- they decide it, so memory ran out
pub of_rows : (H : List Entry) (fault : LedgerFault) → (fault ≡ ledger.Store → ⊥) → IsCauseOver H (cause_in (refused_at fault))
of_rows H fault decides = of_stored H fault (λ store few. decides store)

-- a fault that was handed on
pub stops_by : {A : Type 0} (fault : LedgerFault) (r : Result A Refusal) (P : Refusal → Type 0) → IsErrAnd r (λ refused. refused ≡ refused_at fault) → P (refused_at fault) → IfErr r P
stops_by fault (Ok x) P given so = tt
stops_by fault (Err e) P given so = subst P (sym given) so

-- ---- the first of two causes

-- one is told where one was found
pub first_is : (before found : Option StoreCause) → is_some (first_cause before found) ≡ is_some found
first_is None found = refl
first_is (Some cause.Content) found = refl
first_is (Some (cause.Refused e)) None = refl
first_is (Some (cause.Refused e)) (Some found) = elim (cases_Bool (is_closed found)) [
  | inl closed ↦ rw closed refl
  | inr not ↦ rw not refl
]

-- and it is one over each history over which that one is
pub first_over : (H : List Entry) (before found : Option StoreCause) → IsCauseOver H found → IsCauseOver H (first_cause before found)
first_over H None found over = over
first_over H (Some cause.Content) found over = over
first_over H (Some (cause.Refused e)) None over = over
first_over H (Some (cause.Refused e)) (Some found) over = elim (cases_Bool (is_closed found)) [
  | inl closed ↦ rw closed tt
  | inr not ↦ rw not over
]
