-- A row that is found by its key is the one that stands there.
use Rattle.std.proofs.Common.{◌≡◌, inl, inr, ℕ, ◌≤◌, List, [], ◌∷◌, filter, find, length, slice_get, Bool, Option, Some, None, arith, refl, sym, ap, subst, ◌∙◌}
use Rattle.mq_tables.proofs.Words.{Has, IsUnchanged, LimitRecord, State, Tables, TransactionRecord, UsageRecord, cases_Bool, filter_none, has_kept, is_limit, is_transaction, is_usage}
use Rattle.mq_request.specs.declared.message.Id.{Id}
use Rattle.mq_ledger.specs.History.{transaction}
use Rattle.mq_rows.specs.declared.plan.FoundRows.{FoundRows}
use Rattle.mq_rows.specs.Found.{IsGoverning, IsFirstOver, IsTransactionFound, IsReserveFound}
use Rattle.mq_tables.specs.Finding.{AreKeyed}
use Rattle.mq_tables.specs.Ledger.{HasLedger}
use Rattle.mq_tables.specs.Records.{IsOneOf}

module _ {R : Type 0} (test : R → Bool) where
  -- what is found is the first that passes
  finds_first : (all : List R) → find test all ≡ slice_get (filter test all) 0
  finds_first [] = refl
  finds_first (r ∷ all) = elim (cases_Bool (test r)) [ inl hit ↦ rw hit refl | inr other ↦ rw other (finds_first all) ]

  only_one : (rs : List R) (r : R) → length rs ≤ 1 → Has rs r → slice_get rs 0 ≡ Some r
  only_one [] r few there = absurd there
  only_one (x ∷ rs) r few (inl same) = ap Some (sym same)
  only_one (x ∷ []) r few (inr more) = absurd more
  only_one (x ∷ (y ∷ rs)) r few (inr more) = absurd (omega (arith, few))

  -- at most one row has the key
  pub the_one : (all : List R) (found : Option R) → length (filter test all) ≤ 1 → IsOneOf test all found → found ≡ find test all
  the_one all None one none = sym (finds_first all ∙ ap (λ rs. slice_get rs 0) (filter_none test all none))
  the_one all (Some r) one h = sym (finds_first all ∙ only_one (filter test all) r one (has_kept test all r h.0 h.1))

-- ---- one reader after another

module _ (a b : State) (same : IsUnchanged a b) where
  later : (t : Tables) → HasLedger a.now t → HasLedger b.now t
  later t l = subst (λ db. HasLedger db t) (sym same.0.now_is) l

  pub named_so : (id : Id) (txn : ℕ) (login : List ℕ) (day : ℕ) (row : Option TransactionRecord) (usage : Option UsageRecord)
      → ((t : Tables) → HasLedger a.now t → IsOneOf (is_transaction (transaction id txn)) t.transactions row)
      → ((t : Tables) → HasLedger b.now t → IsOneOf (is_usage login day) t.usage usage)
      → (t : Tables) → HasLedger a.now t → AreKeyed t → (row ≡ find (is_transaction (transaction id txn)) t.transactions) × (usage ≡ find (is_usage login day) t.usage)
  named_so id txn login day row usage one two t l keyed = (
    the_one (is_transaction (transaction id txn)) t.transactions row (keyed.transactions (transaction id txn)) (one t l),
    the_one (is_usage login day) t.usage usage (keyed.usage login day) (two t (later t l)),
  )

  pub reserve_so : (id : Id) (txn : ℕ) (login : List ℕ) (day : ℕ) (f : FoundRows) (governing : Option LimitRecord)
      → ((t : Tables) → HasLedger a.now t → AreKeyed t → IsTransactionFound id txn login day t f)
      → ((t : Tables) → HasLedger b.now t → IsGoverning login day t.limits governing)
      → (t : Tables) → HasLedger a.now t → AreKeyed t → IsReserveFound id txn login day t (record f { governing = governing })
  reserve_so id txn login day f governing one two t l keyed = let named = one t l keyed in (named.0, named.1, two t (later t l))

  pub limit_so : (login : List ℕ) (from cap : ℕ) (over : Option UsageRecord) (limit : Option LimitRecord)
      → ((t : Tables) → HasLedger a.now t → IsFirstOver login from cap t.usage over)
      → ((t : Tables) → HasLedger b.now t → IsOneOf (is_limit login from) t.limits limit)
      → (t : Tables) → HasLedger a.now t → AreKeyed t → IsFirstOver login from cap t.usage over × (limit ≡ find (is_limit login from) t.limits)
  limit_so login from cap over limit one two t l keyed = (one t l, the_one (is_limit login from) t.limits limit (keyed.limits login from) (two t (later t l)))
