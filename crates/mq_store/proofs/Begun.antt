-- The days of a history's transactions are those of their rows.
use Rattle.std.proofs.Common.{◌≡◌, ℕ, ◌≤◌, List, Option, Some, None, true, false, Contains, ap, subst, ◌∙◌, arith}
use Rattle.std.specs.Prelude.{option_map}
use Rattle.std.proofs.lemmas.Bool.{le-leb}
use Rattle.mq_store.proofs.Words.{AllByRecursion, AreTransactions, Entry, Transaction, TransactionRecord, is_transaction, those, transaction_of, transaction_row, named}
use Rattle.mq_ledger.proofs.Transactions.{transaction_itself}
use Rattle.mq_rows.proofs.Lists.{mapped_from, member_is, one_has}
use Rattle.mq_tables.specs.TransactionDays.{IsDayOf, is_until}
use Rattle.mq_store.specs.TransactionDays.{AreDaysUntil, AreTransactionDays, IsBegunOn}
use Rattle.mq_store.specs.declared.transaction_days.TransactionDays.{TransactionDays}

module _ (day : ℕ → ℕ) (H : List Entry) (rows : List TransactionRecord) (are : AreTransactions day H rows) where
  -- a row's transaction began on its day
  begun_by : (u : TransactionRecord) → Contains rows u → IsBegunOn day H u.day
  begun_by u there =
      let t : Transaction = record { host = u.host; run = u.run; txn = u.txn } in
      let row : transaction_row day H t ≡ Some u = member_is (is_transaction t) rows there.0 u there.1 there.2 (transaction_itself t) (transaction_row day H t) (are t) in
      let e = mapped_from (transaction_of day H t) (named H t) u row in
      (t, e.0, e.1, ap (λ (r : TransactionRecord). r.day) e.2)

  begun_on : (d : ℕ) → IsDayOf rows d → IsBegunOn day H d
  begun_on d it = subst (IsBegunOn day H) it.2 (begun_by it.0 it.1)

  -- where one began, there is a row of that day
  has_row : (d : ℕ) → IsBegunOn day H d → (P : TransactionRecord → Type 0) → AllByRecursion P rows → (u : TransactionRecord) × (u.day ≡ d) × P u
  has_row d on P all =
      let w : TransactionRecord = transaction_of day H on.0 on.1 in
      let row : transaction_row day H on.0 ≡ Some w = ap (option_map (transaction_of day H on.0)) on.2 in
      (w, on.3, one_has (is_transaction on.0) P rows w (are on.0 ∙ ap those row) all)

  module _ (until : ℕ) where
    none_until : AllByRecursion (λ t. is_until until t ≡ false) rows → (d : ℕ) → IsBegunOn day H d → d ≤ until → ⊥
    none_until none d on le =
        let u = has_row d on (λ t. is_until until t ≡ false) none in
        let hit : is_until until u.0 ≡ true = le-leb u.0.day until (omega (arith, le, u.1)) in
        absurd (cc (hit, u.2))

    -- what holds of the days of rows up to that one holds of that day
    holds_on : (P : ℕ → Type 0) → AllByRecursion (λ t. is_until until t ≡ true → P t.day) rows → (d : ℕ) → IsBegunOn day H d → d ≤ until → P d
    holds_on P all d on le =
        let u = has_row d on (λ t. is_until until t ≡ true → P t.day) all in
        subst P u.1 (u.2 (le-leb u.0.day until (omega (arith, le, u.1))))

    pub begun : (days : Option TransactionDays) → AreDaysUntil until rows days → AreTransactionDays day until H days
    begun None none = none_until none
    begun (Some days) it = (
      begun_on days.oldest it.0.0,
      begun_on days.newest it.1.0,
      it.1.1,
      λ d on le. (holds_on (λ x. days.oldest ≤ x) it.0.2 d on le, holds_on (λ x. x ≤ days.newest) it.1.2 d on le),
    )
