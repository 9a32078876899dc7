use Rattle.std.proofs.Common.{◌≡◌, ℕ, ◌≤◌, List, [], ◌∷◌, ◌++◌, Bool, true, false, refl, ◌∙◌, ap, sym, subst, arith, append-nil, filter, not, ◌&&◌, nat_lt, nat_le, IsPermutation}
use Rattle.mq_rows.proofs.Words.{AreMovesOf, AreTransactions, CanBeClosed, Entry, Id, IsLegal, TransactionRecord, all_of, closed, ended, filter_same, floor, has_reserve, is_open_in, key_of, nat_list_eq_equiv, nat_tests, neither_first, or_false, requests, retire_entry, runs_below, same_text, text_is}
use Rattle.mq_rows.proofs.Clearing.{below_is_to}
use Rattle.mq_rows.proofs.Closing.{is_to_close, begun, all_closed, all_used}
use Rattle.mq_rows.proofs.Leading.{AreLeft, led, next_fits, none_to_close, all_lead_on}
use Rattle.mq_rows.proofs.RowSums.{IsRowOf, Laws, each_row}
use Rattle.mq_rows.proofs.Trans.{Ledger}
use Rattle.mq_rows.proofs.laws.retired_runs_follow.Goals as goal

-- a run of the host that isn't below the floor is from it on
from_floor : (low run : ℕ) → nat_lt run low ≡ false → nat_le low run ≡ true
from_floor low run f = grind (arith, nat_tests, f)

-- the tests in another order, where the first of the runs excludes no open one
reordered : (host other low high shut : Bool) → host ≡ other → (other ≡ true → shut ≡ false → low ≡ true) → (host && (low && (high && not shut))) ≡ (not shut && (other && high))
reordered true true true true true e h = refl
reordered true true true true false e h = refl
reordered true true true false true e h = refl
reordered true true true false false e h = refl
reordered true true false true true e h = refl
reordered true true false true false e h = absurd (cc (h refl refl))
reordered true true false false true e h = refl
reordered true true false false false e h = refl
reordered false false low high true e h = refl
reordered false false low high false e h = refl
reordered true false low high shut e h = absurd (cc e)
reordered false true low high shut e h = absurd (cc e)

-- a row of the history is to be closed where it is open and of one of the runs
tests_agree : (day : ℕ → ℕ) (H : List Entry) (id : Id) → 1 ≤ id.run → (r : TransactionRecord) → IsRowOf day H r → is_open_in (runs_below H id) r ≡ is_to_close id r
tests_agree day H id some r is =
    let shut : closed H (key_of r) ≡ r.closed = ap (λ (x : TransactionRecord). x.closed) is.row in
    let low : same_text r.host id.host ≡ true → r.closed ≡ false → nat_le (floor (requests H) id.host) r.run ≡ true = λ own still.
    (let host : r.host ≡ id.host = text_is r.host id.host own in
    let above : nat_lt r.run (floor (requests H) r.host) ≡ false = neither_first (nat_lt r.run (floor (requests H) r.host)) (ended H (key_of r)) (shut ∙ still) in
    from_floor (floor (requests H) id.host) r.run (subst (λ h. nat_lt r.run (floor (requests H) h) ≡ false) host above)) in
    ap (λ b. same_text id.host r.host && (nat_le (floor (requests H) id.host) r.run && (b && not r.closed))) (sym (below_is_to r.run id.run some))
    ∙ reordered (same_text id.host r.host) (same_text r.host id.host) (nat_le (floor (requests H) id.host) r.run) (nat_lt r.run id.run) r.closed (nat_list_eq_equiv.symm id.host r.host) low

-- what is to be closed is left to close
all_left : (day : ℕ → ℕ) (H : List Entry) (id : Id) → 1 ≤ id.run → (rows : List TransactionRecord) → AreTransactions day H rows
    → (these : List TransactionRecord) → IsPermutation these (filter (is_open_in (runs_below H id)) rows) → IsPermutation these (filter (is_to_close id) rows)
all_left day H id some rows ts these same =
    subst (IsPermutation these) (filter_same (is_open_in (runs_below H id)) (is_to_close id) rows
    (all_of (λ r. is_open_in (runs_below H id) r ≡ is_to_close id r) rows (λ r i. tests_agree day H id some r (each_row day H rows ts r i)))) same

pub returns : goal.returns
returns c =
    let L : (day : ℕ → ℕ) (default : ℕ) → Ledger day default = λ day default. record {
      named_more = c.one_more_of_a_transaction.ensures.named;
      closed_more = c.one_more_of_a_transaction.ensures.closed;
      held_more = c.one_more_of_a_transaction.ensures.held;
      settled_more = c.one_more_of_a_transaction.ensures.settled day default;
      unheard = c.open_transactions.ensures.unheard;
      unsettled = c.open_transactions.ensures.open;
    } in
    let R : (day : ℕ → ℕ) (default : ℕ) (H : List Entry) → IsLegal day default H → Laws day H = λ day default H legal. record {
      all_held = λ l d ts. c.sums_over_transactions.ensures.all_held day default H l d ts legal;
      all_settled = λ l d ts. c.sums_over_transactions.ensures.all_settled day default H l d ts legal;
      held_is_reserved = λ t moment login. c.used_where_reserved.ensures.held day default H t moment login legal;
      none = λ l d. c.used_where_reserved.ensures.none day default H l d legal;
    } in
    record {
      rows = λ day default H id rows usage these some legal more ts us same.
          let H' : List Entry = H ++ retire_entry id ∷ [] in
          let reserves : (l : List ℕ) (d : ℕ) → has_reserve day H' d l ≡ has_reserve day H d l = λ l d. c.one_more_on_a_day.ensures.has_reserve day H (retire_entry id) l d ∙ or_false (has_reserve day H d l) in
          let left = all_left day H id some rows ts these same in
          all_lead_on these rows usage (AreLeft day H id []) (AreMovesOf day H') (λ after used b.
          let none = none_to_close id after b.left in
          record {
            transactions = all_closed day default (L day default) H id after used b.stand none;
            usage = all_used day default (L day default) H id (R day default H' more) reserves after used b.stand none;
          })
          (led day default (L day default) H id (R day default H legal) these [] rows usage (record {
            stand = begun day H id (R day default H legal) rows usage ts us;
            left = subst (λ xs. IsPermutation xs (filter (is_to_close id) rows)) (sym (append-nil these)) left;
          }));
      fits = λ day default H id rows usage done rest was amount days some legal ts us same.
          let low = (c.amounts_in_range.ensures.used day default H was.login was.day amount days legal).0.to in
          all_lead_on done rows usage (AreLeft day H id (was ∷ rest)) (CanBeClosed was) (λ after used b. next_fits day default (L day default) H id (R day default H legal) was rest after used b low)
          (led day default (L day default) H id (R day default H legal) done (was ∷ rest) rows usage (record {
            stand = begun day H id (R day default H legal) rows usage ts us;
            left = all_left day H id some rows ts (done ++ was ∷ rest) same;
          }));
    }
