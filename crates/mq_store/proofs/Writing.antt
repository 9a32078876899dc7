-- What is written leads to the rows of the history with one more entry.
use Rattle.std.proofs.Common.{List, [], ap, arith, length, map, ℕ, ◌++◌, ◌+◌, ◌∷◌, ◌≡◌}
use Rattle.mq_store.proofs.Words.{AnswerRecord, Appends, AreLimits, AreRetired, AreTransactions, AreUsage, Book, CountsArrivals, Entry, HasLedger, Plan, RetiredRecord, State, Tables, TransactionRecord, UsageRecord, WritesFloor, WritesLimit, WritesTransaction, WritesUsage, answer_row, cleared, day_of, enumerate_from, same_day, same_from, same_host, same_key, set_limit, set_run, set_transaction, set_usage}
use Rattle.mq_rows.specs.declared.record.LimitRecord.{LimitRecord}
use Rattle.mq_store.specs.GivingUp.{GivesUp, with_rows}
use Rattle.mq_store.specs.Taking.{MovesRows, WritesPlan}
use Rattle.mq_store.proofs.Closings.{both}

pub moves : (p : Plan) (s0 s1 s2 s3 s4 : State) → WritesTransaction p.transaction s0 s1 → WritesUsage p.usage s1 s2 → WritesLimit p.limit s2 s3 → WritesFloor p.retired s3 s4 → MovesRows p s0.now s4.now
moves p s0 s1 s2 s3 s4 one two three four = λ (b : Book) (t : Tables) l lead.
    let ts = both same_key set_transaction p.transaction t.transactions (AreTransactions (day_of b.zone) b.history)
    (λ (after : List TransactionRecord). HasLedger s1.now (record t { transactions = after })) lead.moves.transactions (one t l) in
    let t1 : Tables = record t { transactions = ts.0 } in
    let us = both same_day set_usage p.usage t1.usage (AreUsage (day_of b.zone) b.history)
    (λ (after : List UsageRecord). HasLedger s2.now (record t1 { usage = after })) lead.moves.usage (two t1 ts.2) in
    let t2 : Tables = record t1 { usage = us.0 } in
    let cs = both same_from set_limit p.limit t2.limits (AreLimits b.history)
    (λ (after : List LimitRecord). HasLedger s3.now (record t2 { limits = after })) lead.limits (three t2 us.2) in
    let t3 : Tables = record t2 { limits = cs.0 } in
    let fs = both same_host set_run p.retired t3.retired (AreRetired b.history)
    (λ (after : List RetiredRecord). HasLedger s4.now (record t3 { retired = after })) lead.retired (four t3 cs.2 lead.current) in
    record {
      tables = record t3 { retired = fs.0 };
      holds = fs.2;
      rows = record { setting = lead.setting; answers = lead.answers; transactions = ts.1; usage = us.1; limits = cs.1; retired = fs.1 };
      current = lead.current;
    }

-- the last of the rows of a history has the next place
next_place : (K : List Entry) (n : ℕ) (H : List Entry) (xs : List AnswerRecord) (a : AnswerRecord) → xs ++ a ∷ [] ≡ map (λ p. answer_row K p.0 p.1) (enumerate_from n H) → a.n ≡ n + length xs
next_place K n [] [] a h = absurd (cc h)
next_place K n [] (y ∷ ys) a h = absurd (cc h)
next_place K n (x ∷ H) [] a h = let e : a ≡ answer_row K n x = cc h in omega (arith, ap (λ (row : AnswerRecord). row.n) e)
next_place K n (x ∷ H) (y ∷ ys) a h =
    let e : ys ++ a ∷ [] ≡ map (λ p. answer_row K p.0 p.1) (enumerate_from (n + 1) H) = cc h in
    omega (arith, next_place K (n + 1) H ys a e)

pub writes : (p : Plan) (s0 s1 s2 s3 s4 : State) → GivesUp p.given_up s0.now s1.now → Appends p.answer s1 s2 → CountsArrivals p.arrivals s2 s3 → MovesRows p s3.now s4.now → WritesPlan p s0.now s4.now
writes p s0 s1 s2 s3 s4 zero one two three = λ (b : Book) (t : Tables) l current lead.
    let up = zero t l b p lead.moves in
    let place : p.answer.n ≡ 1 + length (cleared p.given_up t.answers) = next_place b.history 1 b.history (cleared p.given_up t.answers) p.answer lead.answers in
    let t1 : Tables = with_rows (record t { answers = cleared p.given_up t.answers }) up.rows up.used in
    let t2 : Tables = record t1 { answers = t1.answers ++ p.answer ∷ [] } in
    let t3 : Tables = record t2 { setting = record t2.setting { arrivals = p.arrivals } } in
    three b t3 (two t2 (one t1 up.holds place)) (record {
      current = current;
      setting = lead.setting;
      answers = lead.answers;
      moves = up.so;
      limits = lead.limits;
      retired = lead.retired;
    })
