use Rattle.std.proofs.Common.{Err, List, Option, [], ap, arith, length, length-append, subst, sym, ◌∙◌, ◌≡◌}
use Rattle.mq_server.proofs.Words.{Book, Entry, IsPartial, ReportedCall, State, Wire, clash, err_from_is_err_and, left_alone, left_both, next, ok_not, with_replies}
use Rattle.mq_server.proofs.Heads.{partial_short}
use Rattle.mq_server.proofs.Running.{Finds, SoFar, start}
use Rattle.mq_server.proofs.Exits.{answered_on, ended, exits_as, read_on, refill_failed, refilled, unsent, waits_on}
use Rattle.mq_server.proofs.serving.serve.Goals as goal

-- the replies were taken
taken : {b : Book} {t u : Option (List ReportedCall)} {old new : Wire} (mid : State) {now : State} {history : List Entry} → now ≡ with_replies mid [] → SoFar b t u old new mid.rest mid.answered history → SoFar b t u old new now.rest now.answered history
taken {b} {t} {u} {old} {new} mid {history = history} is s = subst (λ (q : State). SoFar b t u old new q.rest q.answered history) (sym is) s

pub frames-init : goal.frames-init
frames-init g c =
    let fresh = c.new-connection.ensures.fresh in
    let rest : c.new-connection.result.rest ≡ [] = ap (λ (q : State). q.rest) fresh in
    let count : c.new-connection.result.answered ≡ 0 = ap (λ (q : State). q.answered) fresh in
    record {
      going = ap (λ (q : State). q.end) fresh;
      none = ap (λ (q : State). q.replies) fresh;
      under = omega (arith, count);
      ahead = omega (arith, ap length rest);
      closed = λ over. absurd (clash c.new-connection.result.is_closed over (ap (λ (q : State). q.is_closed) fresh));
      source_works = λ w. w;
      sink_works = λ w. w;
      flushed = λ f. f;
      leaves = left_alone;
      so_far = λ k s. start (g.L.Ledger.book c.args.ledger.now) _ _ c.new-connection.result.rest c.new-connection.result.answered rest count (g.met.L.Ledger.sound_is_legal c.args.ledger.now s);
    }

pub returns-in_err-hand_on-clause-serves : goal.returns-in_err-hand_on-clause-serves
returns-in_err-hand_on-clause-serves g c = λ kept sound.
    let i = c.frames.invariant in
    let e = c.answer_next-progress.ensures in
    let before = e.leaves.kept kept in
    let p = err_from_is_err_and c.from_residual.result c.from_residual.ensures.1 in
    let (is, some, sent) = c.in_err-hand_on.ensures.err in
    let b = g.L.Ledger.book c.args.ledger.now in
    let k = g.L.Ledger.book c.frames.ledger in
    let finds : Finds b k = record { zone = i.leaves.same_zone; default = i.leaves.same_default; legal = g.met.L.Ledger.sound_is_legal c.frames.ledger (i.leaves.sound before sound) } in
    exits_as b _ _ _ _ _ _ _ (p.1 ∙ ap Err (p.2 ∙ is))
    (unsent b k _ _ _ _ _ _ c.frames.connection c.answer_next-progress.new.self _ i.none (i.so_far before sound) i.under i.ahead c.answer_next-progress.result finds (e.goes i.going) (e.steps kept (i.leaves.sound before sound) i.going) some sent)

pub returns-in-Ended-clause-serves : goal.returns-in-Ended-clause-serves
returns-in-Ended-clause-serves g c = λ kept sound.
    let i = c.frames.invariant in
    let e = c.in-Ended.ensures in
    let before = e.leaves.kept kept in
    let b = g.L.Ledger.book c.args.ledger.now in
    let k = g.L.Ledger.book c.frames.ledger in
    let finds : Finds b k = record { zone = i.leaves.same_zone; default = i.leaves.same_default; legal = g.met.L.Ledger.sound_is_legal c.frames.ledger (i.leaves.sound before sound) } in
    ended b k _ _ _ _ _ _ c.frames.connection c.answer_next-progress.new.self _ i.none (i.so_far before sound) i.under i.ahead c.in-Ended.end i.closed finds (e.goes i.going) (e.steps kept (i.leaves.sound before sound) i.going) c.in_ok-hand_on.ensures.ok.0

pub frames-preserved-in-Answered : goal.frames-preserved-in-Answered
frames-preserved-in-Answered g c =
    let i = c.frames.invariant in
    let e = c.in-Answered.ensures in
    let (end, count, few, closed, less) = e.goes i.going in
    let (sent, is) = c.in_ok-hand_on.ensures.ok in
    record {
      going = ap (λ (q : State). q.end) is ∙ end;
      none = ap (λ (q : State). q.replies) is;
      under = omega (arith, few, ap (λ (q : State). q.answered) is);
      ahead = omega (arith, less, i.ahead, ap (λ (q : State). length q.rest) is);
      closed = λ over. i.closed (sym closed ∙ sym (ap (λ (q : State). q.is_closed) is) ∙ over);
      source_works = i.source_works;
      sink_works = λ w. c.in_ok-hand_on.ensures.works (i.sink_works w) (ok_not _ _);
      flushed = λ f. c.in_ok-hand_on.ensures.flushed (i.flushed f) (ok_not _ _);
      leaves = left_both i.leaves e.leaves;
      so_far = λ k s.
          let before = e.leaves.kept k in
          let b = g.L.Ledger.book c.args.ledger.now in
          let m = g.L.Ledger.book c.frames.ledger in
          let finds : Finds b m = record { zone = i.leaves.same_zone; default = i.leaves.same_default; legal = g.met.L.Ledger.sound_is_legal c.frames.ledger (i.leaves.sound before s) } in
          taken c.answer_next-progress.new.self is
          (answered_on b m _ _ _ _ _ _ c.frames.connection c.answer_next-progress.new.self _ i.none (i.so_far before s) finds (omega (arith, count)) (e.steps k (i.leaves.sound before s) i.going) sent);
    }

-- while it waits, the connection is as it was, and what it said was handed on
pub frames-preserved : goal.frames-preserved
frames-preserved g c =
    let i = c.frames.invariant in
    let e = c.in-Waits.ensures in
    let (still, open_, partial) = e.goes i.going in
    let (sent, is) = c.in_ok-hand_on.ensures.ok in
    let (piece, small, consumed, told) = c.in_ok-refill-in-Waits.ensures.reads in
    let r = refilled c.hand_on.new.connection c.refill.new.connection piece (g.S.Source.remaining c.refill.new.input) told in
    let held : c.hand_on.new.connection ≡ with_replies c.frames.connection [] = is ∙ ap (λ (q : State). with_replies q []) still in
    record {
      going = r.end ∙ ap (λ (q : State). q.end) held ∙ i.going;
      none = r.replies ∙ ap (λ (q : State). q.replies) held;
      under = omega (arith, i.under, r.answered, ap (λ (q : State). q.answered) held);
      ahead = omega (arith, small, ap length r.rest, ap (λ (q : State). length q.rest) held, length-append c.hand_on.new.connection.rest piece, partial_short 512 c.frames.connection.rest partial);
      closed = r.closed (ap (λ (q : State). q.is_closed) held ∙ open_);
      source_works = λ w. c.in_ok-refill-in-Waits.ensures.works (ok_not _ _);
      sink_works = λ w. c.in_ok-hand_on.ensures.works (i.sink_works w) (ok_not _ _);
      flushed = λ f. c.in_ok-hand_on.ensures.flushed (i.flushed f) (ok_not _ _);
      leaves = left_both i.leaves e.leaves;
      so_far = λ k s.
          let before = e.leaves.kept k in
          read_on (g.L.Ledger.book c.args.ledger.now) _ _ _ _ _ c.hand_on.new.connection c.refill.new.connection piece _
          (taken c.frames.connection held
          (waits_on (g.L.Ledger.book c.args.ledger.now) (g.L.Ledger.book c.frames.ledger) _ _ _ _ _ _ c.frames.connection c.answer_next-progress.new.self _ i.none (i.so_far before s) still (e.steps k (i.leaves.sound before s) i.going) sent)) consumed r;
    }

pub returns-in_err-refill-in-Waits-clause-serves : goal.returns-in_err-refill-in-Waits-clause-serves
returns-in_err-refill-in-Waits-clause-serves g c = λ kept sound.
    let i = c.frames.invariant in
    let e = c.in-Waits.ensures in
    let (still, open_, partial) = e.goes i.going in
    let (sent, is) = c.in_ok-hand_on.ensures.ok in
    let before = e.leaves.kept kept in
    let p = err_from_is_err_and c.from_residual-in_err-refill-in-Waits.result c.from_residual-in_err-refill-in-Waits.ensures.1 in
    let (piece, small, consumed, told) = c.in_err-refill-in-Waits.ensures.reads in
    let held : c.hand_on.new.connection ≡ with_replies c.frames.connection [] = is ∙ ap (λ (q : State). with_replies q []) still in
    let b = g.L.Ledger.book c.args.ledger.now in
    exits_as b _ _ _ _ _ _ _ (p.1 ∙ ap Err p.2)
    (refill_failed b _ _ _ _ _ c.hand_on.new.connection c.refill.new.connection piece _ _ (omega (arith, i.under, ap (λ (q : State). q.answered) held)) (subst (λ (q : State). IsPartial (next q.rest)) (sym held) partial) small
    (taken c.frames.connection held
    (waits_on b (g.L.Ledger.book c.frames.ledger) _ _ _ _ _ _ c.frames.connection c.answer_next-progress.new.self _ i.none (i.so_far before sound) still (e.steps kept (i.leaves.sound before sound) i.going) sent)) consumed told)
