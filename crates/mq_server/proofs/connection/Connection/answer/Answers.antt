use Rattle.std.proofs.Common.{None, ap, arith, refl, sym, ◌+◌, ◌∙◌}
use Rattle.mq_server.proofs.Words.{Answered, State, left_alone, left_both}
use Rattle.mq_server.proofs.Advance.{AllAnswered, Told_so, advance_both, advance_still, all_told, closed_goes, each_said, ended_calls, goes_as, last_told, none_answered, none_of, one_more, step_lives, waits_goes}
use Rattle.mq_server.proofs.connection.Connection.answer.Goals as goal

pub returns-in-Some-clause-lives : goal.returns-in-Some-clause-lives
returns-in-Some-clause-lives g c = λ k s.
    let b = g.L.Ledger.book c.args.ledger.now in
    let told = g.L.Ledger.told c.args.ledger.now in
    let is = sym (ap (λ (q : State). q.end) c.self.view_is) ∙ c.in-Some.is in
    each_said b c.args.self.now c.args.self.now _ told told c.args.most c.args.self.now.end b.history
    (advance_still b c.args.self.now c.args.self.now (Told_so c.args.self.now.end told told _ c.args.most) b.history (ended_calls told c.args.self.now.end _ c.args.most is) (g.met.L.Ledger.sound_is_legal c.args.ledger.now s) refl refl)

pub loop-frame-init : goal.loop-frame-init
loop-frame-init g c =
    let going = none_of c.args.self.now.end (λ r is. c.in_default.not-Some r (ap (λ (q : State). q.end) c.self.view_is ∙ is)) in
    let told = g.L.Ledger.told c.args.ledger.now in
    record {
      began = going;
      going = going;
      leaves = left_alone;
      closed = refl;
      so_far = λ k s. advance_still (g.L.Ledger.book c.args.ledger.now) c.args.self.now c.args.self.now (AllAnswered told told 0) _ (none_answered told) (g.met.L.Ledger.sound_is_legal c.args.ledger.now s) refl refl;
    }

pub returns-in_default-answer_next : goal.returns-in_default-answer_next
returns-in_default-answer_next g c =
    let i = c.loop-frame.invariant in
    let e = c.answer_next.ensures in
    let now = c.answer_next.new.self in
    let goes = e.goes i.going in
    record {
      over = λ r is. absurd (cc (i.began, is));
      ended = λ r is. (goes_as c.loop-frame.self now is goes).0;
      answered = λ is. absurd (c.in_default-answer_next.not-Answered is);
      waits = λ is. waits_goes c.loop-frame.self now i.going is goes;
      leaves = left_both i.leaves e.leaves;
      closes_nothing = closed_goes c.loop-frame.self now c.answer_next.result goes ∙ i.closed;
      store = λ none is. i.leaves.no_store (e.store i.going is);
      lives = λ k s.
          let before = e.leaves.kept k in
          let legal = g.met.L.Ledger.sound_is_legal c.loop-frame.ledger (i.leaves.sound before s) in
          let b = g.L.Ledger.book c.args.ledger.now in
          let m = g.L.Ledger.book c.loop-frame.ledger in
          let t = g.L.Ledger.told c.args.ledger.now in
          let u = g.L.Ledger.told c.loop-frame.ledger in
          let v = g.L.Ledger.told c.answer_next.new.ledger in
          let n = c.loop-frame._frame in
          let p = c.answer_next.result in
          let was = c.args.self.now.end in
          each_said b c.args.self.now now p t v c.args.most was _
          (advance_both b m c.args.self.now c.loop-frame.self now (AllAnswered t u n) (Told_so None u v p 1) (Told_so was t v p c.args.most) _
          legal i.leaves.same_zone i.leaves.same_default (λ xs ys f failed. last_told t u v was p n c.args.most xs ys f failed c.loop-frame-test.true c.in_default-answer_next.not-Answered) (i.so_far before s)
          (step_lives m u v c.loop-frame.self now p _ legal i.going goes (e.steps k (i.leaves.sound before s) i.going)));
    }

pub loop-frame-preserved : goal.loop-frame-preserved
loop-frame-preserved g c =
    let i = c.loop-frame.invariant in
    let e = c.answer_next.ensures in
    let now = c.answer_next.new.self in
    let goes = e.goes i.going in
    record {
      began = i.began;
      going = (goes_as c.loop-frame.self now c.in-Answered.is goes).0;
      leaves = left_both i.leaves e.leaves;
      closed = closed_goes c.loop-frame.self now c.answer_next.result goes ∙ i.closed;
      so_far = λ k s.
          let before = e.leaves.kept k in
          let legal = g.met.L.Ledger.sound_is_legal c.loop-frame.ledger (i.leaves.sound before s) in
          let m = g.L.Ledger.book c.loop-frame.ledger in
          let t = g.L.Ledger.told c.args.ledger.now in
          let u = g.L.Ledger.told c.loop-frame.ledger in
          let v = g.L.Ledger.told c.answer_next.new.ledger in
          let n = c.loop-frame._frame in
          let p = c.answer_next.result in
          advance_both (g.L.Ledger.book c.args.ledger.now) m c.args.self.now c.loop-frame.self now (AllAnswered t u n) (Told_so None u v p 1) (AllAnswered t v (n + 1)) _
          legal i.leaves.same_zone i.leaves.same_default (λ xs ys f failed. one_more t u v n p xs ys f failed c.in-Answered.is) (i.so_far before s)
          (step_lives m u v c.loop-frame.self now p _ legal i.going goes (e.steps k (i.leaves.sound before s) i.going));
    }

pub returns-clause-lives : goal.returns-clause-lives
returns-clause-lives g c = λ k s.
    let i = c.loop-frame.invariant in
    let t = g.L.Ledger.told c.args.ledger.now in
    let u = g.L.Ledger.told c.loop-frame.ledger in
    let (xs, failed, all, right, lives) = i.so_far k s in
    each_said (g.L.Ledger.book c.args.ledger.now) c.args.self.now c.loop-frame.self Answered t u c.args.most c.args.self.now.end _
    (xs, failed, all_told t u c.loop-frame._frame c.args.most xs failed c.args.self.now.end (omega arith) all, right, lives)
