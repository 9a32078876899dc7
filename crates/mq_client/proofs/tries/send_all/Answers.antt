use Rattle.std.proofs.Common.{◌≡◌, ◌++◌, [], length, false, true, subst, sym, ap, ◌∙◌, arith, rules}
use Rattle.mq_client.proofs.Words.{empty, AllByRecursion, Holding, IsFramed, IsSent, NoneYet, Spans, requests_of}
use Rattle.mq_client.specs.Holding.{freed}
use Rattle.mq_client.specs.Freeing.{heard}
use Rattle.mq_client.specs.TriesOutcome.{given_by}
use Rattle.mq_lemmas.proofs.Telling.{Tells-none}
use Rattle.mq_client.proofs.Telling.{told_both}
use Rattle.mq_client.proofs.Sending.{starts_with, front_is, sends_more, sends_stop, sends_all, some_in_time, late_after}
use Rattle.mq_client.proofs.Freeing.{freed_append, freed_none, failed_free}
use Rattle.mq_client.proofs.tries.send_all.Goals as goal

pub loop-closing-init : goal.loop-closing-init
loop-closing-init g c = record { done = []; told = Tells-none _; sends = NoneYet; framed = c.requires; len = omega arith; freed = ap (λ k. (c.args.holdup.now.0, k)) (sym (freed_none c.args.holdup.now.1)) }

pub returns-then-not-is_decided-clause-step : goal.returns-then-not-is_decided-clause-step
returns-then-not-is_decided-clause-step g c =
    let i = c.loop-closing.invariant in
    let (tries, told, sent, late, heard_as) = c.send-sent.ensures in
    let w = c.in-Some.closing.now in
    let q = w.request in
    let h = c.args.holdup.now in
    let (rest, starts) = starts_with c.loop-closing.outbox.items w c.in-Some.ensures.lookup (search rules) in
    let undecided : IsSent c.args.tries q tries false = subst (IsSent c.args.tries q tries) (sym c.is_decided.ensures ∙ c.if-not-is_decided.true) sent in (
      tries ++ i.done,
      told_both _ _ _ i.done tries i.told told,
      sends_stop c.args.tries (requests_of c.args.outbox.now.items) (requests_of c.loop-closing.outbox.items) (requests_of rest) q i.done tries (ap requests_of starts) i.sends undecided,
      c.has_timed_out.ensures ∙ sym late ∙ sym (late_after q tries i.done undecided.0 (some_in_time _ _ i.done _ i.sends)),
      i.freed ∙ ap (λ (k : Holding). (h.0, k)) (sym (freed_append tries i.done h.1 ∙ failed_free q tries (freed i.done h.1) undecided.0)),
    )

pub returns-clause-step : goal.returns-clause-step
returns-clause-step g c =
    let i = c.loop-closing.invariant in
    let gone : length c.loop-closing.outbox.items ≡ 0 = search rules in (
      i.done,
      i.told,
      sends_all c.args.tries (requests_of c.args.outbox.now.items) (requests_of c.loop-closing.outbox.items) i.done (ap requests_of (empty _ (omega (arith, gone)))) i.sends,
      sym (some_in_time _ _ i.done _ i.sends),
      i.freed,
    )

pub loop-closing-preserved : goal.loop-closing-preserved
loop-closing-preserved g c =
    let i = c.loop-closing.invariant in
    let (tries, told, sent, late, heard_as) = c.send-sent.ensures in
    let (x, popped) = c.drop_front.ensures in
    let w = c.in-Some.closing.now in
    let q = w.request in
    let h = c.args.holdup.now in
    let front = front_is c.loop-closing.outbox.items c.drop_front.new.outbox.items w x c.in-Some.ensures.lookup popped in
    let decided : IsSent c.args.tries q tries true = subst (IsSent c.args.tries q tries) (sym c.is_decided.ensures ∙ c.if-not-is_decided.false) sent in
    record {
      done = tries ++ i.done;
      told = told_both _ _ _ i.done tries i.told told;
      sends = sends_more c.args.tries (requests_of c.args.outbox.now.items) (requests_of c.loop-closing.outbox.items) (requests_of c.drop_front.new.outbox.items) q i.done tries (ap requests_of front) i.sends decided;
      framed = (subst (AllByRecursion IsFramed) popped i.framed).1;
      len = omega (arith, i.len, ap length popped);
      freed = c.hear.ensures ∙ ap (λ (k : Spans × Holding). (k.0, heard q (given_by c.send-sent.result) k.1)) i.freed
          ∙ ap (λ (k : Holding). (h.0, k)) (sym (freed_append tries i.done h.1 ∙ heard_as (freed i.done h.1)));
    }
