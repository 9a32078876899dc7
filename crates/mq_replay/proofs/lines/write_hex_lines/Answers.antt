use Rattle.std.proofs.Common.{◌≡◌, ◌∙◌, ap, map}
use Rattle.std.proofs.lemmas.Iterator.Adapters.{YieldsList-from_vec}
use Rattle.std.proofs.lemmas.Iterator.Consumers.{YieldsList-so_far, YieldsList-turn}
use Rattle.mq_replay.proofs.Fronts.{front_of_line, around_place}
use Rattle.mq_replay.proofs.lines.write_hex_lines.Goals as goal

pub returns-in_err-write_hex_line-clause-front : goal.returns-in_err-write_hex_line-clause-front
returns-in_err-write_hex_line-clause-front g c =
    let all = c.args.written.items in
    let road = YieldsList-from_vec {s = c.into_iter-sink-iterator.result} all (cc) (cc) in
    let so_far = YieldsList-so_far road c.loop-sink.yielded c.loop-sink.sink-iterator c.loop-sink.yielded_by in
    let turn = YieldsList-turn road c.loop-sink.yielded c.loop-sink.sink-iterator c.loop-sink.yielded_by _ c.next.new.self c.in-Some.sink c.in-Some.is c.next.ensures.steps in
    let shown : c.as_slice.result.now ≡ c.in-Some.sink.inner.items = c.as_slice.ensures.value ∙ ap (λ v. v.items) c.into_inner.ensures in
    front_of_line _ _ _ _ (map (λ s. s.inner.items) c.loop-sink.yielded) c.in-Some.sink.inner.items _ (around_place (λ s. s.inner.items) all c.loop-sink.yielded c.in-Some.sink so_far turn.0 turn.1)
    c.loop-sink.invariant (rw shown at c.in_err-write_hex_line.ensures.front)
