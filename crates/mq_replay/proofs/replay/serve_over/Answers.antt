use Rattle.std.proofs.Common.{◌≡◌, ap, ◌∙◌, length, arith}
use Rattle.mq_replay.proofs.ReplaySteps.{of_serving, written_back}
use Rattle.mq_replay.proofs.replay.serve_over.Goals as goal

pub returns-clause-answered : goal.returns-clause-answered
returns-clause-answered g c = λ has_kept sound zone default book.
    let (seen, served, after, told) = c.in_ok-ends.ensures.served has_kept sound in
    let same : length c.serve_all.new.outputs ≡ length c.in_ok-written.written.items = c.serve_all.auto.outputs ∙ ap length c.as_mut_slice-2.ensures.value in
    let kept : c.in_ok-written.written.len ≡ length c.serve_all.new.outputs = omega (arith, same, c.in_ok-written.written.ok.0) in
    let new = written_back c.in_ok-written.written.len c.serve_all.new.outputs c.in_ok-written.written.items kept in
    rw new (of_serving (λ s. s.inner.now) (λ s. s.inner.items) (λ d. d.items) zone default c.args.connections.now
    c.in_ok-inputs.inputs.items c.in_ok-written.written.items c.serve_all.new.outputs _ c.in_ok-ends.ends.items seen
    c.in_ok-inputs.ensures c.in_ok-written.ensures same (rw (c.as_mut_slice.ensures.value, c.as_mut_slice-2.ensures.value, book) at served))
