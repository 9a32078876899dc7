use Rattle.std.proofs.Common.{◌∙◌, ◌<◌, ◌≤◌, inl, inr, [], Ok, length, take, refl, ap, rules}
use Rattle.mq_lemmas.proofs.Streams.{consumes_kept}
use Rattle.mq_server.specs.declared.input.TheConstants.{PIECE}
use Rattle.mq_server.specs.Held.{State}
use Rattle.mq_connections.proofs.Turning.{few_of, gave_end, gave_none, reads_lost, reads_none, reads_some, shuts_none}
use Rattle.mq_server.specs.declared.connection.Progress.TheVariants.{Answered}
use Rattle.mq_connections.proofs.opened.OpenConnection.read_more.Goals as goal

pub returns-in-Ok-eq0-clause-reads : goal.returns-in-Ok-eq0-clause-reads
returns-in-Ok-eq0-clause-reads g c =
    let a = (g.N.Network.wire c.args.network.now c.args.number).remaining in
    let b = (g.N.Network.wire c.read.new.self c.args.number).remaining in
    let is = c.in-Ok-eq0.is ∙ ap Ok c.in-Ok-eq0.field-0-test in
    let some : 0 < length c.read.new.piece = search rules in
    reads_none a b c.args.self.now.connection c.close.new.self Answered (gave_none a b c.read.result c.read.new.piece is c.read.ensures.bytes) (λ _. inr (gave_end a b c.read.result c.read.new.piece is some c.read.ensures.bytes)) c.close.ensures.lives

pub returns-in-Ok-receive-clause-reads : goal.returns-in-Ok-receive-clause-reads
returns-in-Ok-receive-clause-reads g c = reads_some (g.N.Network.wire c.args.network.now c.args.number).remaining (g.N.Network.wire c.read.new.self c.args.number).remaining c.args.self.now.connection c.receive.new.self c.note_activity.new.self.connection Answered
    _ (take c.in-Ok.count c.read.new.piece) refl c.note_activity.ensures (ap (λ (x : State). x.is_closed) c.in-Ok-receive.ensures.ok) c.in-Ok.ensures.bytes.0 (λ l here. c.in-Ok-receive.ensures.lives l here c.requires)

pub returns-in-Err-receive-clause-reads : goal.returns-in-Err-receive-clause-reads
returns-in-Err-receive-clause-reads g c =
    let small : length c.read.new.piece ≤ PIECE = search rules in
    reads_lost (g.N.Network.wire c.args.network.now c.args.number).remaining (g.N.Network.wire c.read.new.self c.args.number).remaining c.args.self.now.connection c.receive.new.self _ _ (few_of c.in-Ok.count c.read.new.piece small) refl (ap (λ (x : State). x.is_closed) c.in-Err-receive.ensures.err) c.in-Err-receive.ensures.still c.in-Ok.ensures.bytes.0

pub returns-in-Err-clause-reads : goal.returns-in-Err-clause-reads
returns-in-Err-clause-reads g c =
    let a = (g.N.Network.wire c.args.network.now c.args.number).remaining in
    let b = (g.N.Network.wire c.read.new.self c.args.number).remaining in
    reads_none a b c.args.self.now.connection c.args.self.now.connection c.read_stop.result (consumes_kept a b c.in-Err.ensures.bytes) (shuts_none c.args.self.now.connection c.args.self.now.connection a [] refl) (λ l here. here)

pub returns-in-Err-receive-clause-full : goal.returns-in-Err-receive-clause-full
returns-in-Err-receive-clause-full g c = λ _. inr (take c.in-Ok.count c.read.new.piece, c.in-Ok.ensures.bytes.0, c.in-Err-receive.ensures.full)

pub returns-in-Err-clause-full : goal.returns-in-Err-clause-full
returns-in-Err-clause-full g c = λ _. inl c.in-Err.ensures.bytes
