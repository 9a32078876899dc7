use Rattle.std.proofs.Common.{◌∙◌, Ok, ap}
use Rattle.mq_lemmas.proofs.Streams.{appends_kept}
use Rattle.mq_connections.proofs.Turning.{writes_none, writes_some, wrote_none}
use Rattle.mq_connections.proofs.opened.OpenConnection.write_replies.Goals as goal

pub returns-in-Ok-eq0-clause-writes : goal.returns-in-Ok-eq0-clause-writes
returns-in-Ok-eq0-clause-writes g c =
    let a = (g.N.Network.wire c.args.network.now c.args.number).contents in
    let b = (g.N.Network.wire c.write.new.self c.args.number).contents in
    writes_none a b c.args.self.now.connection (wrote_none a b c.write.result c.replies.result.now (c.in-Ok-eq0.is ∙ ap Ok c.in-Ok-eq0.field-0-test) c.write.ensures.bytes)

pub returns-in-Ok-clause-writes : goal.returns-in-Ok-clause-writes
returns-in-Ok-clause-writes g c = writes_some (g.N.Network.wire c.args.network.now c.args.number).contents (g.N.Network.wire c.write.new.self c.args.number).contents c.args.self.now.connection c.take_replies.new.self c.note_activity.new.self.connection
    c.replies.result.now c.in-Ok.count c.replies.ensures c.note_activity.ensures c.in-Ok.ensures.bytes c.take_replies.ensures.lives

pub returns-in-Err-clause-writes : goal.returns-in-Err-clause-writes
returns-in-Err-clause-writes g c =
    let a = (g.N.Network.wire c.args.network.now c.args.number).contents in
    let b = (g.N.Network.wire c.write.new.self c.args.number).contents in
    writes_none a b c.args.self.now.connection (appends_kept a b c.in-Err.ensures.bytes)

pub returns-in-Err-2-clause-writes : goal.returns-in-Err-2-clause-writes
returns-in-Err-2-clause-writes g c =
    let a = (g.N.Network.wire c.args.network.now c.args.number).contents in
    let b = (g.N.Network.wire c.write.new.self c.args.number).contents in
    writes_none a b c.args.self.now.connection (appends_kept a b c.in-Err-2.ensures.bytes)
