use Rattle.std.proofs.Common.{rules}
use Rattle.mq_settings.proofs.FileSteps.{whole_of}
use Rattle.mq_settings.proofs.file.read_limited.Goals as goal

pub returns-in-Ok-clause-whole : goal.returns-in-Ok-clause-whole
returns-in-Ok-clause-whole g c =
    whole_of g.S.Read.remaining c.args.source c.take.result.inner c.take.result.limit c.new-bytes.result.items c.read_to_end.new.buf.items
    c.take.ensures.inner c.take.ensures.limit c.new-bytes.ensures.items c.in-Ok.ensures.bytes (search rules)
