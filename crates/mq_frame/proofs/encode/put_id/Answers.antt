use Rattle.mq_frame.specs.Spelling.{with_length, in_4_bytes, in_8_bytes}
use Rattle.mq_frame.proofs.Appends.{three_appended}
use Rattle.mq_frame.proofs.encode.put_id.Goals as goal

pub returns-clause-ok : goal.returns-clause-ok
returns-clause-ok c =
    three_appended c.args.out.now.items _ (with_length c.args.id.now.host) (in_8_bytes c.args.id.now.run) (in_4_bytes c.args.id.now.number)
    c.in_ok-put_host.ensures.ok c.in_ok-put_u64.ensures.ok c.in_ok-put_u32.ensures.ok
