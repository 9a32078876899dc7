use Rattle.std.proofs.Common.{arith}
use Rattle.mq_frame.proofs.Lengths.{longest_reply}
use Rattle.mq_frame.proofs.encode.encode_reply.Goals as goal

pub overflow_add-reply_bytes : goal.overflow_add-reply_bytes
overflow_add-reply_bytes c =
    let small = longest_reply c.args.reply.now c.requires in
    omega (arith, small, c.reply_length-reply_bytes.ensures)

pub put_head-requires : goal.put_head-requires
put_head-requires c =
    let small = longest_reply c.args.reply.now c.requires in
    omega (arith, small, c.reply_length-reply_bytes.ensures)
