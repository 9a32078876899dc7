use Rattle.std.proofs.Common.{◌≡◌, ℕ, List, Option, Some, None, arith}
use Rattle.std.specs.Prelude.{IfSome}
use Rattle.mq_frame.specs.Reading.{Reads, reply_at}
use Rattle.mq_frame.specs.Parts.{shown_reply}
use Rattle.mq_frame.specs.Spelling.{SpellsReply}
use Rattle.mq_request.specs.declared.message.Reply.{Reply}
use Rattle.mq_frame.specs.declared.reply_parts.ReplyParts.{ReplyParts}
use Rattle.mq_frame.proofs.Bodies.{reply_at_spelled, reply_at_read}
use Rattle.mq_frame.proofs.borrowed.read_reply.Goals as goal

found : (body : List ℕ) (o : Option ReplyParts) → ((r : Reply) → reply_at body ≡ Some r → SpellsReply body r) → Reads shown_reply o (reply_at body) → IfSome o (λ parts. SpellsReply body (shown_reply parts))
found body None spelled reads = tt
found body (Some parts) spelled reads = spelled (shown_reply parts) reads

one : (body : List ℕ) (o : Option ReplyParts) → Reads shown_reply o (reply_at body) → IfSome o (λ parts. (r : Reply) → SpellsReply body r → shown_reply parts ≡ r)
one body None reads = tt
one body (Some parts) reads = λ r spells. let read : reply_at body ≡ Some r = reply_at_read body r spells in cc

missing : (body : List ℕ) (o : Option ReplyParts) → Reads shown_reply o (reply_at body) → o ≡ None → (r : Reply) → SpellsReply body r → ⊥
missing body None reads e = λ r spells. let read : reply_at body ≡ Some r = reply_at_read body r spells in cc
missing body (Some parts) reads e = λ r spells. cc

pub returns-clause-found : goal.returns-clause-found
returns-clause-found c = found c.args.body.now _ (λ r e. reply_at_spelled c.args.body.now r (λ i. omega (arith, c.type_inv.body i)) e) c.reply_parts.ensures

pub returns-clause-only : goal.returns-clause-only
returns-clause-only c = one c.args.body.now _ c.reply_parts.ensures

pub returns-clause-none : goal.returns-clause-none
returns-clause-none c = missing c.args.body.now _ c.reply_parts.ensures
