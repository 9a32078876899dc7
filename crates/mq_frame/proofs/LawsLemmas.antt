-- What the laws of the link's format join.
use Rattle.std.proofs.Common.{◌≡◌, ℕ, List, ◌++◌, length, drop, Some, refl, sym, ap, ◌∙◌, arith}
use Rattle.mq_request.specs.Range.{IsWithin, IsRequest, IsReply}
use Rattle.mq_frame.specs.Spelling.{SpellsRequest, SpellsReply, request_body, reply_body, frame}
use Rattle.mq_frame.specs.Feed.{Whole, front}
use Rattle.mq_request.specs.declared.message.Request.{Request}
use Rattle.mq_request.specs.declared.message.Reply.{Reply}
use Rattle.mq_frame.proofs.Bodies.{request_at_read, reply_at_read}
use Rattle.mq_frame.proofs.Lengths.{longest_request, some_request, longest_reply, some_reply}
use Rattle.mq_frame.proofs.Cuts.{frame_front}

pub one_request : (body : List ℕ) (request other : Request) → SpellsRequest body request → SpellsRequest body other → request ≡ other
one_request body request other h g =
    let p : Some request ≡ Some other = sym (request_at_read body request h) ∙ request_at_read body other g in
    cc

pub one_reply : (body : List ℕ) (reply other : Reply) → SpellsReply body reply → SpellsReply body other → reply ≡ other
one_reply body reply other h g =
    let p : Some reply ≡ Some other = sym (reply_at_read body reply h) ∙ reply_at_read body other g in
    cc

pub request_length : (body : List ℕ) (request : Request) → SpellsRequest body request → IsWithin 1 350 (length body)
request_length body request h = rw (h.bytes) (record { from = some_request request; to = longest_request request h.in_range })

pub reply_length : (body : List ℕ) (reply : Reply) → SpellsReply body reply → IsWithin 1 26806 (length body)
reply_length body reply h = rw (h.bytes) (record { from = some_reply reply; to = longest_reply reply h.in_range })

pub request_frame : (body after : List ℕ) (request : Request) → SpellsRequest body request → front 512 (frame body ++ after) ≡ Whole body after
request_frame body after request h =
    let size = request_length body request h in
    frame_front 512 body after (omega arith) (record { from = size.from; to = omega (arith, size.to) })

pub reply_frame : (body after : List ℕ) (reply : Reply) → SpellsReply body reply → front 65535 (frame body ++ after) ≡ Whole body after
reply_frame body after reply h =
    let size = reply_length body reply h in
    frame_front 65535 body after (omega arith) (record { from = size.from; to = omega (arith, size.to) })

-- ---- what a frame reports

pub frame_body : (body : List ℕ) → drop 2 (frame body) ≡ body
frame_body body = refl

pub one_request_frame : (request other : Request) → IsRequest request → IsRequest other → frame (request_body request) ≡ frame (request_body other) → request ≡ other
one_request_frame request other h g e =
    let same : request_body request ≡ request_body other = ap (λ (l : List ℕ). drop 2 l) e in
    one_request (request_body request) request other (record { bytes = refl; in_range = h }) (record { bytes = same; in_range = g })

pub one_reply_frame : (reply other : Reply) → IsReply reply → IsReply other → frame (reply_body reply) ≡ frame (reply_body other) → reply ≡ other
one_reply_frame reply other h g e =
    let same : reply_body reply ≡ reply_body other = ap (λ (l : List ℕ). drop 2 l) e in
    one_reply (reply_body reply) reply other (record { bytes = refl; in_range = h }) (record { bytes = same; in_range = g })
