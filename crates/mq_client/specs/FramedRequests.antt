-- The closings that wait, each with its frame.
use Rattle.std.specs.Prelude.{◌≡◌, List, map}
use Rattle.mq_request.specs.declared.message.Request.{Request}
use Rattle.mq_frame.specs.Spelling.{request_frame}
use Rattle.mq_client.specs.declared.tries.FramedRequest.{FramedRequest}

-- the frame is that of the request
abbrev pub IsFramed : FramedRequest → Type 0
IsFramed framed = framed.frame.items ≡ request_frame framed.request

-- the requests alone, in their order
abbrev pub requests_of : List FramedRequest → List Request
requests_of queue = map (λ framed. framed.request) queue
