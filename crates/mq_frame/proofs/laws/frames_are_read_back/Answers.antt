use Rattle.mq_frame.proofs.LawsLemmas.{request_frame, reply_frame}
use Rattle.mq_frame.proofs.Cuts.{bytes_from_all, frame_front, front_frame, whole_size, long_head, begins_from, begins_spelled}
use Rattle.mq_frame.proofs.laws.frames_are_read_back.Goals as goal

pub returns-clause-whole : goal.returns-clause-whole
returns-clause-whole c = frame_front

pub returns-clause-request : goal.returns-clause-request
returns-clause-request c = request_frame

pub returns-clause-reply : goal.returns-clause-reply
returns-clause-reply c = reply_frame

pub returns-clause-only_frames : goal.returns-clause-only_frames
returns-clause-only_frames c = λ limit bytes body after fits. front_frame limit bytes body after (bytes_from_all bytes fits)

pub returns-clause-lengths : goal.returns-clause-lengths
returns-clause-lengths c = whole_size

pub returns-clause-long : goal.returns-clause-long
returns-clause-long c = long_head

pub returns-clause-list : goal.returns-clause-list
returns-clause-list c = begins_from

pub returns-clause-only_lists : goal.returns-clause-only_lists
returns-clause-only_lists c = λ limit bytes bodies rest fits. begins_spelled limit bytes bodies rest (bytes_from_all bytes fits)
