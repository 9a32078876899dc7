use Rattle.mq_frame.proofs.Cuts.{whole_stays, empty_stays, long_stays, more_begins, one_more, has_none, same_frames, gives_whole}
use Rattle.mq_frame.proofs.laws.frames_stay.Goals as goal

pub returns-clause-whole : goal.returns-clause-whole
returns-clause-whole c = whole_stays

pub returns-clause-empty : goal.returns-clause-empty
returns-clause-empty c = empty_stays

pub returns-clause-long : goal.returns-clause-long
returns-clause-long c = long_stays

pub returns-clause-more : goal.returns-clause-more
returns-clause-more c = more_begins

pub returns-clause-one_more : goal.returns-clause-one_more
returns-clause-one_more c = one_more

pub returns-clause-none : goal.returns-clause-none
returns-clause-none c = has_none

pub returns-clause-one_list : goal.returns-clause-one_list
returns-clause-one_list c = same_frames

pub returns-clause-gives : goal.returns-clause-gives
returns-clause-gives c = gives_whole
