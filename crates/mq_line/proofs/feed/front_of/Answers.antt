use Rattle.mq_line.proofs.SearchLaws.{line_found, endless, open_front}
use Rattle.mq_line.proofs.feed.front_of.Goals as goal

pub returns-in-Some : goal.returns-in-Some
returns-in-Some c = line_found c.args.rest.now c.args.searched _ c.in-Some.place c.requires c.min-end.ensures c.in-Some.ensures

pub returns-in-None : goal.returns-in-None
returns-in-None c = endless c.args.rest.now c.args.searched _ c.requires c.min-end.ensures c.in-None.ensures c.if-end-gt-MAX_LINE.true

pub returns-in-None-2 : goal.returns-in-None-2
returns-in-None-2 c = open_front c.args.rest.now c.args.searched _ c.requires c.min-end.ensures c.in-None.ensures c.if-end-gt-MAX_LINE.false
