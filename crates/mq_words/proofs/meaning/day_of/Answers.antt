use Rattle.mq_words.proofs.meaning.day_of.Goals as goal

pub returns-in-None-clause-in_range : goal.returns-in-None-clause-in_range
returns-in-None-clause-in_range c = c.day_ago.ensures.in_range c.args.range.most
