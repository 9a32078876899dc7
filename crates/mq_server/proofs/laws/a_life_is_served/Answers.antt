use Rattle.mq_server.proofs.Living.{life_ended, life_going, life_alone}
use Rattle.mq_server.proofs.laws.a_life_is_served.Goals as goal

pub returns-clause-ended : goal.returns-clause-ended
returns-clause-ended c = life_ended

pub returns-clause-going : goal.returns-clause-going
returns-clause-going c = life_going

pub returns-clause-alone : goal.returns-clause-alone
returns-clause-alone c = life_alone
