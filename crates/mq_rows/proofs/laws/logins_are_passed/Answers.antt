use Rattle.mq_rows.proofs.Pages.{found_there, passed_over, none_above}
use Rattle.mq_rows.proofs.laws.logins_are_passed.Goals as goal

pub returns-clause-found : goal.returns-clause-found
returns-clause-found c = λ d rows after login u. found_there d after login rows u

pub returns-clause-passed : goal.returns-clause-passed
returns-clause-passed c = λ d rows after login next. passed_over d after login rows next

pub returns-clause-ended : goal.returns-clause-ended
returns-clause-ended c = none_above
