use Rattle.mq_forget.proofs.Words.{arith, remembered}
use Rattle.mq_forget.proofs.Staying.{same_cap}
use Rattle.mq_forget.proofs.Answers.{page_by_reserves}
use Rattle.mq_forget.proofs.laws.days_are_kept.Goals as goal

pub returns-clause-reserved : goal.returns-clause-reserved
returns-clause-reserved c = λ day default D H l d legal le. (c.remembered_keeps.ensures day default D H legal).reserved l d le

pub returns-clause-settled : goal.returns-clause-settled
returns-clause-settled c = λ day default D H l d legal le. (c.remembered_keeps.ensures day default D H legal).settled l d le

pub returns-clause-used : goal.returns-clause-used
returns-clause-used c = λ day default D H l d legal le. (let k = c.remembered_keeps.ensures day default D H legal in omega (arith, k.reserved l d le, k.settled l d le))

pub returns-clause-has_reserve : goal.returns-clause-has_reserve
returns-clause-has_reserve c = λ day default D H l d legal le. (c.remembered_keeps.ensures day default D H legal).reserves l d le

pub returns-clause-page : goal.returns-clause-page
returns-clause-page c = λ day default D H d after legal le.
    page_by_reserves day (remembered day D H) H d after (λ l. (c.remembered_keeps.ensures day default D H legal).reserves l d le)
    (c.page_is_first.ensures.first day (remembered day D H) d after) (c.page_is_first.ensures.only day H d after)

pub returns-clause-cap : goal.returns-clause-cap
returns-clause-cap c = same_cap

pub returns-clause-earlier : goal.returns-clause-earlier
returns-clause-earlier c = λ day default D H l d legal early.
    (let k = c.remembered_keeps.ensures day default D H legal in (k.unused l d early, k.reserves_none l d early))
