use Rattle.std.proofs.Common.{map}
use Rattle.mq_rows.proofs.Pages.{page_of, next_more}
use Rattle.mq_rows.proofs.laws.pages_go_by_login.Goals as goal

pub returns-clause-more : goal.returns-clause-more
returns-clause-more c = next_more

pub returns-clause-page : goal.returns-clause-page
returns-clause-page c = λ day H d rows after us are next few end. c.page_is_first.ensures.only day H d after (map (λ u. u.login) us) (page_of day H rows are d after us next few end)
