use Rattle.mq_ledger.proofs.PageFacts.{page_is, is_page}
use Rattle.mq_ledger.proofs.laws.page_is_first.Goals as goal

pub returns-clause-first : goal.returns-clause-first
returns-clause-first c = page_is

pub returns-clause-only : goal.returns-clause-only
returns-clause-only c = is_page
