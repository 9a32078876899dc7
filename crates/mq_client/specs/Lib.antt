-- ---- what the public calls and the laws say, each file on those before it

-- the exchanges of one request, and of a queue: which reply decides
pub mod Exchanges
-- a client's past: its steps, what stands after them, and which step may come next
pub mod Past
-- the next exchange of a step that is under way
pub mod Turns
-- what a past leaves, read off the whole list of its steps
pub mod Reading
-- which request a number was used for
pub mod Numbers
-- what the filter holds back
pub mod Holding
-- what each line has the client do, and what is written for it
pub mod Filter
-- why it answers by the limit with no question
pub mod Reasons
-- a whole run of the filter: what it read, wrote and did, and how it ended
pub mod Run
-- which faults come of what a run reads
pub mod InputFaults
-- ---- what the crate's own functions say

-- the live transactions that a client holds
pub mod HeldTransactions
-- the closings that wait, with their frames
pub mod FramedRequests
-- a client's fields, and what its callers see of them
pub mod Inside
-- why a recipient is refused with no exchange
pub mod Causes
-- when the log says that the run is retired
pub mod RetiredRuns
-- the logins whose limit is in the log
pub mod LoggedLimits
-- the warnings that recipients of a session are refused
pub mod GivenWarnings
-- what a client keeps of a reply that decides
pub mod Verdict
-- what comes of a request's tries
pub mod TriesOutcome
-- what the filter hears of requests and closings
pub mod Freeing
-- the loop over lines: how far it has come, and what each of its parts adds
pub mod Loop
