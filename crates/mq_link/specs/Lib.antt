-- what a link reports of its exchanges
pub mod Link
-- what was read of one frame
pub mod Body
-- what an exchange over TCP writes and reads, and why it fails
pub mod Exchange
-- a connection that a link keeps
pub mod Keeping
-- what a log has of the times without an answer
pub mod Outage
