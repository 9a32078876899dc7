pub mod Days
pub mod Earliest
pub mod Following
pub mod Ends
