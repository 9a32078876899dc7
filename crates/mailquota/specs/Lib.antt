pub mod Refusals
pub mod Done
