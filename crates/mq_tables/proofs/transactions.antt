pub mod Ends
pub mod Open
