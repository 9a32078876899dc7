pub mod Ends
pub mod Comes
pub mod Looking
