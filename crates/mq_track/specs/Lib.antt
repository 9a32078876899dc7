pub mod Events
pub mod Told
pub mod Sessions
pub mod State
pub mod Steps
pub mod Inside
pub mod Laws
