pub mod Allowing
pub mod Looks
pub mod Names
pub mod Nights
pub mod Questions
pub mod Running
