pub mod World
pub mod Law
pub mod Running
pub mod Forgetting
pub mod Together
pub mod RunningTogether
pub mod Happening
pub mod Permitted
