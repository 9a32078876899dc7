mod Records
pub mod Lookback
pub mod Moves
pub mod Numbers
pub mod Vanishing
mod Closings
