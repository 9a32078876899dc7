pub mod Due
pub mod Nights
