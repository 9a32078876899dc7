pub mod Maps
mod Places
pub mod Standing
pub mod Turning
pub mod Choring
pub mod Giving
pub mod Gaining
