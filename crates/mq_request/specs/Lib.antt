pub mod Escaped
pub mod Range
pub mod Row
pub mod Same
