pub mod Reads
pub mod Appending
pub mod Numbered
pub mod Clears
