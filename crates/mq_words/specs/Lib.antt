pub mod Printing
pub mod Days
pub mod Limits
pub mod Meaning
pub mod CommandLine
