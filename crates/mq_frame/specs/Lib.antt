pub mod Feed
pub mod Owned
pub mod Parts
pub mod Reading
pub mod Shown
pub mod Spelling
