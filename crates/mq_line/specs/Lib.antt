pub mod Pieces
pub mod Grammar
pub mod Parameters
pub mod Results
pub mod Text
pub mod Feed
pub mod Search
