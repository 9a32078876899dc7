pub mod Booleans
pub mod Options
pub mod Numbers
pub mod Lists
pub mod Streams
pub mod Keys
pub mod Telling
