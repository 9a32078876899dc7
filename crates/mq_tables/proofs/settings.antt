pub mod Reads
pub mod Arrivals
pub mod Sets
pub mod Rule
pub mod FirstRows
