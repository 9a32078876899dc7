pub mod Asked
pub mod Filters
pub mod Servers
pub mod Shares
pub mod Stops
pub mod Totals
