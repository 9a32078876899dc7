pub mod Hosts
pub mod Networks
pub mod Permits
