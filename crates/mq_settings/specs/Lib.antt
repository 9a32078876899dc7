pub mod Files
pub mod Keys
pub mod Settings
