pub mod FileSteps
pub mod SettingsFaults
pub mod TableNames
pub mod TextLaws
