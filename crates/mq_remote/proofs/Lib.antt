pub mod AskedSteps
pub mod RefusalSteps
pub mod ShareSteps
pub mod StopSteps
pub mod TotalSteps
