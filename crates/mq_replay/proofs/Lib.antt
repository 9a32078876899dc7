pub mod EndSteps
pub mod Fronts
pub mod LineSteps
pub mod ReplaySteps
