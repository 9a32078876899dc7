pub mod BodySteps
pub mod KeptSteps
