mod CommandLineSteps
mod MatchSteps
