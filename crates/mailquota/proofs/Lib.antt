mod RefusalSteps
mod StatusSteps
