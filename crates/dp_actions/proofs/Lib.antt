mod CommitSteps
mod Growing
mod TagSteps
