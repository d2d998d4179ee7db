pub mod CallRuns
pub mod Commands
pub mod JoinedRuns
pub mod ResendRuns
pub mod Runs
