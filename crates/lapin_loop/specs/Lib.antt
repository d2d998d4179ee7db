pub mod Answers
pub mod Driving
pub mod Watching
