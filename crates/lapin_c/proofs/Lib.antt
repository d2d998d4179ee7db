mod PointerSteps
mod HeldBox
mod LetsGo
pub mod BehindLaws
