pub mod Verdicts
pub mod First
pub mod Left
pub mod Printed
pub mod Outcome
