pub mod Dealt
pub mod Outcome
pub mod Printed
pub mod Words
