pub mod CallLaws
pub mod LineLaws
pub mod Printed
pub mod InputLaws
