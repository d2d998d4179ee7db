pub mod MessageLaws
pub mod StepLaws
