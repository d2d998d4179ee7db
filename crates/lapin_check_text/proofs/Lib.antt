pub mod SeenLaws
pub mod FindingLaws
