pub mod CameLaws
pub mod FlagLaws
pub mod OpaqueLaws
pub mod PartLaws
pub mod ReadingLaws
pub mod RisingLaws
pub mod Turns
pub mod ValueLaws
pub mod WritingLaws
mod ReadableLaws
