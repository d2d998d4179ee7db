pub mod AccountLaws
pub mod Beginning
pub mod FateLaws
pub mod Fating
pub mod NumberLaws
pub mod Returning
pub mod Told
