pub mod ScalarLaws
pub mod NumberLaws
pub mod SignedLaws
pub mod HexLaws
pub mod PlainLaws
pub mod DigitLaws
