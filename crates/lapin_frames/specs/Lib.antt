pub mod Carried
pub mod FrameFits
pub mod FrameReading
pub mod Frames
pub mod HeaderReading
pub mod Headers
pub mod MethodReading
pub mod Methods
