pub mod InBlocks
pub mod Following
pub mod Numbers
pub mod Front
pub mod Store
