pub mod ChannelSet
pub mod FullChannels
pub mod Words
