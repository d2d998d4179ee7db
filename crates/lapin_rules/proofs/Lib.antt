pub mod ListLaws
pub mod ConfirmLaws
pub mod TicketLaws
pub mod Runs
pub mod ChannelLaws
pub mod ReturnLaws
pub mod EndLaws
pub mod PhaseLaws
