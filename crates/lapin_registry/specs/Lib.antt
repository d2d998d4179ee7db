pub mod ByName
pub mod Topology
pub mod Marks
pub mod Completed
pub mod Topologies
