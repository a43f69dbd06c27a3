pub mod SetState
pub mod Lost
pub mod Surviving
pub mod Matched
pub mod Nodes
