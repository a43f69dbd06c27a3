pub mod Rows
pub mod NodesState
pub mod Answer
pub mod Delta
pub mod Lent
