pub mod Views
pub mod Kept
pub mod Put
pub mod Dropped
pub mod Deltas
pub mod Laws
pub mod Worked
