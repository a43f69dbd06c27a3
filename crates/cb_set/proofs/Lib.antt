pub mod Losing
pub mod Naming
pub mod Crashing
pub mod Survivors
pub mod Masks
pub mod Changes
pub mod Laws
pub mod Worked
