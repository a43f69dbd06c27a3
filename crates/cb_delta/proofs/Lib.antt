pub mod Patching
pub mod WorkedParity
