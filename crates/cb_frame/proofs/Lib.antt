pub mod Bits
pub mod Sets
pub mod Laws
pub mod Flags
pub mod Runs
pub mod Worked
pub mod WorkedRuns
