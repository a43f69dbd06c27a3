pub mod Writes
pub mod Walking
pub mod Tables
pub mod Words
pub mod BlockSums
pub mod Closings
pub mod WorkedWeights
pub mod WorkedClosing
