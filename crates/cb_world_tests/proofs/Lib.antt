pub mod AllEvents
pub mod Calling
pub mod Makes
pub mod Orders
pub mod ScrubbedWorld
pub mod SmallWorlds
pub mod SplitArrays
mod WorkedKeeping
mod WorkedPacked
mod WorkedShards
mod WorkedSmall
