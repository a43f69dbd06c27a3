pub mod Copied
pub mod Cooled
pub mod Seated
pub mod Berths
pub mod Moved
pub mod Settled
pub mod FilterSound
pub mod Unmade
pub mod FilterStep
pub mod FilterKeeps
pub mod FilterFixed
pub mod FilterStays
pub mod FilterLeaves
pub mod FilterUnwritten
pub mod WorkedSeats
mod WorkedFilter
mod WorkedFilterStep
mod WorkedMemory
pub mod Laws
