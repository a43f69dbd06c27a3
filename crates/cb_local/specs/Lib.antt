pub mod Delta
pub mod Adding
pub mod Words
pub mod Fetching
pub mod Rooms
pub mod Putting
pub mod LocalGoing
pub mod LocalStep
