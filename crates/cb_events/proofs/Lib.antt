pub mod Listed
pub mod Replied
pub mod WorkedListing
pub mod WorkedTold
