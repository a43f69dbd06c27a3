pub mod Lists
pub mod Kept
pub mod Runs
pub mod Worked
