pub mod Rows
pub mod Sending
pub mod Keeping
pub mod Schedule
pub mod Course
pub mod Ends
