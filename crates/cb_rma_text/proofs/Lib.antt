pub mod Rows
pub mod Events
pub mod Windows
pub mod Front
pub mod OneReading
pub mod WorkedSchedule
pub mod PublicLaws
