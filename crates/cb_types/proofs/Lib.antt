pub mod Written
mod Replaced
pub mod WorkedConfig
