pub mod Again
pub mod Makes
pub mod Orders
pub mod Plain
pub mod Taken
