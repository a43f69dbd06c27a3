pub mod Callers
pub mod Shards
pub mod Worlds
