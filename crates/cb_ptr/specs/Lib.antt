pub mod Word
pub mod Steps
