pub mod Next
pub mod Standing
pub mod Scrub
pub mod Spoilt
