pub mod Draws
pub mod Drawn
pub mod Noted
pub mod Summary
