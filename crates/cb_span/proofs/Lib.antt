pub mod Laws
pub mod Places
pub mod Cursor
pub mod Worked
