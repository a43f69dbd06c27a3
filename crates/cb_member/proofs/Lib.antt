pub mod Fresh
pub mod Crashes
pub mod Valid
pub mod Changes
pub mod Laws
pub mod Worked
