pub mod Wrong
pub mod Fitting
pub mod Mended
pub mod Finds
