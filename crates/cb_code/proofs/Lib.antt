pub mod Tables
pub mod Horner
pub mod WorkedCode
