pub mod Membership
pub mod Answer
