pub mod Seats
pub mod FilterRule
pub mod FilterEffect
pub mod Refused
pub mod Copies
pub mod Plans
pub mod ClaimEnds
pub mod FilterStep
