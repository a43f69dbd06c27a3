pub mod Reading
pub mod Growing
pub mod Moves
pub mod Order
pub mod Naming
pub mod Stages
pub mod Following
pub mod Serial
pub mod Named
pub mod Shown
pub mod Versions
pub mod Dated
pub mod Lanes
pub mod WorkedAnswers
pub mod WorkedCalls
pub mod WorkedHistories
pub mod WorkedTimes
pub mod WorkedHistory
pub mod WorkedCrossing
pub mod WorkedLanes
mod WorkedParts
pub mod Laws
mod WorkedLater
