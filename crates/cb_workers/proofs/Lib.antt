mod Visits
pub mod Laws
mod Quiet
mod Batches
mod Adding
mod Steps
mod WorkedRules
mod WorkedWork
mod WorkedBodies
mod WorkedSteps
mod WorkedOwed
mod WorkedOrders
