pub mod WeakSets
mod Walking
pub mod RebuildSound
pub mod RebuildKeeps
pub mod RebuildFixed
pub mod RebuildStays
mod WorkedWord
mod WorkedWeak
mod WorkedRebuilt
mod WorkedKept
pub mod Laws
