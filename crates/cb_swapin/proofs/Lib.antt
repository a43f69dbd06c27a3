pub mod RowStored
pub mod OneBrought
pub mod SlotNames
pub mod SlotsBrought
pub mod SpanBrought
pub mod Committed
pub mod Waits
pub mod RowGiven
pub mod Arrived
pub mod SwapSound
pub mod Swapped
pub mod SwapAnswers
pub mod SwapWords
pub mod SwapStep
pub mod SwapFixed
pub mod SwapKeeps
pub mod SwapStays
pub mod SwapUnwritten
pub mod SwapPins
pub mod FarHomes
pub mod FetchKeeps
pub mod OrderRow
pub mod Landed
pub mod FetchFixed
pub mod LandStep
pub mod LandKeeps
pub mod SwapLeaves
mod WorkedNamed
mod WorkedSwap
mod WorkedWord
mod WorkedFetch
mod WorkedSwapStep
mod WorkedEvents
pub mod Laws
