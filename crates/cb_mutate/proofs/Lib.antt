pub mod Bytes
pub mod Packing
pub mod NewObject
pub mod MakeSound
mod WorkedMake
mod WorkedMap
pub mod Settling
pub mod WriteSound
pub mod Emptied
pub mod FreeSound
pub mod FarFreed
pub mod FarSeen
pub mod Filled
pub mod Loaded
pub mod SettledHot
pub mod ReadSound
pub mod Rooms
pub mod Stepping
pub mod WriteStep
pub mod FreeStep
pub mod ReadStep
pub mod MapReplies
pub mod WrittenBytes
pub mod ChangedObject
pub mod ReadCall
pub mod WriteCall
pub mod FarCall
pub mod FreeCall
pub mod MakeStep
pub mod CallFixed
pub mod CallStays
pub mod CallLeaves
pub mod ReadUnwritten
pub mod MakeCall
mod WorkedSteps
mod WorkedReads
pub mod MapBeside
pub mod Laws
