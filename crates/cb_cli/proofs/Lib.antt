pub mod Streams
pub mod PieceFronts
pub mod PutEnds
pub mod WorkedPieces
pub mod CommandWords
pub mod LaneCounts
pub mod AnswerTexts
pub mod TextParts
pub mod Statuses
pub mod Whole
pub mod WorkedTaken
pub mod WorkedPuts
pub mod WorkedTexts
pub mod WorkedWords
mod FlagWords
mod OptionReader
mod PartsRead
mod PartsTaken
mod AskedWords
mod GivenWords
mod FourWords
pub mod Laws
