mod Cutting
mod Making
mod WorkedEnds
mod AsBox
mod AsEncoder
pub mod Crosses
mod Apart
mod Worlds
mod Losses
mod FewBytes
mod StepFew
mod WorkedWorld
mod WorkedCalls
