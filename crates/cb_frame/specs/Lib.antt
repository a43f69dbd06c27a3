pub mod Bitmap
pub mod FrameSet
pub mod Runs
pub mod FreeFrames
