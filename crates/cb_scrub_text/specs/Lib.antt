pub mod Form
pub mod FirstBad
pub mod Verdicts
pub mod Reading
