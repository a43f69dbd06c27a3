pub mod Spelling
pub mod Form
pub mod First
pub mod Texts
pub mod Verdicts
pub mod Verbs
pub mod Reading
