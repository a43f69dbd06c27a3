pub mod Rules
pub mod Work
pub mod Bodies
