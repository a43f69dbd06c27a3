pub mod RebuildStep
pub mod Finding
