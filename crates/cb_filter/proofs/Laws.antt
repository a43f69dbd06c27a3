-- The lemmas of this crate that other crates cite.
pub use Rattle.cb_filter.proofs.FilterKeeps.{filter_keeps}
pub use Rattle.cb_filter.proofs.FilterLeaves.{filter_leaves_words}
pub use Rattle.cb_filter.proofs.FilterStep.{filter_step, filter_stopped}
pub use Rattle.cb_filter.proofs.FilterStays.{filter_stays}
pub use Rattle.cb_filter.proofs.FilterFixed.{filter_step_fixes}
pub use Rattle.cb_filter.proofs.FilterUnwritten.{filter_unwritten}
