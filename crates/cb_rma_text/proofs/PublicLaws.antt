-- The lemmas of this crate that other crates cite.
pub use Rattle.cb_rma_text.proofs.OneReading.{accepted_not_refused, spells_no_fault}
pub use Rattle.cb_rma_text.proofs.WorkedSchedule.{at_line_3, bad_input, due, events, input, spelled}
