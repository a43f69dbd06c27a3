-- The lemmas of this crate that other crates cite.
pub use Rattle.cb_map_text.proofs.Counted.{counted}
pub use Rattle.cb_map_text.proofs.Objects.{fresh_tallied, none_made, one_where_needed, stays_tallied}
pub use Rattle.cb_map_text.proofs.OneReading.{accepted_not_refused, spells_no_fault}
pub use Rattle.cb_map_text.proofs.WorkedText.{at_line_3, bad_input, commands, input, small, spelled}
