-- The lemmas of this crate that other crates cite.
pub use Rattle.cb_text.proofs.WorkedLines.{made_and_read_text}
