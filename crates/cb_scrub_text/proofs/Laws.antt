-- The lemmas of this crate that other crates cite.
pub use Rattle.cb_scrub_text.proofs.OneReading.{accepted_not_refused}
