-- The lemmas of this crate that other crates cite.
pub use Rattle.cb_gen.proofs.AtEase.{made_at_ease}
pub use Rattle.cb_gen.proofs.Grammar.{made_is_script}
