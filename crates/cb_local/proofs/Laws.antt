-- The lemmas of this crate that other crates cite.
pub use Rattle.cb_local.proofs.LocalLaws.{beside_fixed, lack_stays, local_laws}
