-- The lemmas of this crate that other crates cite.
pub use Rattle.cb_rebuild.proofs.RebuildKeeps.{keeps_first, keeps_step}
pub use Rattle.cb_rebuild.proofs.RebuildStays.{failed_stays, rebuild_stays}
pub use Rattle.cb_rebuild.proofs.RebuildFixed.{rebuild_step_fixes}
