-- The lemmas of this crate that other crates cite.
pub use Rattle.cb_model.proofs.Growing.{length-overwritten}
pub use Rattle.cb_model.proofs.Naming.{Follow-push, calls_of-push, handle_of-push}
pub use Rattle.cb_model.proofs.Order.{Follow-AreLegal, legal_in_order, makes-le, makes-push, value-push}
pub use Rattle.cb_model.proofs.Serial.{serial}
pub use Rattle.cb_model.proofs.Shown.{serial_by_history}
pub use Rattle.cb_model.proofs.Dated.{serial_by_versions}
pub use Rattle.cb_model.proofs.Lanes.{serial_by_lanes}
