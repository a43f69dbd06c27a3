-- The lemmas of this crate that other crates cite.
pub use Rattle.cb_scrub_world.proofs.Restored.{byte_is_spoilt}
pub use Rattle.cb_scrub_world.proofs.SoundScrub.{sound_may_scrub, spoilt_may_scrub}
