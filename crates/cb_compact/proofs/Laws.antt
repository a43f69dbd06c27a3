-- The lemmas of this crate that other crates cite.
pub use Rattle.cb_compact.proofs.Committing.{taken_few}
pub use Rattle.cb_compact.proofs.FarLaws.{AreFarLaws}
pub use Rattle.cb_compact.proofs.FarTurns.{begin_laws, merge_laws, part_laws, patch_laws}
pub use Rattle.cb_compact.proofs.Finding.{takes_none}
pub use Rattle.cb_compact.proofs.CompactFixed.{as_fresh, first_fixed, has_merged}
pub use Rattle.cb_compact.proofs.CompactKeeps.{JoinKeeps, LeavesLocal, dropped_given, keeps_all, leaves_local, local_of, steps_there}
pub use Rattle.cb_compact.proofs.NowEnds.{ends_full, ends_merged, gone_all, gone_sets, gone_sound, gone_there}
pub use Rattle.cb_compact.proofs.NowGone.{gone_on, none_gone, step_other}
pub use Rattle.cb_compact.proofs.CompactSound.{at_joining, at_no_pair, at_pair, now_given, through}
pub use Rattle.cb_compact.proofs.NowLaws.{leaves_both, now_laws}
pub use Rattle.cb_compact.proofs.PatchSound.{few_steps}
pub use Rattle.cb_compact.proofs.Ready.{fresh_code, fresh_together, fresh_words, unwrapped}
pub use Rattle.cb_compact.proofs.TableExists.{table_exists}
pub use Rattle.cb_compact.proofs.WorkedNow.{full_turn, idle, joining, paired}
pub use Rattle.cb_compact.proofs.WorkedPair.{set_a, set_b}
