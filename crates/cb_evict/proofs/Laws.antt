-- The lemmas of this crate that other crates cite.
pub use Rattle.cb_evict.proofs.AbortFixed.{abort_step_fixes}
pub use Rattle.cb_evict.proofs.AbortKeeps.{abort_keeps}
pub use Rattle.cb_evict.proofs.AbortStep.{abort_step}
pub use Rattle.cb_evict.proofs.BeginKeeps.{begin_keeps, gather_keeps}
pub use Rattle.cb_evict.proofs.EvictKeeps.{evict_keeps, evict_leaving, evict_made}
pub use Rattle.cb_evict.proofs.BeginFixed.{begin_step_fixes, gather_step_fixes}
pub use Rattle.cb_evict.proofs.BeginStep.{begin_step, gather_step}
pub use Rattle.cb_evict.proofs.CommitFixed.{commit_step_fixes}
pub use Rattle.cb_evict.proofs.CommitKeeps.{commit_keeps}
pub use Rattle.cb_evict.proofs.CommitStep.{commit_step}
pub use Rattle.cb_evict.proofs.Composed.{few_nodes, few_spans, rule_weaker}
pub use Rattle.cb_evict.proofs.EvictFixed.{evict_step_fixes}
pub use Rattle.cb_evict.proofs.EvictStep.{counted_step, evict_step, evict_stopped, loose_span}
pub use Rattle.cb_evict.proofs.EvictionFixed.{counted_step_fixes}
pub use Rattle.cb_evict.proofs.Gone.{given_in}
pub use Rattle.cb_evict.proofs.Installs.{IsRun, installed_sound}
pub use Rattle.cb_evict.proofs.InstallKeeps.{IsOneInstall, install_cases, install_keeps, install_leaves_words, install_now, install_stays, install_step_codes, install_step_fixes}
pub use Rattle.cb_evict.proofs.LeftWords.{aborts_leave_words, begins_leave_words, begins_step_leaves_words, commits_leave_words, evicts_leave_words, ships_leave_words}
pub use Rattle.cb_evict.proofs.Loose.{loose_among}
pub use Rattle.cb_evict.proofs.LooseLengths.{enough_some, fewer_none, longest_enough, longest_within, most_alike, most_within, none_fewer, some_enough, some_within, taken_count}
pub use Rattle.cb_evict.proofs.ShipFixed.{ship_step_fixes}
pub use Rattle.cb_evict.proofs.ShipKeeps.{ship_keeps}
pub use Rattle.cb_evict.proofs.ShipStep.{ship_step, ship_stopped}
pub use Rattle.cb_evict.proofs.Standing.{named_at, names_span, ready_frame}
pub use Rattle.cb_evict.proofs.StepCodes.{abort_step_codes, begin_step_codes, commit_step_codes, evict_step_codes, gather_step_codes, ship_step_codes}
pub use Rattle.cb_evict.proofs.EvictStays.{abort_stays, begin_stays, commit_stays, evict_stays, evict_step_stays, gather_stays, ship_stays}
pub use Rattle.cb_evict.proofs.Trying.{taken_in}
pub use Rattle.cb_evict.proofs.EvictUnwritten.{abort_unwritten, begin_unwritten, commit_unwritten, evict_unwritten, gather_unwritten}
pub use Rattle.cb_evict.proofs.WorkedWide.{after, all_known, calm, desk, far, known, none_known, step}
