-- The laws of membership that other crates cite.
pub use Rattle.cb_member.proofs.Fresh.{crashed_at-fresh as none_crashed_at_first}
pub use Rattle.cb_member.proofs.Crashes.{crashed_at-with_crash_here as crash_ends_its_incarnation, crashed_at-with_crash_other_incarnation as crash_keeps_other_incarnations, crashed_at-with_crash_other_node as crash_keeps_other_nodes, crashed_at-with_join as join_keeps_crashes, is_some-crashed_at as ended_incarnations_crashed, state_of-with_state_here as change_is_at_its_node, state_of-with_state_other as change_keeps_other_nodes}
pub use Rattle.cb_member.proofs.Valid.{crash_stays_valid, join_stays_valid, crash_epoch as crash_adds_one_epoch, crash_keeps_epochs, crashes_differ}
pub use Rattle.cb_member.proofs.Changes.{crash_keeps_count, crash_keeps_incarnations, crash_keeps_others, crash_takes_down, join_brings_up, join_keeps_count, join_keeps_others, join_raises_incarnation}
pub use Rattle.cb_member.proofs.Fresh.{fresh-IsMembership}
