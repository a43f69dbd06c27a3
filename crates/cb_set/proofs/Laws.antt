-- The laws of span-sets that other crates cite.
pub use Rattle.cb_set.proofs.Losing.{length-lost-set as shard_replaced, loss_of-with_crash_here as crash_loses_its_incarnation, loss_of-with_crash_other_incarnation as crash_keeps_other_incarnations, loss_of-with_crash_other_node as crash_keeps_other_nodes, lost-with_join as join_keeps_lost, none_whole, whole_none, whole_by_count}
pub use Rattle.cb_set.proofs.Crashing.{crash_adds_one}
pub use Rattle.cb_set.proofs.Survivors.{SurvivesFirst, lost_and_surviving, survives, surviving_ascend}
pub use Rattle.cb_set.proofs.Naming.{spare_keeps_distinct}
pub use Rattle.cb_set.proofs.Masks.{apart_from_masks, live_mask-lt, masks_from_apart, masks_of_matched, matched_by_masks}
pub use Rattle.cb_set.proofs.Changes.{named_live, parities-with_position, parities-with_shard, position_else, position_here, dead_is_rest, rest_without, shard_else, shard_here}
