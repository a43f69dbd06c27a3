-- What other crates may use of these proofs.
pub use Rattle.cb_lanes.proofs.AloneLines.{maker_of}
pub use Rattle.cb_lanes.proofs.EasyWorlds.{crash_below, crash_named, crashed_count, crashed_nodes}
pub use Rattle.cb_lanes.proofs.FramesMade.{frames_made}
pub use Rattle.cb_lanes.proofs.LaneForm.{made_in_front, made_request}
pub use Rattle.cb_lanes.proofs.LaneRises.{AreOfLane, answers_of, has_seen, has_split}
pub use Rattle.cb_lanes.proofs.LaneScopes.{handle_is_made, made_as_left, made_as_right}
pub use Rattle.cb_lanes.proofs.LaneScopes.{scoped_behind}
pub use Rattle.cb_lanes.proofs.LinesBack.{first_none, handle_append}
pub use Rattle.cb_lanes.proofs.LinesRise.{lane_on_record}
pub use Rattle.cb_lanes.proofs.LinesSuit.{are_suited_both, are_suited_more, lane_suits}
pub use Rattle.cb_lanes.proofs.Lists.{all_both, all_map, found_one}
pub use Rattle.cb_lanes.proofs.OwnEnds.{FoundIn, turned_in}
pub use Rattle.cb_lanes.proofs.TurnReplies.{room_for, turned_so, write_where}
pub use Rattle.cb_lanes.proofs.UntilLack.{NoneOfLane, keep_alone, none_lacks}
pub use Rattle.cb_lanes.proofs.UntilLack.{none_until, until_before, until_behind}
