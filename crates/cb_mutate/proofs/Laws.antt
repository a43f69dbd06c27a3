-- The lemmas of this crate that other crates cite.
pub use Rattle.cb_mutate.proofs.Bytes.{write_all, write_more, write_none}
pub use Rattle.cb_mutate.proofs.ChangedObject.{hot_fields, keeps_same}
pub use Rattle.cb_mutate.proofs.FarFreed.{found_far}
pub use Rattle.cb_mutate.proofs.Filled.{AreBytesFilled, IsPutInto, filled_all, filled_more}
pub use Rattle.cb_mutate.proofs.FreeCall.{free_call}
pub use Rattle.cb_mutate.proofs.FreeStep.{free_step}
pub use Rattle.cb_mutate.proofs.MakeCall.{make_call}
pub use Rattle.cb_mutate.proofs.MakeStep.{make_step}
pub use Rattle.cb_mutate.proofs.MapBeside.{FollowsMap, FollowsOf, beside_kept, between_follows, call_follows, empty_beside, is_make_of, is_map_make, is_map_reply, is_reply_of, map_kept, refused_between, refused_follows, was_made}
pub use Rattle.cb_mutate.proofs.MapReplies.{AreKnownBoth, ChangesAt, IsObjectThere, IsOnContents, call_by_state, far_there, here_near, in_range, map_same, moving_near, near_held, others_hold, refused_by, refused_call, stays_call}
pub use Rattle.cb_mutate.proofs.ReadCall.{read_call}
pub use Rattle.cb_mutate.proofs.ReadStep.{failed_step, read_step}
pub use Rattle.cb_mutate.proofs.CallLeaves.{free_leaves_words, make_leaves_words}
pub use Rattle.cb_mutate.proofs.CallStays.{free_stays, make_stays, place_codes}
pub use Rattle.cb_mutate.proofs.Stepping.{ComesTo, comes, is_exact, reply_comes}
pub use Rattle.cb_mutate.proofs.CallFixed.{free_step_fixes, make_step_fixes, read_step_fixes, write_step_fixes}
pub use Rattle.cb_mutate.proofs.ReadUnwritten.{read_unwritten}
pub use Rattle.cb_mutate.proofs.WriteCall.{write_by, write_call}
pub use Rattle.cb_mutate.proofs.WriteStep.{write_step}
pub use Rattle.cb_mutate.proofs.WrittenBytes.{bytes_length, write_bytes}
