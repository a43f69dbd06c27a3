-- Configurations, counts of faults and replies at worked values, and values that break one part each.
use Rattle.std.proofs.Common.{ℕ, ◌<◌, ◌-◌, ◌^◌, [], refl, arith, inl, inr}
use Rattle.cb_types.specs.declared.config.Config.{Config}
use Rattle.cb_types.specs.declared.config.Field.{Field}
use Rattle.cb_types.specs.declared.config.Field.TheVariants.{K, R, Nodes, Frames, Room, Handles, Turns}
use Rattle.cb_types.specs.declared.request.Request.TheVariants as line
use Rattle.cb_types.specs.declared.reply.Reply.TheVariants.{Bytes, Done, Left, Full, NoRoom, Freed, Unavailable, Range, Pinned, Worn, ScopeFull, NoFrame, Down, Stays, Joining, NodeFull, NoPair, NoJoin, Unfinished, Short, Changed}
use Rattle.cb_types.specs.Config.{IsFieldInRange, IsAccepted, IsFirstOutOfRange, place}
use Rattle.cb_types.specs.Faults.{Rose}
use Rattle.cb_types.specs.Table.{IsReplyOf}

-- ---- configurations

abbrev config : ℕ → ℕ → ℕ → ℕ → ℕ → ℕ → ℕ → Config
config k r nodes frames room handles turns = record { k = k; r = r; nodes = nodes; frames = frames; room = room; handles = handles; turns = turns }

accepted : IsAccepted (config 2 2 6 8 64 16 0)
accepted K = (omega arith, omega arith)
accepted R = (omega arith, omega arith)
accepted Nodes = (omega arith, omega arith)
accepted Frames = (omega arith, omega arith)
accepted Room = (omega arith, omega arith)
accepted Handles = (omega arith, omega arith)
accepted Turns = omega arith

-- the greatest of each
widest : IsAccepted (config 16 4 64 4096 4096 65536 2500)
widest K = (omega arith, omega arith)
widest R = (omega arith, omega arith)
widest Nodes = (omega arith, omega arith)
widest Frames = (omega arith, omega arith)
widest Room = (omega arith, omega arith)
widest Handles = (omega arith, omega arith)
widest Turns = omega arith

no_data : IsAccepted (config 0 2 6 8 64 16 0) → ⊥
no_data is = omega (arith, (is K).0)

too_many_data : IsAccepted (config 17 2 64 8 64 16 0) → ⊥
too_many_data is = omega (arith, (is K).1)

no_parities : IsAccepted (config 2 0 6 8 64 16 0) → ⊥
no_parities is = omega (arith, (is R).0)

too_many_parities : IsAccepted (config 2 5 64 8 64 16 0) → ⊥
too_many_parities is = omega (arith, (is R).1)

too_few_nodes : IsAccepted (config 2 2 3 8 64 16 0) → ⊥
too_few_nodes is = omega (arith, (is Nodes).0)

too_many_nodes : IsAccepted (config 2 2 65 8 64 16 0) → ⊥
too_many_nodes is = omega (arith, (is Nodes).1)

no_frames : IsAccepted (config 2 2 6 0 64 16 0) → ⊥
no_frames is = omega (arith, (is Frames).0)

too_many_frames : IsAccepted (config 2 2 6 4097 64 16 0) → ⊥
too_many_frames is = omega (arith, (is Frames).1)

no_rows : IsAccepted (config 2 2 6 8 0 16 0) → ⊥
no_rows is = omega (arith, (is Room).0)

too_many_rows : IsAccepted (config 2 2 6 8 4097 16 0) → ⊥
too_many_rows is = omega (arith, (is Room).1)

no_handles : IsAccepted (config 2 2 6 8 64 0 0) → ⊥
no_handles is = omega (arith, (is Handles).0)

too_many_handles : IsAccepted (config 2 2 6 8 64 65537 0) → ⊥
too_many_handles is = omega (arith, (is Handles).1)

too_many_turns : IsAccepted (config 2 2 6 8 64 16 2501) → ⊥
too_many_turns is = omega (arith, is Turns)

-- the nodes are too few, and the frames behind them are out of range too
the_first : IsFirstOutOfRange (config 2 2 3 0 64 16 0) Nodes
the_first = record { out = λ is. omega (arith, is.0); before = before } where
  before : (earlier : Field) → place earlier < place Nodes
      → IsFieldInRange (config 2 2 3 0 64 16 0) earlier
  before K lt = (omega arith, omega arith)
  before R lt = (omega arith, omega arith)
  before Nodes lt = absurd (omega (arith, lt))
  before Frames lt = absurd (omega (arith, lt))
  before Room lt = absurd (omega (arith, lt))
  before Handles lt = absurd (omega (arith, lt))
  before Turns lt = absurd (omega (arith, lt))

a_later_one : IsFirstOutOfRange (config 2 2 3 0 64 16 0) Frames → ⊥
a_later_one is = omega (arith, (is.before Nodes (omega arith)).0)

one_in_range : IsFirstOutOfRange (config 2 2 3 0 64 16 0) K → ⊥
one_in_range is = is.out (omega arith, omega arith)

-- ---- faults

one_more : Rose 3 4
one_more = inl (omega arith)

at_the_end : Rose (2 ^ 64 - 1) (2 ^ 64 - 1)
at_the_end = inr (refl, omega arith)

no_more : Rose 3 3 → ⊥
no_more (inl lt) = omega (arith, lt)
no_more (inr (same, end)) = omega (arith, end)

fewer : Rose 4 3 → ⊥
fewer (inl lt) = omega (arith, lt)
fewer (inr (same, end)) = omega (arith, end)

-- ---- replies by lines

a_make_is_answered_full : IsReplyOf (line.Make [] []) (Full 1)
a_make_is_answered_full = tt

a_make_is_not_answered_freed : IsReplyOf (line.Make [] []) Freed → ⊥
a_make_is_not_answered_freed is = is

a_read_is_not_answered_a_range : IsReplyOf (line.Read []) (Range 1) → ⊥
a_read_is_not_answered_a_range is = is

a_write_is_not_answered_bytes : IsReplyOf (line.Write [] 0 []) (Bytes 1 []) → ⊥
a_write_is_not_answered_bytes is = is

a_free_is_not_answered_no_room : IsReplyOf (line.Free []) (NoRoom 1 1 1) → ⊥
a_free_is_not_answered_no_room is = is

a_pin_is_not_answered_pinned : IsReplyOf (line.Pin []) (Pinned 1) → ⊥
a_pin_is_not_answered_pinned is = is

a_peek_is_not_answered_freed : IsReplyOf (line.Peek []) Freed → ⊥
a_peek_is_not_answered_freed is = is

an_unpin_is_not_answered_worn : IsReplyOf (line.Unpin []) Worn → ⊥
an_unpin_is_not_answered_worn is = is

a_filter_is_not_answered_freed : IsReplyOf (line.Filter []) Freed → ⊥
a_filter_is_not_answered_freed is = is

a_leave_is_not_answered_worn : IsReplyOf line.Leave Worn → ⊥
a_leave_is_not_answered_worn is = is

an_eviction_is_answered_worn : IsReplyOf line.Evict Worn
an_eviction_is_answered_worn = tt

no_line_is_answered_that_no_frame_is_free : IsReplyOf (line.Make [] []) NoFrame → ⊥
no_line_is_answered_that_no_frame_is_free is = is

a_pin_is_answered_that_the_scope_is_full : IsReplyOf (line.Pin []) ScopeFull
a_pin_is_answered_that_the_scope_is_full = tt

a_read_is_not_answered_that_the_scope_is_full : IsReplyOf (line.Read []) ScopeFull → ⊥
a_read_is_not_answered_that_the_scope_is_full is = is

a_free_is_not_answered_unavailable : IsReplyOf (line.Free []) (Unavailable (record { n = 0 }) []) → ⊥
a_free_is_not_answered_unavailable is = is

an_unpin_is_answered_done : IsReplyOf (line.Unpin []) Done
an_unpin_is_answered_done = tt

a_leave_tells_the_pins : IsReplyOf line.Leave (Left 16)
a_leave_tells_the_pins = tt

an_eviction_is_not_answered_that_a_node_is_down : IsReplyOf line.Evict (Down (record { n = 0 })) → ⊥
an_eviction_is_not_answered_that_a_node_is_down is = is

a_join_is_not_answered_down : IsReplyOf (line.Join (record { n = 0 })) (Down (record { n = 0 })) → ⊥
a_join_is_not_answered_down is = is

no_line_is_answered_that_an_object_stays : IsReplyOf (line.Pin []) Stays → ⊥
no_line_is_answered_that_an_object_stays is = is

a_pair_is_answered_that_a_pair_is_joining : IsReplyOf line.Pair (Joining (record { n = 1 }) (record { n = 2 }))
a_pair_is_answered_that_a_pair_is_joining = tt

a_pair_is_not_answered_that_a_node_is_full : IsReplyOf line.Pair (NodeFull (record { n = 0 })) → ⊥
a_pair_is_not_answered_that_a_node_is_full is = is

a_patch_is_answered_that_a_node_is_full : IsReplyOf line.Patch (NodeFull (record { n = 0 }))
a_patch_is_answered_that_a_node_is_full = tt

a_patch_is_not_answered_unfinished : IsReplyOf line.Patch (Unfinished []) → ⊥
a_patch_is_not_answered_unfinished is = is

a_merge_is_answered_unfinished : IsReplyOf line.Merge (Unfinished [])
a_merge_is_answered_unfinished = tt

a_merge_is_not_answered_short : IsReplyOf line.Merge (Short []) → ⊥
a_merge_is_not_answered_short is = is

a_part_is_answered_that_no_pair_is_joining : IsReplyOf line.Part NoJoin
a_part_is_answered_that_no_pair_is_joining = tt

a_part_is_not_answered_changed : IsReplyOf line.Part (Changed (record { n = 1 })) → ⊥
a_part_is_not_answered_changed is = is

a_compact_is_answered_that_there_is_no_pair : IsReplyOf line.Compact NoPair
a_compact_is_answered_that_there_is_no_pair = tt

a_compact_is_not_answered_changed : IsReplyOf line.Compact (Changed (record { n = 1 })) → ⊥
a_compact_is_not_answered_changed is = is
