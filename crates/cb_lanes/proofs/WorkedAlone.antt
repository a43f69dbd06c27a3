-- Worked examples: what a lane's own lines are answered where it is alone.
use Rattle.std.proofs.Common.{◌≡◌, ℕ, List, [], ◌∷◌, true, false, Some, None, replicate, refl, lit≤}
use Rattle.std.proofs.Common.{arith}
use Rattle.cb_types.specs.declared.answer.Answer.{Answer}
use Rattle.cb_types.specs.declared.request.Request.{Request}
use Rattle.cb_types.specs.declared.request.Request.TheVariants.{Make, Read, Write, Free, Pin, Peek}
use Rattle.cb_types.specs.declared.request.Request.TheVariants.{Unpin, Filter, Leave}
use Rattle.cb_types.specs.declared.reply.Reply.{Reply}
use Rattle.cb_types.specs.declared.reply.Reply.TheVariants.{Made, Version, Bytes, Done, Left, Same}
use Rattle.cb_types.specs.declared.reply.Reply.TheVariants.{Full, NoRoom, Unmade, Freed, Moving}
use Rattle.cb_types.specs.declared.reply.Reply.TheVariants.{Unavailable, Range, Pinned, Worn}
use Rattle.cb_types.specs.declared.reply.Reply.TheVariants.{ScopeFull, NotPinned}
use Rattle.cb_model.specs.declared.object.Object.{Object}
use Rattle.cb_model.specs.declared.object.Object.TheVariants as has
use Rattle.cb_script.specs.declared.script.Line.{Line}
use Rattle.cb_lanes.specs.Scopes.{NamedPin}
use Rattle.cb_lanes.specs.Alone.{is_own, leaves, HasOwnLines, NamedNow, LaneState, fresh_lane}
use Rattle.cb_lanes.specs.Alone.{now_named, alone_after, AloneSays, KeepAlone, IsCalmReply}

abbrev a : List ℕ
a = 97 ∷ []

abbrev b : List ℕ
b = 98 ∷ []

abbrev c : List ℕ
c = 99 ∷ []

abbrev by : ℕ → Request → Line
by lane request = record { lane = record { n = lane }; line = 2; request = request }

abbrev lane_answer : ℕ → Request → Reply → Answer
lane_answer lane request reply =
    record { lane = record { n = lane }; line = 2; request = request; reply = reply }

abbrev made : ℕ → Reply
made h = Made (record { n = h }) 1

-- ---- own lines

-- lane 0 makes a, lane 1 makes b, and lane 2 makes c and pins a
abbrev lines : List Line
lines = by 0 (Make a (1 ∷ [])) ∷ by 1 (Make b (2 ∷ [])) ∷ by 2 (Make c (3 ∷ [])) ∷ by 2
    (Pin a) ∷ by 1 (Pin b)
    ∷ by 2 (Pin c) ∷ []

a_make_is_own : is_own lines 1 (lane_answer 1 (Make b (2 ∷ [])) (made 1)) ≡ true
a_make_is_own = refl

a_read_is_own : is_own lines 1 (lane_answer 1 (Read b) Freed) ≡ true
a_read_is_own = refl

a_shared_name_is_not : is_own lines 1 (lane_answer 1 (Read a) Freed) ≡ false
a_shared_name_is_not = refl

another_lane_s_line_is_not : is_own lines 1 (lane_answer 2 (Read b) Freed) ≡ false
another_lane_s_line_is_not = refl

a_filter_is_not : is_own lines 1 (lane_answer 1 (Filter b) Same) ≡ false
a_filter_is_not = refl

a_leave_is_not : is_own lines 1 (lane_answer 1 Leave (Left 0)) ≡ false
a_leave_is_not = refl

lane_1_has_own_lines : HasOwnLines lines 1
lane_1_has_own_lines = record { from_one = lit≤ tt; pins = refl }

lane_0_has_none : HasOwnLines lines 0 → ⊥
lane_0_has_none is = let n = is.from_one in omega (arith, n)

who_pins_a_shared_name_has_none : HasOwnLines lines 2 → ⊥
who_pins_a_shared_name_has_none is = absurd (let e = is.pins in cc)

a_leave_is_the_lane_s : leaves 1 (lane_answer 1 Leave (Left 0)) ≡ true
a_leave_is_the_lane_s = refl

another_lane_leaves : leaves 1 (lane_answer 2 Leave (Left 0)) ≡ false
another_lane_leaves = refl

a_pin_leaves_nothing : leaves 1 (lane_answer 1 (Pin b) (Version 1)) ≡ false
a_pin_leaves_nothing = refl

-- ---- what a lane has

abbrev object : List ℕ → Object → NamedNow
object name is = record { name = name; now = Some is }

abbrev on : List ℕ → ℕ → NamedPin
on name version = record { name = name; version = version }

-- b has two bytes at version 3 and is pinned twice, c was freed
abbrev lane : LaneState
lane = record {
  objects = object b (has.Held 3 (7 ∷ 8 ∷ [])) ∷ object c (has.Freed 2) ∷ object b
      (has.Held 2 (6 ∷ 8 ∷ [])) ∷ [];
  scope = on b 3 ∷ on b 3 ∷ [];
}

-- the same without pins
abbrev loose : LaneState
loose = record { objects = lane.objects; scope = [] }

abbrev full : LaneState
full = record { objects = lane.objects; scope = replicate 16 (on b 3) }

the_last_change_counts : now_named b lane.objects ≡ Some (has.Held 3 (7 ∷ 8 ∷ []))
the_last_change_counts = refl

a_never_made_name : now_named a lane.objects ≡ None
a_never_made_name = refl

a_make_says : AloneSays lane (Make a (1 ∷ [])) (made 9)
a_make_says = (record { n = 9 }, refl)

a_make_at_version_2 : AloneSays lane (Make a (1 ∷ [])) (Made (record { n = 9 }) 2) → ⊥
a_make_at_version_2 says = absurd (let e = says.1 in cc)

a_refused_make : AloneSays lane (Make a (1 ∷ [])) (Full 1) → ⊥
a_refused_make says = absurd (let e = says.1 in cc)

a_read_says : AloneSays lane (Read b) (Bytes 3 (7 ∷ 8 ∷ []))
a_read_says = refl

a_read_of_older_bytes : AloneSays lane (Read b) (Bytes 2 (6 ∷ 8 ∷ [])) → ⊥
a_read_of_older_bytes says = absurd cc

a_freed_read_says : AloneSays lane (Read c) Freed
a_freed_read_says = refl

an_unmade_read_says : AloneSays lane (Read a) Unmade
an_unmade_read_says = refl

a_write_says : AloneSays loose (Write b 1 (9 ∷ [])) (Version 4)
a_write_says = refl

a_write_past_the_end_says : AloneSays loose (Write b 2 (9 ∷ [])) (Range 2)
a_write_past_the_end_says = refl

a_pinned_write_says : AloneSays lane (Write b 1 (9 ∷ [])) (Pinned 2)
a_pinned_write_says = refl

a_pinned_write_tells_all_pins : AloneSays lane (Write b 1 (9 ∷ [])) (Pinned 3) → ⊥
a_pinned_write_tells_all_pins says = absurd cc

range_before_pinned : AloneSays lane (Write b 2 (9 ∷ [])) (Range 2)
range_before_pinned = refl

pinned_before_range : AloneSays lane (Write b 2 (9 ∷ [])) (Pinned 2) → ⊥
pinned_before_range says = absurd cc

a_freed_write_says : AloneSays lane (Write c 0 []) Freed
a_freed_write_says = refl

a_free_says : AloneSays loose (Free b) (Version 4)
a_free_says = refl

a_pinned_free_says : AloneSays lane (Free b) (Pinned 2)
a_pinned_free_says = refl

a_second_free_says : AloneSays lane (Free c) Freed
a_second_free_says = refl

a_pin_says : AloneSays lane (Pin b) (Version 3)
a_pin_says = refl

a_freed_pin_says : AloneSays lane (Pin c) Freed
a_freed_pin_says = refl

a_full_scope_says : AloneSays full (Pin b) ScopeFull
a_full_scope_says = refl

full_before_freed : AloneSays full (Pin c) ScopeFull
full_before_freed = refl

freed_before_full : AloneSays full (Pin c) Freed → ⊥
freed_before_full says = absurd cc

unmade_before_full : AloneSays full (Pin a) Unmade
unmade_before_full = refl

a_peek_says : AloneSays lane (Peek b) (Bytes 3 (7 ∷ 8 ∷ []))
a_peek_says = refl

a_peek_without_a_pin_says : AloneSays loose (Peek b) NotPinned
a_peek_without_a_pin_says = refl

a_freed_peek_says : AloneSays lane (Peek c) NotPinned
a_freed_peek_says = refl

an_unmade_peek_says : AloneSays lane (Peek a) Unmade
an_unmade_peek_says = refl

an_unpin_says : AloneSays lane (Unpin b) Done
an_unpin_says = refl

an_unpin_without_a_pin_says : AloneSays loose (Unpin b) NotPinned
an_unpin_without_a_pin_says = refl

an_unmade_unpin_says : AloneSays lane (Unpin a) Unmade
an_unmade_unpin_says = refl

-- ---- and what it has afterwards

a_write_moves_it : now_named b (alone_after loose (Write b 1 (9 ∷ [])) (Version 4)).objects
    ≡ Some (has.Held 4 (7 ∷ 9 ∷ []))
a_write_moves_it = refl

a_refused_write_does_not : now_named b (alone_after lane (Write b 1 (9 ∷ [])) (Pinned 2)).objects
    ≡ Some (has.Held 3 (7 ∷ 8 ∷ []))
a_refused_write_does_not = refl

a_free_moves_it : now_named b (alone_after loose (Free b) (Version 4)).objects ≡ Some (has.Freed 4)
a_free_moves_it = refl

a_pin_comes : (alone_after lane (Pin b) (Version 3)).scope ≡ replicate 3 (on b 3)
a_pin_comes = refl

an_unpin_gives_one_back : (alone_after lane (Unpin b) Done).scope ≡ on b 3 ∷ []
an_unpin_gives_one_back = refl

a_leave_gives_all_back : alone_after lane Leave (Left 2) ≡ loose
a_leave_gives_all_back = refl

-- ---- the answers to a lane's own lines

-- lane 1 makes b, lane 2 writes a, lane 1 pins b, is refused a write, reads a, leaves, writes b
abbrev answers : List Answer
answers = lane_answer 1 (Make b (2 ∷ [])) (made 1) ∷ lane_answer 2 (Write a 0 (5 ∷ []))
    (Version 2) ∷ lane_answer 1 (Pin b) (Version 1)
    ∷ lane_answer 1 (Write b 0 (4 ∷ [])) (Pinned 1) ∷ lane_answer 1 (Read a)
    (Bytes 2 (5 ∷ [])) ∷ lane_answer 1 Leave (Left 1)
    ∷ lane_answer 1 (Write b 0 (4 ∷ [])) (Version 2) ∷ []

kept : KeepAlone lines 1 fresh_lane answers
kept = (
  λ e. (record { n = 1 }, refl),
  (
    λ e. absurd cc,
    (
      λ e. refl,
      (
        λ e. refl,
        (
          λ e. absurd cc,
          (
            λ e. absurd cc,
            (λ e. refl, tt),
          ),
        ),
      ),
    ),
  ),
)

-- a write behind a leave that is still answered pinned
a_scope_that_keeps_what_was_given_back : KeepAlone lines 1 fresh_lane
    (lane_answer 1 (Make b (2 ∷ [])) (made 1)
    ∷ lane_answer 1 (Pin b) (Version 1) ∷ lane_answer 1 Leave (Left 1) ∷ lane_answer 1
    (Write b 0 (4 ∷ [])) (Pinned 1) ∷ []) → ⊥
a_scope_that_keeps_what_was_given_back are = absurd (let e = are.1.1.1.0 refl in cc)

-- a read that shows what another lane wrote
another_lane_has_a_part : KeepAlone lines 1 fresh_lane (lane_answer 1 (Make b (2 ∷ [])) (made 1)
    ∷ lane_answer 2 (Write b 0 (4 ∷ [])) (Version 2) ∷ lane_answer 1 (Read b) (Bytes 2 (4 ∷ [])) ∷
    []) → ⊥
another_lane_has_a_part are = absurd (let e = are.1.1.0 refl in cc)

-- ---- calm replies

calm : IsCalmReply (Pinned 2)
calm = tt

no_room : IsCalmReply (NoRoom 8 1 2) → ⊥
no_room is = is

unavailable : IsCalmReply (Unavailable (record { n = 0 }) []) → ⊥
unavailable is = is

full_handles : IsCalmReply (Full 3) → ⊥
full_handles is = is

worn : IsCalmReply Worn → ⊥
worn is = is

moving : IsCalmReply Moving → ⊥
moving is = is
