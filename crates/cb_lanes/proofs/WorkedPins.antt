-- Worked examples: scopes of lanes, what they say of answers, and pins that are given back.
use Rattle.std.proofs.Common.{◌≡◌, ℕ, zero, suc, List, [], ◌∷◌, length, replicate, Some, None, refl}
use Rattle.std.proofs.Common.{ap, lit<, arith, inl, inr}
use Rattle.std.specs.Prelude.{slice_get}
use Rattle.std.proofs.lemmas.List.Edits.{length-remove}
use Rattle.std.proofs.lemmas.Option.{slice_get_within}
use Rattle.cb_types.specs.declared.answer.Answer.{Answer}
use Rattle.cb_types.specs.declared.config.Config.{Config}
use Rattle.cb_types.specs.declared.request.Request.{Request}
use Rattle.cb_types.specs.declared.request.Request.TheVariants.{Make, Write, Free, Pin, Peek, Unpin}
use Rattle.cb_types.specs.declared.request.Request.TheVariants.{Filter, Leave}
use Rattle.cb_types.specs.declared.reply.Reply.{Reply}
use Rattle.cb_types.specs.declared.reply.Reply.TheVariants.{Made, Version, Bytes, Done, Left, Same}
use Rattle.cb_types.specs.declared.reply.Reply.TheVariants.{Unmade, Freed, Pinned, ScopeFull}
use Rattle.cb_types.specs.declared.reply.Reply.TheVariants.{NotPinned, NotHere, NoRoom, Stays}
use Rattle.cb_types.specs.declared.reply.Reply.TheVariants.{Swapped}
use Rattle.cb_ptr.specs.Word.{len_of, state_number}
use Rattle.cb_world.specs.declared.seats.SeatPin.{SeatPin}
use Rattle.cb_world.specs.Memory.{bytes_in}
use Rattle.cb_world.specs.Seats.{SeatState, IsNewestOf, pins_of_seat, with_pins}
use Rattle.cb_world.specs.StillWords.{contents_at}
use Rattle.cb_world.specs.World.{WorldState, empty_world, word_at}
use Rattle.cb_core.specs.declared.event.Atomic.TheVariants as atomic
use Rattle.cb_core.specs.declared.event.Event.TheVariants as event
use Rattle.cb_core.specs.OnceHere.{IsThere}
use Rattle.cb_core.specs.Pinning.{not_pinned as unpin_refused, given}
use Rattle.cb_lanes.specs.GivingBack.{unpin_event, GivesAll, lines_by, Rests}
use Rattle.cb_lanes.specs.declared.side.Side.TheVariants.{Nodes}
use Rattle.cb_lanes.specs.LineStep.{not_pinned, shown, CallStep, LineStep, PinEvent}
use Rattle.cb_lanes.specs.LineStep.{SwapEvent, IsFarToPin, PinLine, at_once, stays_far, swapped_in}
use Rattle.cb_lanes.specs.LinesLeft.{AreLanes, AreLeft}
use Rattle.cb_lanes.specs.Scopes.{NamedPin, Scope, newest_on, without_newest, named_on, scope_after}
use Rattle.cb_lanes.specs.Scopes.{scope_of, PinnedSays, ScopeSays, KeepScopes}

-- ---- scopes

abbrev pub a : List ℕ
a = 97 ∷ []

abbrev pub b : List ℕ
b = 98 ∷ []

abbrev pub c : List ℕ
c = 99 ∷ []

abbrev pub on : List ℕ → ℕ → NamedPin
on name version = record { name = name; version = version }

-- a pinned at version 1, then b at 5, then a again, at 2
abbrev pub three : Scope
three = on a 2 ∷ on b 5 ∷ on a 1 ∷ []

the_newest_counts : newest_on a three ≡ Some 2
the_newest_counts = refl

none_on_another_name : newest_on c three ≡ None
none_on_another_name = refl

the_newest_goes : without_newest a three ≡ on b 5 ∷ on a 1 ∷ []
the_newest_goes = refl

others_stay : without_newest b three ≡ on a 2 ∷ on a 1 ∷ []
others_stay = refl

nothing_goes : without_newest c three ≡ three
nothing_goes = refl

two_on_a : named_on a three ≡ 2
two_on_a = refl

a_pin_comes : scope_after three (Pin c) (Version 4) ≡ on c 4 ∷ three
a_pin_comes = refl

a_refused_pin_stays_away : scope_after three (Pin c) Freed ≡ three
a_refused_pin_stays_away = refl

an_unpin_takes_the_newest : scope_after three (Unpin a) Done ≡ on b 5 ∷ on a 1 ∷ []
an_unpin_takes_the_newest = refl

a_refused_unpin_takes_none : scope_after three (Unpin c) NotPinned ≡ three
a_refused_unpin_takes_none = refl

a_leave_takes_all : scope_after three Leave (Left 3) ≡ []
a_leave_takes_all = refl

a_peek_takes_none : scope_after three (Peek a) (Bytes 2 (7 ∷ [])) ≡ three
a_peek_takes_none = refl

abbrev pub by : ℕ → Request → Reply → Answer
by lane request reply = record
    { lane = record { n = lane }; line = 2; request = request; reply = reply }

abbrev two_lanes : List Answer
two_lanes = by 1 (Pin a) (Version 1) ∷ by 2 (Pin a) (Version 1) ∷ by 1 (Pin b) (Version 5) ∷ by 1
    (Unpin a) Done ∷ []

own_pins_alone : scope_of 1 two_lanes ≡ on b 5 ∷ []
own_pins_alone = refl

the_others_pins : scope_of 2 two_lanes ≡ on a 1 ∷ []
the_others_pins = refl

-- ---- what a scope says of an answer

abbrev pub full : Scope
full = replicate 16 (on a 1)

full_is_told : ScopeSays (Some 0) full (Pin b) ScopeFull
full_is_told = (λ e. refl, λ e. refl)

full_must_be_told : ScopeSays (Some 0) full (Pin b) (Version 3) → ⊥
full_must_be_told says = absurd (let e : Version 3 ≡ ScopeFull = says.1 refl in cc)

full_is_told_of_16_alone : ScopeSays (Some 0) three (Pin b) ScopeFull → ⊥
full_is_told_of_16_alone says = omega (arith, says.0 refl)

unmade_before_full : ScopeSays None full (Pin b) Unmade
unmade_before_full = refl

unmade_must_be_told : ScopeSays None full (Pin b) ScopeFull → ⊥
unmade_must_be_told says = absurd cc

a_peek : ScopeSays (Some 0) three (Peek a) (Bytes 2 (7 ∷ []))
a_peek = (7 ∷ [], refl)

a_peek_of_the_oldest : ScopeSays (Some 0) three (Peek a) (Bytes 1 (7 ∷ [])) → ⊥
a_peek_of_the_oldest says = absurd (let e = says.1 in cc)

a_peek_must_be_shown : ScopeSays (Some 0) three (Peek a) NotPinned → ⊥
a_peek_must_be_shown says = absurd (let e = says.1 in cc)

a_peek_without_a_pin : ScopeSays (Some 0) three (Peek c) NotPinned
a_peek_without_a_pin = refl

nothing_is_shown_without_a_pin : ScopeSays (Some 0) three (Peek c) (Bytes 1 (7 ∷ [])) → ⊥
nothing_is_shown_without_a_pin says = absurd cc

a_peek_of_an_unmade_name : ScopeSays None three (Peek c) NotPinned → ⊥
a_peek_of_an_unmade_name says = absurd cc

an_unpin : ScopeSays (Some 0) three (Unpin b) Done
an_unpin = refl

an_unpin_must_be_done : ScopeSays (Some 0) three (Unpin b) NotPinned → ⊥
an_unpin_must_be_done says = absurd cc

an_unpin_without_a_pin : ScopeSays (Some 0) three (Unpin c) NotPinned
an_unpin_without_a_pin = refl

an_unpin_of_nothing : ScopeSays (Some 0) three (Unpin c) Done → ⊥
an_unpin_of_nothing says = absurd cc

an_unpin_of_an_unmade_name : ScopeSays None three (Unpin c) NotPinned → ⊥
an_unpin_of_an_unmade_name says = absurd cc

all_are_told : ScopeSays None three Leave (Left 3)
all_are_told = refl

one_is_kept : ScopeSays None three Leave (Left 2) → ⊥
one_is_kept says = absurd cc

three_pins_two_of_them_own : PinnedSays 2 (Pinned 3)
three_pins_two_of_them_own = λ count e. let same : 3 ≡ count =
    cc in (omega (arith, same), omega (arith, same))

fewer_than_the_own : PinnedSays 2 (Pinned 1) → ⊥
fewer_than_the_own says = omega (arith, (says 1 refl).1)

pinned_by_none : PinnedSays 0 (Pinned 0) → ⊥
pinned_by_none says = omega (arith, (says 0 refl).0)

a_filter_that_is_done : ScopeSays (Some 0) three (Filter a) Same
a_filter_that_is_done = λ count e. absurd cc

a_filter_tells_fewer : ScopeSays (Some 0) three (Filter a) (Pinned 1) → ⊥
a_filter_tells_fewer says = omega (arith, (says 1 refl).1)

a_write_is_held_up : ScopeSays (Some 0) three (Write a 0 (7 ∷ [])) (Pinned 2)
a_write_is_held_up = λ count e. let same : 2 ≡ count =
    cc in (omega (arith, same), omega (arith, same))

a_write_tells_fewer : ScopeSays (Some 0) three (Write a 0 (7 ∷ [])) (Pinned 1) → ⊥
a_write_tells_fewer says = omega (arith, (says 1 refl).1)

a_free_is_held_up : ScopeSays (Some 0) three (Free a) (Pinned 2)
a_free_is_held_up = λ count e. let same : 2 ≡ count =
    cc in (omega (arith, same), omega (arith, same))

a_free_tells_fewer : ScopeSays (Some 0) three (Free a) (Pinned 1) → ⊥
a_free_tells_fewer says = omega (arith, (says 1 refl).1)

a_filter_tells_none : ScopeSays (Some 0) three (Filter c) (Pinned 0) → ⊥
a_filter_tells_none says = omega (arith, (says 0 refl).0)

-- a run of one lane, line by line
abbrev pub run : ℕ → List Answer
run left = by 1 (Make a (7 ∷ [])) (Made (record { n = 0 }) 1) ∷ by 1 (Pin a) (Version 1)
    ∷ by 1 (Peek a) (Bytes 1 (7 ∷ [])) ∷ by 1 Leave (Left left) ∷ []

run_keeps : KeepScopes [] (run 1)
run_keeps = (
  tt,
  (
    (
      λ e. absurd (let f : Version 1 ≡ ScopeFull = e in cc),
      λ e. absurd (let f : ◌≡◌ {A = ℕ} 0 16 = e in omega (arith, f)),
    ),
    ((7 ∷ [], refl), (refl, tt)),
  ),
)

run_tells_too_many : KeepScopes [] (run 2) → ⊥
run_tells_too_many keep = absurd (let e : Left 2 ≡ Left 1 = keep.1.1.1.0 in cc)

-- ---- giving back

lanes_with_two_lines : lines_by 1 (1 ∷ 2 ∷ 1 ∷ []) ≡ 2
lanes_with_two_lines = refl

abbrev small : Config
small = record { k = 2; r = 2; nodes = 4; frames = 2; room = 2; handles = 2; turns = 0 }

abbrev pin : SeatPin
pin = record { handle = 0; version = 7 }

-- the lane 1 has one pin
abbrev held : WorldState
held = record (empty_world small) { seats = with_pins (empty_world small).seats 1 (pin ∷ []) }

the_end_of_a_pin : unpin_event 1 pin ≡ event.Step 1 (atomic.Unpin (record { n = 0 }))
the_end_of_a_pin = refl

a_lane_without_pins_gives_none : GivesAll 2 held held
a_lane_without_pins_gives_none = refl

a_pin_is_not_kept : GivesAll 1 held held → ⊥
a_pin_is_not_kept (mid, unpin_refused none is same, e) = absurd cc
a_pin_is_not_kept (mid, given is t, e) =
    let kept = ap (λ (v : WorldState). length (pins_of_seat v.seats 1)) e in
    let less = ap (λ (xs : List SeatState). length (pins_of_seat xs 1)) t.pins in
    let one = length-remove (pin ∷ []) t.at
    (slice_get_within (pin ∷ []) t.at t.newest.pin t.newest.there) in
    omega (arith, kept, less, one)

all_stays_before_the_last_line : Rests 1 1 held held
all_stays_before_the_last_line = refl

pins_end_with_the_last_line : Rests 0 1 held held → ⊥
pins_end_with_the_last_line is = a_pin_is_not_kept is

-- a leave of a lane with a pin, which tells two
a_leave_tells_the_pins : LineStep Nodes 1 None Leave held (Left 2) held → ⊥
a_leave_tells_the_pins step = absurd (let e = step.0 in cc)

nothing_left : AreLeft [] (replicate 16 0) → AreLeft (3 ∷ []) (replicate 16 0) → ⊥
nothing_left none one = omega (arith, one.counts 3 (omega arith))

too_short : AreLeft [] (replicate 15 0) → ⊥
too_short left = omega (arith, left.sized)

a_lane_16 : AreLanes (16 ∷ []) → ⊥
a_lane_16 lanes = omega (arith, lanes.0)

-- ---- a peek

abbrev bytes : List ℕ
bytes = bytes_in (contents_at held.desk 0) (len_of (word_at held.desk 0))

abbrev newest : IsNewestOf (pin ∷ []) 0 0
newest = record {
  pin = pin;
  there = refl;
  on = refl;
  newest = λ later other lt there. absurd
      (let within = slice_get_within (pin ∷ []) later other there in
      omega (arith, lt, within));
}

peek_is_shown : CallStep Nodes 1 0 (Peek a) held (Bytes 7 bytes) held
peek_is_shown = shown 0 newest refl refl

peek_at_another_version : CallStep Nodes 1 0 (Peek a) held (Bytes 6 bytes) held → ⊥
peek_at_another_version (not_pinned none is same) = absurd cc
peek_at_another_version (shown at n is same) =
    absurd (let seven : n.pin ≡ pin = only at n.pin n.there in
    let six : 6 ≡ n.pin.version = cc in omega (arith, six, ap (λ (p : SeatPin). p.version) seven))
  where
    only : (at : ℕ) (p : SeatPin) → slice_get (pin ∷ []) at ≡ Some p → p ≡ pin
    only zero p there = cc
    only (suc at) p there = absurd cc

peek_needs_a_pin : CallStep Nodes 2 0 (Peek a) held NotPinned held
peek_needs_a_pin = not_pinned (λ at p there. absurd cc) refl refl

-- ---- pins of objects that are not here

it_stays : IsThere Stays
it_stays = inl refl

it_came_in : IsThere (Swapped 3)
it_came_in = inr (3, refl)

without_room_it_is_not_there : IsThere (NoRoom 8 1 4) → ⊥
without_room_it_is_not_there (inl is) = cc
without_room_it_is_not_there (inr (frame, is)) = cc

-- a far object, and one that is here, and a lane with as many pins as it may have
abbrev with_word : ℕ → WorldState
with_word word = record (empty_world small) {
  desk = record (empty_world small).desk { words = word ∷ 0 ∷ [] };
}

abbrev with_all_pins : WorldState
with_all_pins = record (with_word 16385)
    { seats = with_pins (empty_world small).seats 1 (replicate 16 pin) }

far_to_be_pinned : IsFarToPin 1 0 (with_word 16385)
far_to_be_pinned = record { room = lit< tt; away = refl }

here_to_be_pinned : IsFarToPin 1 0 (with_word 16386) → ⊥
here_to_be_pinned is = let e : 2 ≡ 1 = ap state_number is.away in omega (arith, e)

no_more_to_be_pinned : IsFarToPin 1 0 with_all_pins → ⊥
no_more_to_be_pinned is = omega (arith, is.room)

-- an object that is here is pinned by the one step
pinned_at_once : (w new : WorldState) → PinEvent 1 4 w (Version 2) new
    → PinLine 1 4 w (Version 2) new
pinned_at_once w new pin = at_once pin (λ e. cc)

-- one that can't be swapped in is answered as the swap was
not_swapped_in : (w new : WorldState) → IsFarToPin 1 4 w → SwapEvent 1 4 w (NoRoom 8 1 4) new
    → PinLine 1 4 w (NoRoom 8 1 4) new
not_swapped_in w new away swap = stays_far away swap without_room_it_is_not_there

-- and one that came in is pinned then
pinned_once_here : (w m new : WorldState) → IsFarToPin 1 4 w → SwapEvent 1 4 w (Swapped 3) m
    → PinEvent 1 4 m (Version 2) new → PinLine 1 4 w (Version 2) new
pinned_once_here w m new away swap again = swapped_in m (Swapped 3) away swap it_came_in again

-- the refused pin of a far object is no line
a_line_of_no_event : (w : WorldState) → PinLine 1 4 w NotHere w → (IsFarToPin 1 4 w → ⊥) → ⊥
a_line_of_no_event w (at_once pin never) near = never refl
a_line_of_no_event w (stays_far away swap off) near = near away
a_line_of_no_event w (swapped_in m q away swap is again) near = near away
