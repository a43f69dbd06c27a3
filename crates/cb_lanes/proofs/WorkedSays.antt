-- Worked examples of the parts by which a scope, a map of names and a pass say what a lane is
-- answered: what meets each definition, and what breaks one part alone.
use Rattle.std.proofs.Common.{◌≡◌, ℕ, true, false, List, [], ◌∷◌, Some, None, refl, ap, arith}
use Rattle.std.proofs.lemmas.Bool.{eqb-false}
use Rattle.cb_types.specs.declared.request.Request.{Request}
use Rattle.cb_types.specs.declared.request.Request.TheVariants.{Make, Read, Write, Free, Pin, Peek}
use Rattle.cb_types.specs.declared.request.Request.TheVariants.{Unpin, Filter, Leave, Evict}
use Rattle.cb_types.specs.declared.reply.Reply.TheVariants.{Made, Version, Bytes, Done, Left}
use Rattle.cb_types.specs.declared.reply.Reply.TheVariants.{Unmade, Freed, Range, Pinned, ScopeFull}
use Rattle.cb_types.specs.declared.reply.Reply.TheVariants.{NotPinned}
use Rattle.cb_model.specs.declared.object.Object.TheVariants as has
use Rattle.cb_model.specs.Now.{MapNow}
use Rattle.cb_script.specs.declared.script.Line.{Line}
use Rattle.cb_lanes.specs.Alone.{LaneState, NamedNow, alone_more, change_alone, free_alone}
use Rattle.cb_lanes.specs.Alone.{is_leave, is_maker, is_maker_of, makes_named, named_objects_after}
use Rattle.cb_lanes.specs.Alone.{now_after, own_name, peek_alone, pin_alone, pin_object}
use Rattle.cb_lanes.specs.Alone.{pins_shared, read_alone, unpin_alone, write_alone}
use Rattle.cb_lanes.specs.Bodies.{KnowsHandle, handle_number}
use Rattle.cb_lanes.specs.LinesLeft.{lanes_of}
use Rattle.cb_lanes.specs.Names.{IsOnObject}
use Rattle.cb_lanes.specs.Passing.{mark_in, mark_of, marks_of}
use Rattle.cb_lanes.specs.Scopes.{CallSays, KeepScopes, PeekSays, ScopeSays, UnmadeSays, UnpinSays}
use Rattle.cb_lanes.specs.Scopes.{scope_more}
use Rattle.cb_lanes.proofs.WorkedBodies.{knows_no_other, knows_one, part}
use Rattle.cb_lanes.proofs.WorkedPassing.{kept, newer, older}
use Rattle.cb_lanes.proofs.WorkedPins.{a, b, by, c, full, on, three}

-- ---- a lane's scope after one more answer
own_answers_count : scope_more 1 three (by 1 (Unpin b) Done) ≡ on a 2 ∷ on a 1 ∷ []
own_answers_count = refl

others_answers_do_not : scope_more 2 three (by 1 (Unpin b) Done) ≡ three
others_answers_do_not = refl

-- ---- a peek and an unpin, by the newest pin on the name
peek_with_a_pin : PeekSays (Some 2) (Bytes 2 (7 ∷ []))
peek_with_a_pin = (7 ∷ [], refl)

peek_of_another_version : PeekSays (Some 2) (Bytes 1 (7 ∷ [])) → ⊥
peek_of_another_version says = absurd (let e = says.1 in cc)

peek_without_a_pin : PeekSays None NotPinned
peek_without_a_pin = refl

peek_of_no_pin : PeekSays None (Bytes 2 (7 ∷ [])) → ⊥
peek_of_no_pin says = absurd cc

unpin_with_a_pin : UnpinSays (Some 2) Done
unpin_with_a_pin = refl

unpin_is_not_refused : UnpinSays (Some 2) NotPinned → ⊥
unpin_is_not_refused says = absurd cc

unpin_without_a_pin : UnpinSays None NotPinned
unpin_without_a_pin = refl

unpin_of_no_pin : UnpinSays None Done → ⊥
unpin_of_no_pin says = absurd cc

-- ---- a line on a name with a handle
full_is_said : CallSays full (Pin b) ScopeFull
full_is_said = (λ e. refl, λ e. refl)

full_is_said_of_16 : CallSays three (Pin b) ScopeFull → ⊥
full_is_said_of_16 says = omega (arith, says.0 refl)

sixteen_are_full : CallSays full (Pin b) (Version 3) → ⊥
sixteen_are_full says = absurd (let e : Version 3 ≡ ScopeFull = says.1 refl in cc)

peeks_are_said : CallSays three (Peek a) (Bytes 2 (7 ∷ []))
peeks_are_said = (7 ∷ [], refl)

peeks_are_not_refused : CallSays three (Peek a) NotPinned → ⊥
peeks_are_not_refused says = absurd (let e = says.1 in cc)

unpins_are_said : CallSays three (Unpin c) NotPinned
unpins_are_said = refl

unpins_are_not_done : CallSays three (Unpin c) Done → ⊥
unpins_are_not_done says = absurd cc

-- by which pins a write, a free and a filter are held up
writes_are_held_up : CallSays three (Write a 0 []) (Pinned 1) → ⊥
writes_are_held_up says = omega (arith, (says 1 refl).1)

frees_are_held_up : CallSays three (Free a) (Pinned 1) → ⊥
frees_are_held_up says = omega (arith, (says 1 refl).1)

filters_are_held_up : CallSays three (Filter a) (Pinned 1) → ⊥
filters_are_held_up says = omega (arith, (says 1 refl).1)

-- ---- a name without a handle
unmade_is_said : UnmadeSays (Pin a) Unmade × UnmadeSays (Peek a) Unmade
    × UnmadeSays (Unpin a) Unmade
unmade_is_said = (refl, refl, refl)

unmade_before_full : UnmadeSays (Pin a) ScopeFull → ⊥
unmade_before_full says = absurd cc

unmade_before_not_pinned : UnmadeSays (Peek a) NotPinned → ⊥
unmade_before_not_pinned says = absurd cc

unmade_before_done : UnmadeSays (Unpin a) Done → ⊥
unmade_before_done says = absurd cc

of_reads_nothing_is_said : UnmadeSays (Read a) Freed
of_reads_nothing_is_said = tt

-- ---- whichever of these says it
leave_is_told : ScopeSays None three Leave (Left 3)
leave_is_told = refl

leave_tells_too_few : ScopeSays (Some 0) three Leave (Left 2) → ⊥
leave_tells_too_few says = absurd cc

no_handle_is_told : ScopeSays None full (Pin a) Unmade
no_handle_is_told = refl

no_handle_is_not_full : ScopeSays None full (Pin a) ScopeFull → ⊥
no_handle_is_not_full says = absurd cc

handle_is_told : ScopeSays (Some 0) full (Pin a) ScopeFull
handle_is_told = (λ e. refl, λ e. refl)

handle_is_full : ScopeSays (Some 0) full (Pin a) (Version 3) → ⊥
handle_is_full says = absurd (let e : Version 3 ≡ ScopeFull = says.1 refl in cc)

-- ---- answers, one after the other
-- behind a pin a write tells no pin
calls_are_kept_too : KeepScopes (by 1 (Make a (7 ∷ [])) (Made (record { n = 0 }) 1)
    ∷ by 1 (Pin a) (Version 1) ∷ []) (by 1 (Write a 0 []) (Pinned 0) ∷ []) → ⊥
calls_are_kept_too keep = omega (arith, (keep.0 0 refl).0)

-- ---- whose lines they are
abbrev line : ℕ → Request → Line
line lane request = record { lane = record { n = lane }; line = 2; request = request }

-- lane 0 makes a, and lane 1 makes b
abbrev lines : List Line
lines = line 0 (Make a (1 ∷ [])) ∷ line 1 (Make b (2 ∷ [])) ∷ []

lanes_in_order : lanes_of lines ≡ 0 ∷ 1 ∷ []
lanes_in_order = refl

makes_a : (makes_named a (Make a (1 ∷ [])) ≡ true) × (makes_named b (Make a (1 ∷ [])) ≡ false)
    × (makes_named a (Read a) ≡ false)
makes_a = (refl, refl, refl)

makers : (is_maker lines 1 b ≡ true) × (is_maker lines 1 a ≡ false)
    × (is_maker_of lines 1 (Some b) ≡ true) × (is_maker_of lines 1 None ≡ false)
makers = (refl, refl, refl, refl)

own_names : (own_name (Read b) ≡ Some b) × (own_name (Filter b) ≡ None)
    × (own_name Evict ≡ None)
own_names = (refl, refl, refl)

leave_lines : (is_leave Leave ≡ true) × (is_leave (Unpin b) ≡ false)
leave_lines = (refl, refl)

shared_pins : (pins_shared lines (Pin a) ≡ true) × (pins_shared lines (Pin b) ≡ false)
    × (pins_shared lines (Read a) ≡ false)
shared_pins = (refl, refl, refl)

-- ---- what the map has under a name, and what each line on it is answered
abbrev held : MapNow
held = Some (has.Held 3 (7 ∷ 8 ∷ []))

abbrev freed : MapNow
freed = Some (has.Freed 4)

after_lines : (now_after held (Free b) (Version 4) ≡ freed)
    × (now_after held (Free b) (Pinned 1) ≡ held)
    × (now_after held (Write b 1 (9 ∷ [])) (Version 4) ≡ Some (has.Held 4 (7 ∷ 9 ∷ [])))
after_lines = (refl, refl, refl)

abbrev objects : List NamedNow
objects = record { name = b; now = held } ∷ []

objects_in_front : named_objects_after objects (Some b) (Free b) (Version 4)
    ≡ record { name = b; now = freed } ∷ objects
objects_in_front = refl

objects_stay : named_objects_after objects None Evict Done ≡ objects
objects_stay = refl

reads : (read_alone held ≡ Bytes 3 (7 ∷ 8 ∷ [])) × (read_alone freed ≡ Freed)
    × (read_alone None ≡ Unmade)
reads = (refl, refl, refl)

changes : (change_alone 3 0 ≡ Version 4) × (change_alone 3 2 ≡ Pinned 2)
changes = (refl, refl)

writes : (write_alone held 0 1 1 ≡ Version 4) × (write_alone held 2 1 1 ≡ Pinned 2)
    × (write_alone held 2 2 1 ≡ Range 2) × (write_alone freed 0 0 0 ≡ Freed)
    × (write_alone None 0 0 0 ≡ Unmade)
writes = (refl, refl, refl, refl, refl)

frees : (free_alone held 0 ≡ Version 4) × (free_alone held 2 ≡ Pinned 2)
    × (free_alone freed 0 ≡ Freed) × (free_alone None 0 ≡ Unmade)
frees = (refl, refl, refl, refl)

pins : (pin_object (has.Held 3 []) ≡ Version 3) × (pin_object (has.Freed 4) ≡ Freed)
    × (pin_alone held 15 ≡ Version 3) × (pin_alone freed 16 ≡ ScopeFull)
    × (pin_alone None 16 ≡ Unmade)
pins = (refl, refl, refl, refl, refl)

-- the bytes that are there, at the version of the pin
peeks : (peek_alone held (Some 3) ≡ Bytes 3 (7 ∷ 8 ∷ [])) × (peek_alone held None ≡ NotPinned)
    × (peek_alone freed (Some 3) ≡ NotPinned) × (peek_alone None (Some 3) ≡ Unmade)
peeks = (refl, refl, refl, refl)

unpins : (unpin_alone held (Some 3) ≡ Done) × (unpin_alone held None ≡ NotPinned)
    × (unpin_alone None (Some 3) ≡ Unmade)
unpins = (refl, refl, refl)

-- own lines and leaves move a lane, and no other line does
abbrev pinning : LaneState
pinning = record { objects = objects; scope = three }

own_line_moves : (alone_more lines 1 pinning (by 1 (Unpin b) Done)).scope ≡ on a 2 ∷ on a 1 ∷ []
own_line_moves = refl

leave_moves : (alone_more lines 1 pinning (by 1 Leave (Left 3))).scope ≡ []
leave_moves = refl

other_line_stays : alone_more lines 1 pinning (by 1 (Pin a) (Version 1)) ≡ pinning
other_line_stays = refl

-- ---- requests on objects
on_objects : IsOnObject (Read a) × IsOnObject (Write a 0 []) × IsOnObject (Free a)
    × IsOnObject (Pin a) × IsOnObject (Peek a) × IsOnObject (Unpin a) × IsOnObject (Filter a)
on_objects = (tt, tt, tt, tt, tt, tt, tt)

not_on_objects : (IsOnObject (Make a []) → ⊥) × (IsOnObject Leave → ⊥) × (IsOnObject Evict → ⊥)
not_on_objects = (λ is. is, λ is. is, λ is. is)

-- ---- pins that are kept, as marks
same_marks : marks_of (kept newer ∷ kept older ∷ []) ≡ mark_in newer ∷ mark_in older ∷ []
same_marks = refl

other_mark : mark_of (kept newer) ≡ mark_in older → ⊥
other_mark e = eqb-false 1 0 refl (ap (λ m. m.handle) e)

-- ---- handles that are known to a record
numbers : (handle_number (Some (record { n = 3 })) ≡ Some 3) × (handle_number None ≡ None)
numbers = (refl, refl)

knows_none : KnowsHandle part None
knows_none = tt

knows_the_one : KnowsHandle part (Some (record { n = 1 }))
knows_the_one = knows_one

knows_not_another : KnowsHandle part (Some (record { n = 0 })) → ⊥
knows_not_another k = knows_no_other (eqb-false 1 0 refl) k
