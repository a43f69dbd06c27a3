-- Worked examples of turns, steps and events: what meets them, and what breaks one part.
use Rattle.std.proofs.Common.{◌≡◌, ℕ, zero, suc, ◌^◌, ◌≤◌, List, [], ◌∷◌, ◌++◌, Option, None, Some, length, replicate, get_or, unwrap_or, refl, ap, sym, ◌∙◌, subst, inl, inr, lit<, lit≤, arith}
use Rattle.std.specs.FinMap as map
use Rattle.cb_class.specs.Class.{IsClassOf, bytes_of}
use Rattle.cb_frame.specs.Runs.{least_run}
use Rattle.cb_member.specs.declared.names.NodeId.{NodeId}
use Rattle.cb_member.specs.Membership.{fresh_members}
use Rattle.cb_node.specs.NodesState.{empty_nodes, held, with_rows}
use Rattle.cb_span.specs.declared.temp.Temp.TheVariants.{Hot}
use Rattle.cb_types.specs.declared.handle.Handle.{Handle}
use Rattle.cb_types.specs.declared.handle.SetId.{SetId}
use Rattle.cb_types.specs.declared.job.Job.TheVariants.{Make, Read, Write, Free, Swap, Filter, Evict, Begin, Ship, Commit, Abort, Pair, Patch, Merge, Part, Compact, Rebuild, Crash, Join}
use Rattle.cb_types.specs.declared.reply.Reply.{Reply}
use Rattle.cb_types.specs.declared.reply.Reply.TheVariants as answer
use Rattle.cb_world.specs.Counts.{CountsState}
use Rattle.cb_world.specs.FarState.{FarState}
use Rattle.cb_world.specs.Placed.{HasRoom}
use Rattle.cb_world.specs.NodeChanges.{crashed_far}
use Rattle.cb_world.specs.Survey.{survey_after_crash}
use Rattle.cb_world.specs.Plain.{Words}
use Rattle.cb_world.specs.Seats.{SeatState, Holds}
use Rattle.cb_world.specs.World.{WorldState, word_at}
use Rattle.cb_mutate.specs.MakeRule.{HasNoPlace}
use Rattle.cb_mutate.specs.MakeStep.{IsMakeStep}
use Rattle.cb_evict.specs.EvictStep.{loose_frames, few_spans}
use Rattle.cb_evict.specs.Lengths.{batch_pages, most_loose}
use Rattle.cb_evict.proofs.Laws.{evict_made, longest_within}
use Rattle.cb_core.specs.declared.event.Atomic.TheVariants.{Load, Pin, Unpin, Claim, Store}
use Rattle.cb_core.specs.declared.event.Event.TheVariants as event
use Rattle.cb_core.specs.Events.{IsEvent}
use Rattle.cb_core.specs.Jobs.{IsJob}
use Rattle.cb_core.specs.Membership.{crashed, is_down}
use Rattle.cb_world.specs.Choices.{room_count}
use Rattle.cb_evict.specs.declared.eviction.Eviction.TheVariants.{Refused, Set}
use Rattle.cb_evict.specs.declared.eviction.Lack.{Lack}
use Rattle.cb_evict.specs.declared.eviction.Lack.TheVariants.{Spans}
use Rattle.cb_core.specs.Parts.{Holding, at_once, no_room as no_room_won, won, near, far as was_away, after as once_in}
use Rattle.cb_core.specs.Step.{StillEvict, StillRoom, TurnStep, worn, done, free, Step, Leads, EventStops, StillStops, TurnStops}
use Rattle.cb_core.proofs.Stopping.{stops_alone}
use Rattle.cb_core.proofs.WorkedPins.{settings, desk, calm, hot, pinned, pin_on, seat_with}
use Rattle.cb_core.proofs.WorkedRoom.{counts, far_of, first_down, one_small_page, span_with, two_open, words_are}

abbrev pub node : ℕ → NodeId
node n = record { n = n }

abbrev pub handle : ℕ → Handle
handle n = record { n = n }

-- two frames whose spans have object 0 and no room for a small one; both nodes are up; one of two
-- handles was made
abbrev pub far : CountsState → FarState
far c = far_of (span_with (Some 0) None) (span_with None None) None (fresh_members 2) c

-- node 0 crashed
abbrev pub far_down : CountsState → FarState
far_down c = record (far c) {
  nodes = with_rows (empty_nodes 2 4) (node 0) map.empty;
  members = first_down;
}

-- object 0 has this word at version 3, and two seats have these pins
abbrev pub world : FarState → ℕ → List SeatState → WorldState
world f word seats = record { desk = desk word 3; far = f; seats = seats }

abbrev pub idle : List SeatState
idle = seat_with [] ∷ seat_with [] ∷ []

-- by kinds: three reads; and a crash, which is of kind 17, or a join
abbrev pub three : CountsState
three = counts 3 (0 ∷ 3 ∷ replicate 17 0)

abbrev pub four : CountsState
four = counts 4 (0 ∷ 3 ∷ replicate 15 0 ++ 1 ∷ 0 ∷ [])

abbrev four_as_a_join : CountsState
four_as_a_join = counts 4 (0 ∷ 3 ∷ replicate 15 0 ++ 0 ∷ 1 ∷ [])

abbrev pub old : WorldState
old = world (far three) calm idle

-- ---- a turn
no_row : held (empty_nodes 2 4) (node 0) ≡ 0
no_row = grind (arith, map.gets)

pub crashed_down : crashed_far (far four) (node 0) ≡ far_down four
crashed_down =
    ap (λ (n : ℕ). record (far_down four) { survey = survey_after_crash (far four).survey n }) no_row

pub crash_turn : TurnStep (Crash (node 0)) old (answer.EpochAt (record { n = 1 }))
    (world (far_down four) calm idle)
crash_turn = done (lit< tt)
    (refl, crashed refl refl (sym crashed_down)) refl

-- what a crash's turn leaves below the last turn
record Counted (new : WorldState) : Type 0 where
  far : new.far.counts ≡ four
  desk : new.desk ≡ old.desk
  seats : new.seats ≡ old.seats

is_counted : (r : Reply) (new : WorldState) → TurnStep (Crash (node 0)) old r new → Counted new
is_counted r new (worn end reply same) = absurd (omega (arith, end))
is_counted r new (done few (words, crashed up reply state) seats) =
    record { far = ap (λ (f : FarState). f.counts) state; desk = words; seats = seats }
is_counted r new (done few (words, is_down down reply same) seats) =
    record { far = ap (λ (f : FarState). f.counts) same; desk = words; seats = seats }

not_counted : TurnStep (Crash (node 0)) old (answer.EpochAt (record { n = 1 }))
    (world (far_down three) calm idle) → ⊥
not_counted step = let e : 3 ≡ 4 =
    ap (λ (c : CountsState). c.turns) (is_counted _ _ step).far in omega (arith, e)

counted_as_another : TurnStep (Crash (node 0)) old (answer.EpochAt (record { n = 1 }))
    (world (far_down four_as_a_join) calm idle) → ⊥
counted_as_another step = let e : 0 ≡ 1 =
    ap (λ (c : CountsState). get_or c.by_job 17 0) (is_counted _ _ step).far in omega (arith, e)

crash_changes_a_word : TurnStep (Crash (node 0)) old (answer.EpochAt (record { n = 1 }))
    (world (far_down four) hot idle) → ⊥
crash_changes_a_word step = let e : 16390 ≡ 16386 =
    ap (λ (x : Words). get_or x.words 0 0) (is_counted _ _ step).desk in omega (arith, e)

turn_takes_a_pin : TurnStep (Crash (node 0)) old (answer.EpochAt (record { n = 1 }))
    (world (far_down four) calm (seat_with (pin_on 0 3 ∷ []) ∷ seat_with [] ∷ [])) → ⊥
turn_takes_a_pin step = let e : 1 ≡ 0 =
    ap (λ (s : List SeatState). length (get_or s 0 (seat_with [])).pins) (is_counted _ _ step).seats in
    omega (arith, e)

worn_too_early : TurnStep (Crash (node 0)) old answer.Worn old → ⊥
worn_too_early step = let e : 3 ≡ 4 =
    ap (λ (c : CountsState). c.turns) (is_counted _ _ step).far in omega (arith, e)

-- ---- the last turn
abbrev worn_counts : CountsState
worn_counts = counts (2 ^ 40) (0 ∷ 2 ^ 40 ∷ replicate 17 0)

abbrev worn_out : WorldState
worn_out = world (far worn_counts) calm idle

is_worn : TurnStep (Crash (node 0)) worn_out answer.Worn worn_out
is_worn = worn refl refl refl

-- where 2^40 turns were counted every turn is refused, and changes nothing
is_refused : (r : Reply) (new : WorldState) → TurnStep (Crash (node 0)) worn_out r new
    → (r ≡ answer.Worn) × (new ≡ worn_out)
is_refused r new (worn end reply same) = (reply, same)
is_refused r new (done few works seats) = absurd (omega (arith, few))

worn_and_crashes : TurnStep (Crash (node 0)) worn_out answer.Worn
    (world (far_down worn_counts) calm idle) → ⊥
worn_and_crashes step = let e : 1 ≡ 0 =
    ap (λ (w : WorldState). w.far.members.epoch) (is_refused _ _ step).1 in omega (arith, e)

worn_and_answers_down : TurnStep (Crash (node 0)) worn_out (answer.Down (node 0)) worn_out → ⊥
worn_and_answers_down step = let e = (is_refused _ _ step).0 in absurd cc

-- ---- a make that finds no frame, where no span can leave
-- each span has an object with a pin
abbrev crowd : CountsState → FarState
crowd c = far_of (span_with (Some 0) None) (span_with (Some 1) None) None (fresh_members 2) c

smallest : IsClassOf 1 (record { index = 0 })
unfolding bytes_of
smallest = record {
  in_table = lit< tt;
  holds = lit≤ tt;
  least = λ smaller less. absurd (omega (arith, less));
}

abbrev kind : Option ℕ → ℕ
kind found = unwrap_or found 1

-- the spans are of another class
no_span_has_room : (c : CountsState) (f : ℕ) → HasRoom (crowd c) (record { index = 0 }) Hot f → ⊥
no_span_has_room c zero room = let e : 22 ≡ 0 = ap kind room.0 in omega (arith, e)
no_span_has_room c (suc zero) room = let e : 22 ≡ 0 = ap kind room.0 in omega (arith, e)
no_span_has_room c (suc (suc f)) room = let e : 1 ≡ 0 = ap kind room.0 in omega (arith, e)

no_place : (c : CountsState) → HasNoPlace 1 (crowd c)
no_place c = (
  record { index = 0 },
  smallest,
  record { full = no_span_has_room c; taken = ap (least_run (crowd c).frames) one_small_page },
)

abbrev four_with_a_make : CountsState
four_with_a_make = counts 4 (1 ∷ 3 ∷ replicate 17 0)

abbrev crowded : CountsState → WorldState
crowded c = record { desk = words_are pinned pinned; far = crowd c; seats = idle }

-- the desk and the far state once the turn is counted
abbrev start : Holding Words
start = record { desk = words_are pinned pinned; far = crowd four_with_a_make }

no_spans : StillEvict start (answer.NoSpans 0) start
unfolding batch_pages most_loose
no_spans = (
  few_spans (record { few = refl; reply = refl; state = refl }) refl,
  λ s k. (s, k, (λ h. refl), (λ seats ongoing. ongoing), λ o kept. kept),
)

-- none of them is loose, and two nodes have room
none_told : StillRoom start (Refused Spans 0 2) start
unfolding most_loose
none_told = (record { step = no_spans.0; counts = (refl, sym two_open) }, no_spans.1)

no_room : TurnStep (Make (7 ∷ [])) (crowded three) (answer.NoRoom 2 0 2) (crowded four_with_a_make)
no_room = done (lit< tt) (no_room_won start Spans 0 2
    (inr (lit< tt, inl (no_place four_with_a_make, refl, refl, refl))) none_told refl) refl

no_frame_made : (h : Handle) (v : ℕ) → answer.NoFrame ≡ answer.Made h v → ⊥
no_frame_made h v e = cc

-- no set is made of spans that can't leave
no_set : (m n : Holding Words) (id : SetId) → m.desk ≡ start.desk → m.far ≡ start.far
    → StillRoom m (Set id) n → ⊥
no_set m n id words state (step, hold) =
    let made = evict_made m.desk n.desk m.far n.far (answer.Set id) id step.step refl in
    let few : 1 ≤ 0 = subst (λ (f : FarState). f.code.k ≤ length (loose_frames (words_are pinned pinned) f))
    state (subst (λ (x : Words). m.far.code.k ≤ length (loose_frames x m.far)) words
    (longest_within m.far.code.k m.far.spans (loose_frames m.desk m.far) made.pages made.longest)) in
    omega (arith, few)

not_after_a_set : (m n : Holding Words) (id : SetId)
    → IsMakeStep start.desk m.desk start.far m.far (7 ∷ []) answer.NoFrame
    → StillRoom m (Set id) n → ⊥
not_after_a_set m n id (inl (all, reply, words, state)) v = absurd (omega (arith, all))
not_after_a_set m n id (inr (more, inl (crammed, reply, words, state))) v =
    no_set m n id words state v
not_after_a_set m n id (inr (more, inr (reply, z))) v = no_frame_made _ _ reply

not_made : (q : Reply) → IsMakeStep start.desk start.desk start.far start.far (7 ∷ []) q
    → (q ≡ answer.NoFrame → ⊥) → ⊥
not_made q (inl (all, reply, words, state)) off = absurd (omega (arith, all))
not_made q (inr (more, inl (crammed, reply, words, state))) off = off reply
not_made q (inr (more, inr (reply, z))) off = absurd (let e : 1 ≡ 2 =
    ap (λ (f : FarState). f.made) z.state in omega (arith, e))

-- a refusal tells that no span is loose and that two nodes have room
none_counted : (m n : Holding Words) (why : Lack) (loose nodes : ℕ)
    → IsMakeStep start.desk m.desk start.far m.far (7 ∷ []) answer.NoFrame
    → StillRoom m (Refused why loose nodes) n → (loose ≡ 0) × (nodes ≡ 2)
unfolding most_loose
none_counted m n why loose nodes (inl (all, reply, words, state)) v = absurd (omega (arith, all))
none_counted m n why loose nodes (inr (more, inl (crammed, reply, words, state))) (step, hold) = (
  step.counts.0 ∙ ap (λ (x : Words). most_loose m.far.spans (loose_frames x m.far)) words
      ∙ ap (λ (f : FarState). most_loose f.spans (loose_frames (words_are pinned pinned) f)) state,
  step.counts.1 ∙ ap (λ (f : FarState). room_count f.nodes f.members) state ∙ two_open,
)
none_counted m n why loose nodes (inr (more, inr (reply, z))) v = absurd (no_frame_made _ _ reply)

-- where nothing was made, the reply is no room, with what the world counts
told_no_room : (r : Reply) → TurnStep (Make (7 ∷ [])) (crowded three) r (crowded four_with_a_make)
    → r ≡ answer.NoRoom 2 0 2
told_no_room r (worn end reply same) = absurd (omega (arith, end))
told_no_room r (done few (at_once o off) seats) = absurd (not_made r o off)
told_no_room r (done few (no_room_won m why loose nodes o v is) seats) =
    let z = none_counted m start why loose nodes o v in is ∙ (λ i. answer.NoRoom 2 (z.0 i) (z.1 i))
told_no_room r (done few (won m n id o v again) seats) = absurd (not_after_a_set m n id o v)

abbrev loose_of : Reply → ℕ
loose_of (answer.NoRoom frames loose nodes) = loose
loose_of r = 7

abbrev nodes_of : Reply → ℕ
nodes_of (answer.NoRoom frames loose nodes) = nodes
nodes_of r = 7

answers_no_frame : TurnStep (Make (7 ∷ [])) (crowded three) answer.NoFrame (crowded four_with_a_make)
    → ⊥
answers_no_frame step = let e : 7 ≡ 0 = ap loose_of (told_no_room _ step) in omega (arith, e)

counts_too_many :
    TurnStep (Make (7 ∷ [])) (crowded three) (answer.NoRoom 2 1 2) (crowded four_with_a_make) → ⊥
counts_too_many step = let e : 1 ≡ 0 = ap loose_of (told_no_room _ step) in omega (arith, e)

-- the nodes of another moment
counts_other_nodes :
    TurnStep (Make (7 ∷ [])) (crowded three) (answer.NoRoom 2 0 1) (crowded four_with_a_make) → ⊥
counts_other_nodes step = let e : 1 ≡ 2 = ap nodes_of (told_no_room _ step) in omega (arith, e)

-- ---- atomic steps
loads : Step old (event.Step 1 (Load (handle 0))) (answer.Word calm) old
loads = (refl, refl)

loads_another : Step old (event.Step 1 (Load (handle 1))) (answer.Word calm) old → ⊥
loads_another step = let e : 16386 ≡ 0 = ap word_of step.0 in omega (arith, e)
  where
    word_of : Reply → ℕ
    word_of (answer.Word w) = w
    word_of r = 0

loads_and_sees : Step old (event.Step 1 (Load (handle 0))) (answer.Word calm)
    (world (far three) hot idle) → ⊥
loads_and_sees step = let e : 16390 ≡ 16386 =
    ap (λ (w : WorldState). word_at w.desk 0) step.1 in omega (arith, e)

-- where no seat holds the far lock, a turn is that of every seat alike
pub nobody : (seat other : ℕ) → Holds idle other → other ≡ seat
nobody seat zero holds = absurd cc
nobody seat (suc zero) holds = absurd cc
nobody seat (suc (suc other)) holds = absurd cc

whose_turn : Step old (event.Turn 63 (Crash (node 0))) (answer.EpochAt (record { n = 1 }))
    (world (far_down four) calm idle)
whose_turn = free (nobody 63) crash_turn

-- ---- events in a row
nothing_happens : Leads old [] [] old
nothing_happens = refl

in_a_row : Leads old (event.Step 0 (Load (handle 0)) ∷ event.Turn 1 (Crash (node 0)) ∷ [])
    (answer.Word calm ∷ answer.EpochAt (record { n = 1 }) ∷ []) (world (far_down four) calm idle)
in_a_row = (old, loads, (world (far_down four) calm idle, free (nobody 1) crash_turn, refl))

a_reply_too_few : (new : WorldState)
    → Leads old (event.Step 0 (Load (handle 0)) ∷ []) [] new → ⊥
a_reply_too_few new none = none

-- ---- no memory
stops : EventStops old (event.Turn 0 (Crash (node 0))) (world (far four) calm idle)
stops = (nobody 0, inl (lit< tt, refl, (refl, (refl, refl))))

stops_and_crashes : EventStops old (event.Turn 0 (Crash (node 0))) (world (far_down four) calm idle)
    → ⊥
stops_and_crashes stopped =
    let alone = stops_alone (Crash (node 0)) old (world (far_down four) calm idle) 0 tt stopped in
    let e : 1 ≡ 0 = ap (λ (f : FarState). f.members.epoch) alone.2.1.0 in omega (arith, e)

stops_uncounted : EventStops old (event.Turn 0 (Crash (node 0))) old → ⊥
stops_uncounted stopped =
    let alone = stops_alone (Crash (node 0)) old old 0 tt stopped in
    let e : 3 ≡ 4 = ap (λ (f : FarState). f.counts.turns) alone.2.1.0 in omega (arith, e)

stops_and_takes_a_pin : EventStops old (event.Turn 0 (Crash (node 0)))
    (world (far four) calm (seat_with (pin_on 0 3 ∷ []) ∷ seat_with [] ∷ [])) → ⊥
stops_and_takes_a_pin stopped =
    let alone = stops_alone (Crash (node 0)) old
    (world (far four) calm (seat_with (pin_on 0 3 ∷ []) ∷ seat_with [] ∷ [])) 0 tt stopped in
    let e : 1 ≡ 0 =
    ap (λ (s : List SeatState). length (get_or s 0 (seat_with [])).pins) alone.1 in omega (arith, e)

-- the last turn was counted before
stops_too_late : (new : WorldState) → EventStops worn_out (event.Turn 0 (Crash (node 0))) new → ⊥
stops_too_late new stopped =
    let few = (stops_alone (Crash (node 0)) worn_out new 0 tt stopped).0 in omega (arith, few)

-- a crash of a node that is down, a free, a join and a write to an object that is here take no memory
down_and_stops : EventStops (world (far_down three) calm idle) (event.Turn 0 (Crash (node 0)))
    (world (far_down four) calm idle) → ⊥
down_and_stops stopped =
    let alone = stops_alone (Crash (node 0)) (world (far_down three) calm idle)
    (world (far_down four) calm idle) 0 tt stopped in absurd (let e = alone.2.1.1 in cc)

free_stops : (new : WorldState) → EventStops old (event.Turn 0 (Free (handle 0))) new → ⊥
free_stops new stopped = (stops_alone (Free (handle 0)) old new 0 tt stopped).2

join_stops : (new : WorldState) → EventStops old (event.Turn 0 (Join (node 0))) new → ⊥
join_stops new stopped = (stops_alone (Join (node 0)) old new 0 tt stopped).2.1

not_here_version : (v : ℕ) → answer.NotHere ≡ answer.Version v → ⊥
not_here_version v e = cc

write_stops : (new : WorldState) → EventStops old (event.Turn 0 (Write (handle 0) 1 [])) new → ⊥
write_stops new stopped = by (stops_alone (Write (handle 0) 1 []) old new 0 tt stopped)
  where
    by : TurnStops (Write (handle 0) 1 []) old new → ⊥
    by (few, seats, near none) = none
    by (few, seats, was_away m n o d lacks) = not_here_version 4 o.0.reply
    by (few, seats, once_in m n last f o d v lacks) = lacks

stops_at_a_step : (new : WorldState) → EventStops old (event.Step 0 (Load (handle 0))) new → ⊥
stops_at_a_step new stopped = stopped

-- a claim that found no memory changed nothing
claim_stops : EventStops old (event.Step 0 (Claim (handle 0) 0 [])) old
claim_stops = refl

claim_stops_and_counts : EventStops old (event.Step 0 (Claim (handle 0) 0 []))
    (world (far four) calm idle) → ⊥
claim_stops_and_counts same =
    let e : 4 ≡ 3 = ap (λ (v : WorldState). v.far.counts.turns) same in omega (arith, e)

store_stops : (new : WorldState) → EventStops old (event.Step 0 (Store (handle 0))) new → ⊥
store_stops new stops = stops

-- a read that found no memory for its reply leaves the hot bit as it was
abbrev holds : ℕ → ℕ → Holding Words
holds word version = record { desk = desk word version; far = far three }

stopped_read : StillStops (Read (handle 0)) (holds calm 3) (holds calm 3)
stopped_read = near (refl, refl)

-- ---- which events may come
last_seat : IsEvent settings (event.Step 63 (Pin (handle 1)))
last_seat = (lit< tt, lit< tt)

no_such_seat : IsEvent settings (event.Step 64 (Pin (handle 1))) → ⊥
no_such_seat e = let z = e.0 in omega (arith, z)

no_such_handle : IsEvent settings (event.Step 63 (Unpin (handle 2))) → ⊥
no_such_handle e = let z = e.1 in omega (arith, z)

one_byte : IsJob settings (Make (7 ∷ []))
one_byte = (lit≤ tt, lit≤ tt)

no_byte : IsJob settings (Make []) → ⊥
no_byte job = let z = job.0 in omega (arith, z)

too_many_bytes : (bytes : List ℕ) → length bytes ≡ 4097 → IsJob settings (Make bytes) → ⊥
too_many_bytes bytes n job = let z = job.1 in omega (arith, z, n)

no_such_node : IsJob settings (Crash (node 2)) → ⊥
no_such_node job = omega (arith, job)

swapped_in : IsJob settings (Swap (handle 1))
swapped_in = lit< tt

none_to_swap : IsJob settings (Swap (handle 2)) → ⊥
none_to_swap job = omega (arith, job)

an_eviction : IsJob settings Evict
an_eviction = tt

a_begin : IsJob settings Begin
a_begin = tt

a_ship : IsJob settings Ship
a_ship = tt

a_commit : IsJob settings Commit
a_commit = tt

an_abort : IsJob settings Abort
an_abort = tt

filtered : IsJob settings (Filter (handle 1))
filtered = lit< tt

none_to_filter : IsJob settings (Filter (handle 2)) → ⊥
none_to_filter job = omega (arith, job)

a_rebuild : IsJob settings Rebuild
a_rebuild = tt

a_pair : IsJob settings Pair
a_pair = tt

a_patch : IsJob settings Patch
a_patch = tt

a_merge : IsJob settings Merge
a_merge = tt

a_part : IsJob settings Part
a_part = tt

a_compaction : IsJob settings Compact
a_compaction = tt
