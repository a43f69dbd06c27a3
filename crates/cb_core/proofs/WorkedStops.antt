-- Worked examples of what want of memory leaves: what meets each definition, and what breaks one
-- part.
use Rattle.std.proofs.Common.{◌≡◌, ◌⊎◌, ℕ, zero, suc, ◌≤◌, Bool, true, false, List, [], ◌∷◌, ◌++◌, None, Some, length, get_or, refl, ap, ◌∙◌, subst, inl, inr, arith}
use Rattle.cb_types.specs.declared.config.Config.{Config}
use Rattle.cb_types.specs.declared.handle.SetId.{SetId}
use Rattle.cb_types.specs.declared.job.Job.TheVariants as job
use Rattle.cb_types.specs.declared.reply.Reply.{Reply}
use Rattle.cb_types.specs.declared.reply.Reply.TheVariants as answer
use Rattle.cb_world.specs.declared.shown.Shown.{Shown}
use Rattle.cb_world.specs.FarState.{FarState}
use Rattle.cb_world.specs.Plain.{Words}
use Rattle.cb_world.specs.Seats.{SeatState, pins_of_seat}
use Rattle.cb_world.specs.World.{WorldState, IsKnown, IsSoundWorld, empty_world}
use Rattle.cb_evict.proofs.Laws.{longest_within, some_within}
use Rattle.cb_evict.specs.EvictStep.{few_spans, few_nodes, made}
use Rattle.cb_core.specs.declared.event.Atomic.TheVariants.{Load}
use Rattle.cb_core.specs.declared.event.Event.{Event}
use Rattle.cb_core.specs.declared.event.Event.TheVariants as event
use Rattle.cb_core.specs.NowIn.{claim_on, now_in, now_with}
use Rattle.cb_core.specs.Run.{IsSameBut, HoldsAsBefore, MakesEvictions, last, one_more, MakesRoom, nothing, evicts, brings, LeavesAsBefore, LeavesPrefix, LeadsSoundly, seat_of}
use Rattle.cb_core.specs.Step.{Step, worn, done}
use Rattle.cb_core.specs.Step.SeatTurn.{held as is_held, free as is_free, ordered}
use Rattle.cb_core.proofs.Rejobbed.{rejobbed}
use Rattle.cb_core.proofs.TurnCallsKept.{known_same}
use Rattle.cb_core.proofs.WorkedPins.{pin_on, seat_with}

abbrev c : Config
c = record { k = 1; r = 1; nodes = 2; frames = 2; room = 4; handles = 2; turns = 0 }

abbrev w : WorldState
w = empty_world c

abbrev with_far : FarState → WorldState
with_far far = record w { far = far }

-- ---- the comparison of worlds
-- more turns, rows that were given out, and another survey
abbrev counted_on : WorldState
counted_on = with_far (record w.far {
  counts = record w.far.counts { turns = 3; by_job = 3 ∷ [] };
  nodes = record w.far.nodes { given = 5 };
  survey = record { below = 1; gone = 1; no_pair = Some 2 };
})

same_but_counts : IsSameBut w counted_on
same_but_counts = record { desk = refl; far = refl; seats = refl }

a_word_changed : IsSameBut w (record w { desk = record w.desk { words = 6 ∷ 0 ∷ [] } }) → ⊥
a_word_changed z =
    let e : 6 ≡ 0 = ap (λ (x : Words). get_or x.words 0 0) z.desk in absurd (omega (arith, e))

a_handle_made : IsSameBut w (with_far (record w.far { made = 1 })) → ⊥
a_handle_made z = let e : 1 ≡ 0 = ap (λ (f : FarState). f.made) z.far in absurd (omega (arith, e))

a_set_drawn : IsSameBut w (with_far (record w.far { counts = record w.far.counts { sets = 1 } })) → ⊥
a_set_drawn z =
    let e : 1 ≡ 0 = ap (λ (f : FarState). f.counts.sets) z.far in absurd (omega (arith, e))

a_key_drawn : IsSameBut w (with_far (record w.far { counts = record w.far.counts { keys = 1 } })) → ⊥
a_key_drawn z =
    let e : 1 ≡ 0 = ap (λ (f : FarState). f.counts.keys) z.far in absurd (omega (arith, e))

-- an eviction that is undone, but for the frame that it freed
abbrev one_if : Bool → ℕ
one_if true = 1
one_if false = 0

abbrev frame_taken : WorldState
frame_taken = with_far (record w.far { frames = false ∷ true ∷ [] })

frames_kept : IsSameBut w frame_taken → ⊥
frames_kept z = let e : 0 ≡ 1 =
    ap (λ (f : FarState). one_if (get_or f.frames 0 false)) z.far in absurd (omega (arith, e))

-- a pin that is left
abbrev pin_left : WorldState
pin_left = record w { seats = seat_with (pin_on 0 3 ∷ []) ∷ [] }

a_pin_left : IsSameBut w pin_left → ⊥
a_pin_left z = let e : 1 ≡ 0 =
    ap (λ (seats : List SeatState). length (pins_of_seat seats 0)) z.seats in absurd (omega (arith, e))

-- ---- what was done for the event before it found none
abbrev make : Event
make = event.Turn 3 (job.Make (7 ∷ []))

abbrev read : ℕ → Event
read h = event.Turn 3 (job.Read (record { n = h }))

seat_of_a_turn : seat_of make ≡ 3
seat_of_a_turn = refl

seat_of_a_step : seat_of (event.Step 5 (Load (record { n = 0 }))) ≡ 5
seat_of_a_step = refl

only_counted : MakesRoom w make counted_on
only_counted = nothing same_but_counts

by_an_eviction : (v : WorldState) (id : SetId) → Step w (event.Turn 3 job.Evict) (answer.Set id) v
    → MakesRoom w make v
by_an_eviction v id step =
    evicts (last v id step (record { desk = refl; far = refl; seats = refl }))

-- by two evictions: the second one from what the first one left, whatever turns that counts
by_two_evictions : (v new : WorldState) (id other : SetId) (turns : ℕ) (by_job : List ℕ)
    → Step w (event.Turn 3 job.Evict) (answer.Set id) v
    → Step (record v { far = rejobbed turns by_job v.far }) (event.Turn 3 job.Evict)
    (answer.Set other) new
    → MakesRoom w make new
by_two_evictions v new id other turns by_job first second = evicts
    (one_more v (record v { far = rejobbed turns by_job v.far }) id first
    (record { desk = refl; far = refl; seats = refl })
    (last new other second (record { desk = refl; far = refl; seats = refl })))

by_its_swap_in : (v : WorldState) (f : ℕ)
    → Step w (event.Turn 3 (job.Swap (record { n = 1 }))) (answer.Swapped f) v → MakesRoom w (read 1) v
by_its_swap_in v f step =
    brings v (record { n = 1 }) f refl step (record { desk = refl; far = refl; seats = refl })

set_is_none : (id : SetId) (n : ℕ) → answer.Set id ≡ answer.NoSpans n → ⊥
set_is_none id n e = cc

set_is_worn : (id : SetId) → answer.Set id ≡ answer.Worn → ⊥
set_is_worn id e = cc

set_is_held : (id : SetId) (seat : ℕ) → answer.Set id ≡ answer.Held seat → ⊥
set_is_held id seat e = cc

-- more evictions than there may be
no_fewer : (v new : WorldState) → MakesEvictions 3 0 v new → ⊥
no_fewer v new more = by 0 refl more
  where
    by : (n : ℕ) → n ≡ 0 → MakesEvictions 3 n v new → ⊥
    by zero none never = elim never [ ]
    by (suc n) none (last u id step same) = omega (arith, none)
    by (suc n) none (one_more u x id step same rest) = omega (arith, none)

-- there is no span that could leave
nothing_leaves : (v : WorldState) (id : SetId) → Step w (event.Turn 3 job.Evict) (answer.Set id) v → ⊥
nothing_leaves v id (is_held holder other holds is same) = set_is_held id holder is
nothing_leaves v id (ordered keeps off none turn seats) = off tt
nothing_leaves v id (is_free none (worn end is same)) = set_is_worn id is
nothing_leaves v id (is_free none (done few (few_spans z same, hold) seats)) =
    set_is_none id _ z.reply
nothing_leaves v id (is_free none (done few (few_nodes z same, hold) seats)) =
    let enough : 1 ≤ 0 = some_within _ _ _ z.enough in omega (arith, enough)
nothing_leaves v id (is_free none (done few (made z, hold) seats)) =
    let enough : 1 ≤ 0 = longest_within _ _ _ _ z.longest in omega (arith, enough)

-- so a make that found no memory left all as it was
nothing_before_a_make : (new : WorldState) → MakesRoom w make new → IsSameBut w new
nothing_before_a_make new (nothing same) = same
nothing_before_a_make new (evicts (last v id step same)) = absurd (nothing_leaves v id step)
nothing_before_a_make new (evicts (one_more v u id step same rest)) =
    absurd (nothing_leaves v id step)
nothing_before_a_make new (brings v handle f asked step same) = absurd (none_asked handle.n asked)
  where
    none_asked : (h : ℕ) → None ≡ Some h → ⊥
    none_asked h e = cc

keeps_the_frame : MakesRoom w make frame_taken → ⊥
keeps_the_frame z = frames_kept (nothing_before_a_make frame_taken z)

leaves_a_pin : MakesRoom w make pin_left → ⊥
leaves_a_pin z = a_pin_left (nothing_before_a_make pin_left z)

-- ---- what an event leaves
holds_all : (v : WorldState) → HoldsAsBefore v v
holds_all v s k = (s, k, λ h. refl)

leaves_all : LeavesAsBefore w make w
leaves_all = record {
  room = nothing (record { desk = refl; far = refl; seats = refl });
  holds = holds_all w;
  seats = refl;
}

leaves_another_pin : LeavesAsBefore w make pin_left → ⊥
leaves_another_pin z = leaves_a_pin z.room

-- an object that holds something else
holds_another : (v new : WorldState) (s t : Shown) (h : ℕ) → IsKnown v.desk v.far s
    → IsKnown new.desk new.far t → (now_in new t h ≡ now_in v s h → ⊥) → HoldsAsBefore v new → ⊥
holds_another v new s t h k l off holds =
    let after = holds s k in
    off (ap (now_with (claim_on new.seats h)) (known_same new.desk new.far after.0 t h after.1 l)
    ∙ after.2 h)

-- ---- what a run leaves
abbrev look : Event
look = event.Step 0 (Load (record { n = 1 }))

abbrev zero_word : Reply
zero_word = answer.Word 0

behind_a_look : IsSoundWorld w → LeavesPrefix w (look ∷ make ∷ []) w
behind_a_look sound = record {
  before = look ∷ [];
  after = make ∷ [];
  replies = zero_word ∷ [];
  reached = w;
  are = refl;
  leads = (w, (refl, refl), sound, refl);
  left = inr (make, [], refl, nothing (record { desk = refl; far = refl; seats = refl }));
  holds = holds_all w;
  seats = refl;
}

-- where there is no event, nothing is left but what there was
nothing_more : (new : WorldState) → LeavesPrefix w [] new → IsSameBut w new
nothing_more new z = by z.before z.after z.replies z.are z.leads z.left
  where
    none_of : (e : Event) (es : List Event) → [] ≡ e ∷ es → ⊥
    none_of e es is = cc

    by : (before after : List Event) (replies : List Reply) → [] ≡ before ++ after
        → LeadsSoundly w before replies z.reached
        → (IsSameBut z.reached new) ⊎ ((next : Event) × (rest : List Event) × (after ≡ next ∷ rest)
        × MakesRoom z.reached next new)
        → IsSameBut w new
    by (e ∷ before) after replies are leads left = absurd (none_of e (before ++ after) are)
    by [] after (r ∷ replies) are leads left = absurd leads
    by [] after [] are leads (inl same) = subst (λ (v : WorldState). IsSameBut v new) leads same
    by [] after [] are leads (inr (next, rest, is, room)) = absurd (none_of next rest (are ∙ is))

makes_one_more : LeavesPrefix w [] (with_far (record w.far { made = 1 })) → ⊥
makes_one_more z = a_handle_made (nothing_more (with_far (record w.far { made = 1 })) z)
