-- Each event is the calls that it is of the plain map, which stands beside the world after it.
use Rattle.std.proofs.Common.{◌≡◌, ◌⊎◌, ℕ, ◌+◌, ◌^◌, ◌<◌, Bool, true, false, List, [], length, get_or, Option, None, Some, refl, sym, ap, ◌∙◌, subst, arith, inl, inr, if◌then◌else◌}
use Rattle.std.specs.Prelude.{nat_lt}
use Rattle.std.proofs.lemmas.List.Elements.{All-get_or}
use Rattle.std.proofs.lemmas.Option.{slice_get_within, get_or_from_slice_get}
use Rattle.cb_ptr.specs.declared.word.State.{State}
use Rattle.cb_ptr.specs.declared.word.State.TheVariants as state
use Rattle.cb_ptr.specs.Steps.{Settles}
use Rattle.cb_ptr.specs.Word.{state_of, len_of, place_of, pins_of}
use Rattle.cb_types.specs.declared.handle.Handle.{Handle}
use Rattle.cb_types.specs.declared.job.Job.{Job}
use Rattle.cb_types.specs.declared.job.Job.TheVariants as job
use Rattle.cb_types.specs.declared.request.Request.{Request}
use Rattle.cb_types.specs.declared.request.Request.TheVariants.{Pin as PinLine, Write as WriteLine}
use Rattle.cb_types.specs.declared.order.Kept.{Kept}
use Rattle.cb_types.specs.declared.reply.Reply.{Reply}
use Rattle.cb_types.specs.declared.reply.Reply.TheVariants as answer
use Rattle.cb_model.specs.declared.object.Object.TheVariants.{Held, Freed}
use Rattle.cb_model.specs.Event.{event_of}
use Rattle.cb_model.specs.Event.Event.{Pins, Refused}
use Rattle.cb_model.specs.Event.Subject.{Contents}
use Rattle.cb_model.specs.Called.{Called, makes, value}
use Rattle.cb_model.specs.Now.{MapNow}
use Rattle.cb_model.specs.Replies.{MapReplies}
use Rattle.cb_world.specs.declared.seats.SeatPin.{SeatPin}
use Rattle.cb_world.specs.declared.shown.Shown.{Shown}
use Rattle.cb_world.specs.FarState.{FarState}
use Rattle.cb_world.specs.Memory.{bytes_in}
use Rattle.cb_world.specs.Now.{now}
use Rattle.cb_world.specs.Now.Now.{held}
use Rattle.cb_world.specs.OpenSteps.{next_word}
use Rattle.cb_world.specs.Pinned.{with_word}
use Rattle.cb_world.specs.Plain.{Words}
use Rattle.cb_world.specs.Seats.{IsNewestOf, SeatState, idle_seat, pins_of_seat, order_of, seat_at, with_holds, with_order, with_pins}
use Rattle.cb_world.specs.StillWords.{stamp_at, contents_at}
use Rattle.cb_world.specs.World.{WorldState, IsKnown, IsSoundWorld, word_at}
use Rattle.cb_world.proofs.Laws.{pinned_now, unpinned_now, pin_counts}
use Rattle.cb_mutate.specs.MapCalls.{IsValue, IsMapCall, IsCallBetween, IsCallOn}
use Rattle.cb_mutate.specs.MapBeside.{IsMapOf, IsMapBeside}
use Rattle.cb_mutate.specs.CallStep.{WriteChange}
use Rattle.cb_mutate.specs.StillReplies.{change_reply, reply_as, write_reply}
use Rattle.cb_mutate.proofs.Laws.{beside_kept, map_kept, IsOnContents, map_same, call_by_state, refused_call, near_held, here_near, IsObjectThere, write_call}
use Rattle.cb_core.specs.declared.event.Atomic.TheVariants as atomic
use Rattle.cb_core.specs.declared.event.Event.{Event}
use Rattle.cb_core.specs.declared.event.Event.TheVariants as event
use Rattle.cb_core.specs.Called.{AreBegun, ClaimCall, called_as, call_of, claim_by, claims_after, handle_on, write_settled}
use Rattle.cb_core.specs.Claiming.{ClaimStep, claim_reply, refused as claim_refused, taken as claim_taken, StoreStep, not_claimed as none_stored, nothing_left, stored, stamped, SettleStep, not_claimed as none_settled, not_stored, settled}
use Rattle.cb_core.specs.Events.{IsEvent}
use Rattle.cb_core.specs.Holding.{TakeStep, held as lock_held, taken as lock_taken, GiveStep, not_held, given as lock_given}
use Rattle.cb_core.specs.Jobs.{IsJob, NeedsNoOrder}
use Rattle.cb_core.specs.NowIn.{claim_on, now_in}
use Rattle.cb_core.specs.Parts.{Holding}
use Rattle.cb_core.specs.Pinning.{PinStep, scope_full, refused, taken, pin_refusal, UnpinStep, not_pinned, given}
use Rattle.cb_core.specs.Step.{Step, TurnStep, worn, done, held as other_holds, free, holding_of, ordered, OrderTurn, late as too_late, made as was_made}
use Rattle.cb_core.specs.Turned.{once_counted}
use Rattle.cb_core.proofs.CallsBeside.{CallsCome, IsObjectCall, comes_none, call_comes, make_comes, on_read, on_write, on_free, on_pinned}
use Rattle.cb_core.proofs.ClaimOn.{claim_set}
use Rattle.cb_core.proofs.ClaimsBegun.{begun_beside, begun_still, claim_begun, settle_begun, store_begun}
use Rattle.cb_core.proofs.ClaimsNow.{claimed_in, settled_in, stamped_in, stored_in}
use Rattle.cb_core.proofs.MovingCalls.{free_moving, read_moving, write_moving}
use Rattle.cb_core.proofs.NowIn.{are_made, call_in, claimed_moves, in_same, lost_in, lost_value, make_in, same_in}
use Rattle.cb_core.proofs.HoldingFixed.{LeavesWorld, give_leaves, take_leaves}
use Rattle.cb_core.proofs.OpenFrame.{claim_leaves, store_leaves, settle_leaves}
use Rattle.cb_core.proofs.OpenKeptSteps.{with_stamp, with_stored}
use Rattle.cb_core.proofs.OpenSteps.{here_moving}
use Rattle.cb_core.proofs.TurnCalls.{read_turn, write_turn, free_turn, make_turn, evict_turn, begin_turn, ship_turn, commit_turn, abort_turn, swap_turn, crash_turn, far_map, is_done, turn_first, filter_turn}
use Rattle.cb_core.proofs.OrderedKeeps.{order_first, with_has_kept}
use Rattle.cb_core.proofs.TurnCallsKept.{known_same, once_known}
use Rattle.cb_core.proofs.TurnCallsMap.{IsSameMap}
use Rattle.cb_core.proofs.TurnCallsNodes.{IsMapLost}

-- ---- a world and its map

-- the world is sound before an event and after it, and the map and the claims stand beside it before
pub record AroundEvent (before : List Called) (claims : List ClaimCall) (w new : WorldState) : Type 0 where
  pub at_first : IsSoundWorld w
  pub after : IsSoundWorld new
  pub beside : IsMapOf before w.far.made (λ h. now_in w at_first.shown h)
  pub begun : AreBegun claims w.seats

-- the map has afterwards what the world holds
abbrev pub IsMapAfter : List Called → (new : WorldState) → IsSoundWorld new → Type 0
IsMapAfter before new after = IsMapOf before new.far.made (λ h. now_in new after.shown h)

-- what an event comes to, as these calls
abbrev pub GoesAs : List Called → List Called → WorldState → (new : WorldState) → IsSoundWorld new
    → Type 0
GoesAs before more w new after =
    CallsCome w.far.first w.desk.settings.handles before more new.far.made
    (λ h. now_in new after.shown h)

-- and as those that it is
abbrev pub EventGoes : List Called → List ClaimCall → Event → Reply → WorldState
    → (new : WorldState)
    → IsSoundWorld new → Type 0
EventGoes before claims e r w new after = GoesAs before (called_as before claims e r) w new after

-- the seats have the same open writes
abbrev pub SameClaims : WorldState → WorldState → Type 0
SameClaims w new = (h : ℕ) → claim_on new.seats h ≡ claim_on w.seats h

seats_same : (w new : WorldState) → new.seats ≡ w.seats → SameClaims w new
seats_same w new same h = ap (λ (l : List SeatState). claim_on l h) same

-- an event that is no call and leaves what every object holds
pub none_goes : (before : List Called) (claims : List ClaimCall) (w new : WorldState)
    → (c : AroundEvent before claims w new) → new.far.made ≡ w.far.made
    → ((h : ℕ) → now_in new c.after.shown h ≡ now_in w c.at_first.shown h)
    → GoesAs before [] w new c.after
none_goes before claims w new c made same = comes_none w.far.first w.desk.settings.handles before
    new.far.made (λ h. now_in new c.after.shown h)
    (map_kept 0 0 w.far.made new.far.made (λ h. now_in w c.at_first.shown h)
    (λ h. now_in new c.after.shown h) before c.beside made same)

-- what is known of a world by another that is the same
now_of : (w new : WorldState) (before : IsSoundWorld w) (after : IsSoundWorld new) → new ≡ w
    → (h : ℕ) → now after.shown new.far h ≡ now before.shown w.far h
now_of w new before after same h = ap (λ (v : WorldState). now after.shown v.far h) same
    ∙ known_same w.desk w.far before.shown after.shown h before.known
    (subst (λ (v : WorldState). IsKnown v.desk v.far after.shown) same after.known)

-- an event that changes nothing is no call
same_goes : (before : List Called) (claims : List ClaimCall) (w new : WorldState)
    → (c : AroundEvent before claims w new) → new ≡ w → GoesAs before [] w new c.after
same_goes before claims w new c same = none_goes before claims w new c
    (ap (λ (v : WorldState). v.far.made) same)
    (λ h. in_same w new c.at_first.shown c.after.shown
    (seats_same w new (ap (λ (v : WorldState). v.seats) same)) h
    (now_of w new c.at_first c.after same h))

-- the map stays beside what is known of words that hold the same
pub kept_beside : (before : List Called) (s t : Shown) (far new : FarState) → IsMapBeside before s far
    → IsSameMap s t far new → IsMapBeside before t new
kept_beside before s t far new map same = beside_kept before s t far new map same.made same.now

-- and beside one in which some objects are gone
pub lost_beside : (before : List Called) (s t : Shown) (far new : FarState) → IsMapBeside before s far
    → IsMapLost s t far new → IsMapBeside before t new
lost_beside before s t far new map lost = record {
  made = map.made ∙ sym lost.made;
  values = λ k. elim (lost.now k) [
    | inl same ↦ subst (IsValue (value before k)) (sym same) (map.values k)
    | inr (v, bytes, was, after) ↦ subst (IsValue (value before k)) (sym after)
        (lost_value (value before k) v bytes (subst (IsValue (value before k)) was (map.values k)))
  ];
}

-- a call on an object, by a seat, where the open writes stay
call_goes : (before : List Called) (claims : List ClaimCall) (seat h : ℕ) (q : Request) (r : Reply)
    (w new : WorldState) → (c : AroundEvent before claims w new) → SameClaims w new
    → IsCallOn w.desk.settings.handles c.at_first.shown c.after.shown w.far new.far h q r
    → (state_of (word_at w.desk h) ≡ state.Moving → event_of q r ≡ Refused Contents)
    → IsObjectCall q
    → GoesAs before (call_of seat (handle_on (makes before) h) q r) w new c.after
call_goes before claims seat h q r w new c stay call moving on =
    call_comes w.far.first w.desk.settings.handles seat w.far.made new.far.made before
    (λ k. now_in w c.at_first.shown k) (λ k. now_in new c.after.shown k) c.beside h q r
    (are_made w c.at_first.shown c.at_first.known c.at_first.ongoing)
    (call_in w new c.at_first.shown c.after.shown stay w.desk.settings.handles h q r call
    (λ d e. moving (claimed_moves w.desk w.far w.seats h d c.at_first.ongoing e).1)) on

-- ---- turns

-- a turn that was refused for their number is no call
worn_none : (before : List Called) (claims : List ClaimCall) (seat : ℕ) (j : Job)
    → called_as before claims (event.Turn seat j) answer.Worn ≡ []
worn_none before claims seat job.Evict = refl
worn_none before claims seat j = refl

worn_goes : (before : List Called) (claims : List ClaimCall) (seat : ℕ) (j : Job) (r : Reply)
    (w new : WorldState) → (c : AroundEvent before claims w new) → r ≡ answer.Worn → new ≡ w
    → EventGoes before claims (event.Turn seat j) r w new c.after
worn_goes before claims seat j r w new c is same =
    subst (λ (cs : List Called). GoesAs before cs w new c.after)
    (sym (ap (called_as before claims (event.Turn seat j)) is ∙ worn_none before claims seat j))
    (same_goes before claims w new c same)

-- so is one beside another seat that holds the far lock
held_none : (before : List Called) (claims : List ClaimCall) (seat holder : ℕ) (j : Job)
    → called_as before claims (event.Turn seat j) (answer.Held holder) ≡ []
held_none before claims seat holder job.Evict = refl
held_none before claims seat holder j = refl

held_goes : (before : List Called) (claims : List ClaimCall) (seat holder : ℕ) (j : Job) (r : Reply)
    (w new : WorldState) → (c : AroundEvent before claims w new) → r ≡ answer.Held holder → new ≡ w
    → EventGoes before claims (event.Turn seat j) r w new c.after
held_goes before claims seat holder j r w new c is same =
    subst (λ (cs : List Called). GoesAs before cs w new c.after)
    (sym (ap (called_as before claims (event.Turn seat j)) is
    ∙ held_none before claims seat holder j))
    (same_goes before claims w new c same)

-- a turn that keeps the map is no call
quiet_goes : (before : List Called) (claims : List ClaimCall) (w new : WorldState)
    → (c : AroundEvent before claims w new) → SameClaims w new
    → IsSameMap c.at_first.shown c.after.shown w.far new.far → GoesAs before [] w new c.after
quiet_goes before claims w new c stay same = comes_none w.far.first w.desk.settings.handles before
    new.far.made (λ h. now_in new c.after.shown h)
    (same_in w new c.at_first.shown c.after.shown stay before c.beside same)

done_goes : (before : List Called) (claims : List ClaimCall) (seat : ℕ) (j : Job) (r : Reply)
    (w new : WorldState) → (c : AroundEvent before claims w new) → SameClaims w new
    → IsJob w.desk.settings j → w.far.counts.turns < 2 ^ 40 → TurnStep j w r new
    → EventGoes before claims (event.Turn seat j) r w new c.after
done_goes before claims seat (job.Make bytes) r w new c stay ok few step =
    let z = make_turn w new bytes [] r c.at_first c.after few step in
    make_comes w.far.first w.desk.settings.handles seat w.far.made new.far.made before
    (λ k. now_in w c.at_first.shown k) (λ k. now_in new c.after.shown k) c.beside bytes [] r
    (make_in w new c.at_first.shown c.after.shown stay w.desk.settings.handles bytes [] r
    c.at_first.known c.at_first.ongoing z.call) z.line
done_goes before claims seat (job.Read handle) r w new c stay ok few step =
    call_goes before claims seat handle.n _ r w new c stay
    (read_turn w new handle.n [] r c.at_first c.after few ok step).call
    (read_moving w new handle r few step) (on_read [])
done_goes before claims seat (job.Write handle at bytes) r w new c stay ok few step =
    call_goes before claims seat handle.n _ r w new c stay
    (write_turn w new handle.n at bytes [] r c.at_first c.after few ok step).call
    (write_moving w new handle at bytes r few step) (on_write [] at bytes)
done_goes before claims seat (job.Free handle) r w new c stay ok few step =
    call_goes before claims seat handle.n _ r w new c stay
    (free_turn w new handle.n [] r c.at_first c.after few ok step).call
    (free_moving w new handle r few step) (on_free [])
done_goes before claims seat (job.Swap handle) r w new c stay ok few step =
    quiet_goes before claims w new c stay (swap_turn w new handle.n r c.at_first c.after few ok step).same
done_goes before claims seat (job.Filter handle) r w new c stay ok few step =
    quiet_goes before claims w new c stay
    (filter_turn w new handle.n r c.at_first c.after few ok step).same
done_goes before claims seat job.Evict r w new c stay ok few step =
    quiet_goes before claims w new c stay (evict_turn w new r c.at_first c.after few step).0
done_goes before claims seat job.Begin r w new c stay ok few step =
    quiet_goes before claims w new c stay (begin_turn w new r c.at_first c.after few step).0
done_goes before claims seat job.Ship r w new c stay ok few step =
    quiet_goes before claims w new c stay (ship_turn w new r c.at_first c.after few step).0
done_goes before claims seat job.Commit r w new c stay ok few step =
    quiet_goes before claims w new c stay (commit_turn w new r c.at_first c.after few step).0
done_goes before claims seat job.Abort r w new c stay ok few step =
    quiet_goes before claims w new c stay (abort_turn w new r c.at_first c.after few step).0
done_goes before claims seat (job.Crash node) r w new c stay ok few step =
    comes_none w.far.first w.desk.settings.handles before new.far.made
    (λ h. now_in new c.after.shown h)
    (lost_in w new c.at_first.shown c.after.shown stay before c.beside
    (crash_turn w new node r c.at_first c.after few ok step).0)
done_goes before claims seat j r w new c stay ok few step =
    quiet_goes before claims w new c stay
    (far_map j w new r c.at_first c.after (is_done j w new r few step))

turn_goes : (before : List Called) (claims : List ClaimCall) (seat : ℕ) (j : Job) (r : Reply)
    (w new : WorldState) → (c : AroundEvent before claims w new) → IsJob w.desk.settings j
    → TurnStep j w r new → EventGoes before claims (event.Turn seat j) r w new c.after
turn_goes before claims seat j r w new c ok (worn end is same) =
    worn_goes before claims seat j r w new c is same
turn_goes before claims seat j r w new c ok (done few works seats) =
    done_goes before claims seat j r w new c (seats_same w new seats) ok few (done few works seats)

-- ---- pins

-- a pinned object is here
pinned_here : (w : WorldState) (seat at h : ℕ) → IsSoundWorld w → seat < 64
    → IsNewestOf (pins_of_seat w.seats seat) h at → state_of (word_at w.desk h) ≡ state.Here
pinned_here w seat at h sound lt n =
    (sound.pinned.here h below (pin_counts w.desk w.seats seat at h sound.pinned lt n below)).0
  where
    pins : List SeatPin
    pins = pins_of_seat w.seats seat

    below : h < length w.desk.words
    below = subst (λ (y : ℕ). y < length w.desk.words)
        (ap (λ (p : SeatPin). p.handle) (get_or_from_slice_get pins at n.pin n.pin n.there) ∙ n.on)
        (All-get_or (λ (y : SeatPin). y.handle < length w.desk.words) pins at n.pin
        (slice_get_within pins at n.pin n.there)
        (All-get_or (λ (x : SeatState). (k : ℕ) (d : SeatPin) → k < length x.pins
        → (get_or x.pins k d).handle < length w.desk.words)
        w.seats seat idle_seat (omega (arith, lt, sound.pinned.count)) sound.pinned.known))

on_pin : IsOnContents (PinLine [])
on_pin = record {
  unmade = refl;
  freed = refl;
  not_here = refl;
  moving = refl;
  pinned = λ count. refl;
  worn = refl;
}

refusal_as : (q : State) (v pins : ℕ) → pin_refusal q v pins ≡ reply_as q v answer.Crowded
refusal_as state.Empty v pins = refl
refusal_as state.Far v pins = refl
refusal_as state.Here v pins = refl
refusal_as state.Moving v pins = refl

pins_by : (v first handles made h : ℕ) (bytes : List ℕ) (m : MapNow) → IsValue m (held v bytes)
    → MapReplies first handles made (Some h) m (Pins v)
pins_by v first handles made h bytes None is = absurd is
pins_by v first handles made h bytes (Some (Freed u)) is = absurd is
pins_by v first handles made h bytes (Some (Held u b)) is = is.0

-- a pin of an object that can't be pinned
refused_pin : (before : List Called) (claims : List ClaimCall) (h : ℕ) (r : Reply)
    (w new : WorldState) → (c : AroundEvent before claims w new) → h < length w.desk.words
    → r ≡ pin_refusal (state_of (word_at w.desk h)) (stamp_at w.desk h) (pins_of (word_at w.desk h))
    → new ≡ w
    → IsCallOn w.desk.settings.handles c.at_first.shown c.after.shown w.far new.far h (PinLine []) r
refused_pin before claims h r w new c below is same =
    call_by_state (λ q. Unit {0}) w.desk new.desk w.far new.far c.at_first.shown c.after.shown h
    w.desk.settings.handles (PinLine []) r answer.Crowded
    (record { before = c.at_first.known; afterwards = c.after.known }) below on_pin
    (record { unmade = λ z. stays; freed = λ z. stays; not_here = λ z. stays; moving = λ z. stays })
    (is ∙ refusal_as (state_of (word_at w.desk h)) (stamp_at w.desk h) (pins_of (word_at w.desk h))) tt
    (λ here crowded. refused_call w.desk new.desk w.far new.far c.at_first.shown c.after.shown h
    w.desk.settings.handles (PinLine []) r
    (record { before = c.at_first.known; afterwards = c.after.known }) stays
    (subst IsObjectThere (sym (near_held w.desk w.far c.at_first.shown h c.at_first.known below
    (here_near (word_at w.desk h) here))) tt) (ap (event_of (PinLine [])) crowded))
  where
    stays : (new.desk ≡ w.desk) × (new.far ≡ w.far)
    stays = (ap (λ (v : WorldState). v.desk) same, ap (λ (v : WorldState). v.far) same)

-- a pin changes nothing of what objects hold
taken_pin : (before : List Called) (claims : List ClaimCall) (h v : ℕ) (bytes : List ℕ)
    (w new : WorldState) → (c : AroundEvent before claims w new) → new.far ≡ w.far
    → ((k : ℕ) → now c.after.shown new.far k ≡ now c.at_first.shown w.far k)
    → now c.at_first.shown w.far h ≡ held v bytes
    → IsCallOn w.desk.settings.handles c.at_first.shown c.after.shown w.far new.far h (PinLine [])
    (answer.Version v)
taken_pin before claims h v bytes w new c far same is = record {
  own = subst (IsMapCall w.far.first w.desk.settings.handles w.far.made (Some h) (PinLine [])
      (answer.Version v) (now c.at_first.shown w.far h)) (sym (same h))
      (map_same w.far.first w.desk.settings.handles w.far.made (Some h) (PinLine []) (answer.Version v)
      (now c.at_first.shown w.far h) (Pins v) refl refl
      (λ m value. pins_by v w.far.first w.desk.settings.handles w.far.made h bytes m
      (subst (IsValue m) is value)));
  others = λ k off. same k;
  counted = let made = ap (λ (f : FarState). f.made) far in omega (arith, made);
}

-- other pins of a seat are no other open writes
pins_stay : (w new : WorldState) (seat : ℕ) (pins : List SeatPin)
    → new.seats ≡ with_pins w.seats seat pins → SameClaims w new
pins_stay w new seat pins seats h = ap (λ (l : List SeatState). claim_on l h) seats
    ∙ claim_set w.seats seat (record (seat_at w.seats seat) { pins = pins }) h refl

pin_goes : (before : List Called) (claims : List ClaimCall) (seat h : ℕ) (r : Reply)
    (w new : WorldState) → (c : AroundEvent before claims w new) → h < w.desk.settings.handles
    → PinStep seat h w r new
    → EventGoes before claims (event.Step seat (atomic.Pin (record { n = h }))) r w new c.after
pin_goes before claims seat h r w new c below (scope_full full is same) =
    subst (λ (q : Reply).
    EventGoes before claims (event.Step seat (atomic.Pin (record { n = h }))) q w new c.after)
    (sym is)
    (same_goes before claims w new c same)
pin_goes before claims seat h r w new c below (refused room never_may is same) =
    call_goes before claims seat h (PinLine []) r w new c
    (seats_same w new (ap (λ (v : WorldState). v.seats) same))
    (refused_pin before claims h r w new c
    (let n = c.at_first.known.sized.words in omega (arith, below, n)) is same)
    (λ moving. ap (event_of (PinLine [])) (is ∙ ap (λ (q : State).
    pin_refusal q (stamp_at w.desk h) (pins_of (word_at w.desk h))) moving)) (on_pinned [])
pin_goes before claims seat h r w new c below (taken room may is t) =
    call_goes before claims seat h (PinLine []) r w new c (pins_stay w new seat _ t.pins)
    (subst (IsCallOn w.desk.settings.handles c.at_first.shown c.after.shown w.far new.far h (PinLine []))
    (sym is)
    (taken_pin before claims h (stamp_at w.desk h)
    (bytes_in (contents_at w.desk h) (len_of (word_at w.desk h))) w new c t.far
    (λ k. ap (λ (f : FarState). now c.after.shown f k) t.far
    ∙ pinned_now w.desk new.desk w.far c.at_first.shown c.after.shown h k c.at_first.known
    (subst (λ (f : FarState). IsKnown new.desk f c.after.shown) t.far c.after.known) t.word may.here)
    (near_held w.desk w.far c.at_first.shown h c.at_first.known
    (let n = c.at_first.known.sized.words in omega (arith, below, n))
    (here_near (word_at w.desk h) may.here))))
    (λ moving. absurd (here_moving (word_at w.desk h) may.here moving)) (on_pinned [])

-- the end of a pin is no call, and leaves the map as it is
unpin_goes : (before : List Called) (claims : List ClaimCall) (seat h : ℕ) (r : Reply)
    (w new : WorldState) → (c : AroundEvent before claims w new) → seat < 64
    → UnpinStep seat h w r new
    → GoesAs before [] w new c.after
unpin_goes before claims seat h r w new c lt (not_pinned none is same) =
    same_goes before claims w new c same
unpin_goes before claims seat h r w new c lt (given is t) =
    none_goes before claims w new c (ap (λ (f : FarState). f.made) t.far)
    (λ k. in_same w new c.at_first.shown c.after.shown (pins_stay w new seat _ t.pins) k
    (ap (λ (f : FarState). now c.after.shown f k) t.far
    ∙ unpinned_now w.desk new.desk w.far c.at_first.shown c.after.shown h k c.at_first.known
    (subst (λ (f : FarState). IsKnown new.desk f c.after.shown) t.far c.after.known) t.word
    (pinned_here w seat t.at h c.at_first lt t.newest)))

-- ---- writes in steps

-- a claim that was refused is a write that was, and changes nothing
unclaimed : (r q : Reply) (x y : Words) (h at : ℕ) (bytes : List ℕ) → r ≡ claim_reply q
    → (r ≡ answer.Claimed → ⊥) → y ≡ x → (r ≡ q) × WriteChange r x y h at bytes
unclaimed r (answer.Version v) x y h at bytes is off same = absurd (off is)
unclaimed r q x y h at bytes is off same =
    (is, subst (λ (z : Reply). WriteChange z x y h at bytes) (sym is) same)

claim_goes : (before : List Called) (claims : List ClaimCall) (seat : ℕ) (h : Handle) (at : ℕ)
    (bytes : List ℕ) (r : Reply) (w new : WorldState) → (c : AroundEvent before claims w new)
    → seat < 64
    → h.n < length w.desk.words → ClaimStep seat h.n at bytes w r new
    → EventGoes before claims (event.Step seat (atomic.Claim h at bytes)) r w new c.after
claim_goes before claims seat h at bytes r w new c lt below (claim_refused off is same) =
    let z = unclaimed r (write_reply (word_at w.desk h.n) (stamp_at w.desk h.n) at (length bytes)) w.desk
    new.desk h.n at bytes is off (ap (λ (v : WorldState). v.desk) same) in
    call_goes before claims seat h.n (WriteLine [] at bytes) r w new c
    (seats_same w new (ap (λ (v : WorldState). v.seats) same))
    (write_call w.desk new.desk w.far new.far c.at_first.shown c.after.shown h.n at
    w.desk.settings.handles bytes [] r
    (record { before = c.at_first.known; afterwards = c.after.known })
    (ap (λ (v : WorldState). v.far) same) below (record { reply = z.0; change = z.1 }))
    (λ moving. ap (event_of (WriteLine [] at bytes)) (z.0 ∙ ap (λ (q : State).
    reply_as q (stamp_at w.desk h.n) (if nat_lt (len_of (word_at w.desk h.n)) (at + length bytes)
    then answer.Range (len_of (word_at w.desk h.n))
    else change_reply (word_at w.desk h.n) (stamp_at w.desk h.n))) moving)) (on_write [] at bytes)
claim_goes before claims seat h at bytes r w new c lt below (claim_taken may is reply t) =
    subst (λ (q : Reply).
    EventGoes before claims (event.Step seat (atomic.Claim h at bytes)) q w new c.after) (sym is)
    (none_goes before claims w new c (ap (λ (f : FarState). f.made) t.far)
    (claimed_in seat h.n at bytes w new c.at_first c.after lt below may t))

store_goes : (before : List Called) (claims : List ClaimCall) (seat h : ℕ) (r : Reply)
    (w new : WorldState) → (c : AroundEvent before claims w new) → seat < 64
    → StoreStep seat h w r new
    → GoesAs before [] w new c.after
store_goes before claims seat h r w new c lt (none_stored off is same) =
    same_goes before claims w new c same
store_goes before claims seat h r w new c lt (nothing_left at x none is same) =
    same_goes before claims w new c same
store_goes before claims seat h r w new c lt (stored at x two is m n) =
    none_goes before claims w new c (ap (λ (f : FarState). f.made) n.far)
    (stored_in seat at x.ongoing w new c.at_first c.after lt x.there n m.word (omega (arith, two))
    (m.words ∙ ap (with_stored w.desk (next_word x.ongoing) m.word) (sym x.on)))
store_goes before claims seat h r w new c lt (stamped at x last is m n) =
    none_goes before claims w new c (ap (λ (f : FarState). f.made) n.far)
    (stamped_in seat at x.ongoing w new c.at_first c.after lt x.there n
    (m ∙ ap (with_stamp w.desk (x.ongoing.version + 1)) (sym x.on)))

settle_goes : (before : List Called) (claims : List ClaimCall) (seat : ℕ) (h : Handle) (r : Reply)
    (w new : WorldState) → (c : AroundEvent before claims w new) → seat < 64
    → SettleStep seat h.n w r new
    → EventGoes before claims (event.Step seat (atomic.Settle h)) r w new c.after
settle_goes before claims seat h r w new c lt (none_settled off is same) =
    subst (λ (q : Reply). EventGoes before claims (event.Step seat (atomic.Settle h)) q w new
    c.after)
    (sym is) (same_goes before claims w new c same)
settle_goes before claims seat h r w new c lt (not_stored at x left is same) =
    subst (λ (q : Reply). EventGoes before claims (event.Step seat (atomic.Settle h)) q w new
    c.after)
    (sym is) (same_goes before claims w new c same)
settle_goes before claims seat h r w new c lt (settled at x none is t) =
    let d = x.ongoing in
    let begun = c.begun seat at d x.there in
    subst (λ (q : Reply). EventGoes before claims (event.Step seat (atomic.Settle h)) q w new
    c.after)
    (sym is)
    (subst (λ (o : Option ClaimCall). GoesAs before (write_settled seat (handle_on (makes before) h.n) o
    (answer.Version (d.version + 1))) w new c.after)
    (sym (subst (λ (k : ℕ). claim_by claims seat k
    ≡ Some (record { seat = seat; handle = k; at = d.at; bytes = d.bytes })) x.on begun))
    (call_comes w.far.first w.desk.settings.handles seat w.far.made new.far.made before
    (λ k. now_in w c.at_first.shown k) (λ k. now_in new c.after.shown k) c.beside h.n
    (WriteLine [] d.at d.bytes) (answer.Version (d.version + 1))
    (are_made w c.at_first.shown c.at_first.known c.at_first.ongoing)
    (subst (λ (k : ℕ). IsCallBetween w.far.first w.desk.settings.handles w.far.made new.far.made
    (λ i. now_in w c.at_first.shown i) (λ i. now_in new c.after.shown i) k
    (WriteLine [] d.at d.bytes) (answer.Version (d.version + 1))) x.on
    (settled_in seat at t.word.word d w new c.at_first c.after lt x.there none
    (subst (λ (k : ℕ). Settles (word_at w.desk k) (place_of (word_at w.desk k)) true t.word.word)
    (sym x.on) t.word.settles)
    (t.word.words ∙ ap (λ (k : ℕ). with_word w.desk k t.word.word) (sym x.on)) t.seats t.far))
    (on_write [] d.at d.bytes)))

-- ---- the far lock

-- the seats are as they were, or one of them holds the lock, or no longer does
abbrev pub LeavesClaims : ℕ → WorldState → WorldState → Type 0
LeavesClaims seat w new =
    (new.seats ≡ w.seats) ⊎ ((b : Bool) × (new.seats ≡ with_holds w.seats seat b))

take_seats : (seat : ℕ) (w new : WorldState) (r : Reply) → TakeStep seat w r new
    → LeavesClaims seat w new
take_seats seat w new r (lock_held holder holds is same) = inl (ap (λ (v : WorldState). v.seats) same)
take_seats seat w new r (lock_taken none is same) =
    inr (true, (λ i. (same i).seats))

give_seats : (seat : ℕ) (w new : WorldState) (r : Reply) → GiveStep seat w r new
    → LeavesClaims seat w new
give_seats seat w new r (not_held off is same) = inl (ap (λ (v : WorldState). v.seats) same)
give_seats seat w new r (lock_given holds is same) = inr (false, (λ i. (same i).seats))

-- so the open writes stay
lock_stays : (seat : ℕ) (w new : WorldState) → LeavesClaims seat w new → SameClaims w new
lock_stays seat w new (inl same) h = seats_same w new same h
lock_stays seat w new (inr (b, same)) h = ap (λ (l : List SeatState). claim_on l h) same
    ∙ claim_set w.seats seat (record (seat_at w.seats seat) { holds = b }) h refl

lock_begun : (claims : List ClaimCall) (seat : ℕ) (w new : WorldState) → LeavesClaims seat w new
    → AreBegun claims w.seats → AreBegun claims new.seats
lock_begun claims seat w new (inl same) begun = begun_still claims w.seats new.seats same begun
lock_begun claims seat w new (inr (b, same)) begun =
    subst (AreBegun claims) (sym same) (begun_beside claims w.seats seat _ refl begun)

-- where the words and the far state stay, the map stays beside them
lock_goes : (before : List Called) (claims : List ClaimCall) (seat : ℕ) (w new : WorldState)
    → (c : AroundEvent before claims w new) → LeavesWorld w new → LeavesClaims seat w new
    → GoesAs before [] w new c.after
lock_goes before claims seat w new c same seats =
    none_goes before claims w new c (ap (λ (f : FarState). f.made) same.far)
    (λ h. in_same w new c.at_first.shown c.after.shown (lock_stays seat w new seats) h
    (ap (λ (f : FarState). now c.after.shown f h) same.far
    ∙ known_same w.desk w.far c.at_first.shown c.after.shown h c.at_first.known
    (subst (λ (x : Words). IsKnown x w.far c.after.shown) same.desk
    (subst (λ (f : FarState). IsKnown new.desk f c.after.shown) same.far c.after.known))))

-- ---- a turn that hands an order out or takes one
-- it is no call
ordered_none : (before : List Called) (claims : List ClaimCall) (seat : ℕ) (j : Job) (r : Reply)
    → (NeedsNoOrder j → ⊥) → called_as before claims (event.Turn seat j) r ≡ []
ordered_none before claims seat job.Gather r off = refl
ordered_none before claims seat job.Install r off = refl
ordered_none before claims seat (job.Fetch handle) r off = refl
ordered_none before claims seat job.Land r off = refl
ordered_none before claims seat j r off = absurd (off tt)

-- what every object holds stays
ordered_now : (j : Job) (w new : WorldState) (order keeps : Option Kept) (r : Reply)
    → (before : IsSoundWorld w) → (after : IsSoundWorld new)
    → OrderTurn j order (holding_of w) r keeps (holding_of new)
    → (new.far.made ≡ w.far.made)
    × ((h : ℕ) → now after.shown new.far h ≡ now before.shown w.far h)
ordered_now j w new order keeps r before after (too_late end is same stays) = (
  ap (λ (a : Holding Words). a.far.made) stays,
  λ h. ap (λ (a : Holding Words). now after.shown a.far h) stays
      ∙ known_same w.desk w.far before.shown after.shown h before.known
      (subst (λ (a : Holding Words). IsKnown a.desk a.far after.shown) stays after.known),
)
ordered_now j w new order keeps r before after (was_made few step) =
    let z = with_has_kept j order keeps (once_counted (holding_of w) j) (holding_of new) r before.shown
    (once_known w j before.shown before.known) step in (
      (λ i. (z.made i).1),
      λ h. known_same new.desk new.far z.shown after.shown h z.known after.known ∙ z.same_now h,
    )

ordered_goes : (before : List Called) (claims : List ClaimCall) (seat : ℕ) (j : Job) (r : Reply)
    (w new : WorldState) → (c : AroundEvent before claims w new) → (order keeps : Option Kept)
    → (NeedsNoOrder j → ⊥) → OrderTurn j order (holding_of w) r keeps (holding_of new)
    → new.seats ≡ with_order w.seats seat keeps
    → EventGoes before claims (event.Turn seat j) r w new c.after
ordered_goes before claims seat j r w new c order keeps off turn seats =
    let z = ordered_now j w new order keeps r c.at_first c.after turn in
    subst (λ (cs : List Called). GoesAs before cs w new c.after)
    (sym (ordered_none before claims seat j r off))
    (none_goes before claims w new c z.0
    (λ h. in_same w new c.at_first.shown c.after.shown
    (λ k. ap (λ (l : List SeatState). claim_on l k) seats
    ∙ claim_set w.seats seat (record (seat_at w.seats seat) { order = keeps }) k refl) h (z.1 h)))

-- ---- every event

pub in_words_of : (w : WorldState) (h : ℕ) → IsSoundWorld w → h < w.desk.settings.handles
    → h < length w.desk.words
in_words_of w h sound below = let n = sound.known.sized.words in omega (arith, below, n)

pub event_goes : (before : List Called) (claims : List ClaimCall) (e : Event) (r : Reply)
    (w new : WorldState) → (c : AroundEvent before claims w new) → IsEvent w.desk.settings e → Step w e r new
    → EventGoes before claims e r w new c.after
event_goes before claims (event.Turn seat j) r w new c ok (other_holds holder off holds is same) =
    held_goes before claims seat holder j r w new c is same
event_goes before claims (event.Turn seat j) r w new c ok (free none step) =
    turn_goes before claims seat j r w new c ok.1 step
event_goes before claims (event.Turn seat j) r w new c ok (ordered keeps off none turn seats) =
    ordered_goes before claims seat j r w new c (order_of w.seats seat) keeps off turn seats
event_goes before claims (event.Step seat (atomic.Load handle)) r w new c ok step =
    same_goes before claims w new c step.1
event_goes before claims (event.Step seat (atomic.Pin handle)) r w new c ok step =
    pin_goes before claims seat handle.n r w new c ok.1 step
event_goes before claims (event.Step seat (atomic.Unpin handle)) r w new c ok step =
    unpin_goes before claims seat handle.n r w new c ok.0 step
event_goes before claims (event.Step seat (atomic.Claim handle at bytes)) r w new c ok step =
    claim_goes before claims seat handle at bytes r w new c ok.0
    (in_words_of w handle.n c.at_first ok.1) step
event_goes before claims (event.Step seat (atomic.Store handle)) r w new c ok step =
    store_goes before claims seat handle.n r w new c ok.0 step
event_goes before claims (event.Step seat (atomic.Settle handle)) r w new c ok step =
    settle_goes before claims seat handle r w new c ok.0 step
event_goes before claims (event.Step seat atomic.Take) r w new c ok step =
    lock_goes before claims seat w new c (take_leaves w new seat r step) (take_seats seat w new r step)
event_goes before claims (event.Step seat atomic.Give) r w new c ok step =
    lock_goes before claims seat w new c (give_leaves w new seat r step) (give_seats seat w new r step)

-- the open writes are begun by the claims after each event
turn_seats : (j : Job) (w new : WorldState) (r : Reply) → TurnStep j w r new → new.seats ≡ w.seats
turn_seats j w new r (worn end is same) = ap (λ (v : WorldState). v.seats) same
turn_seats j w new r (done few works seats) = seats

pub event_begun : (claims : List ClaimCall) (e : Event) (r : Reply) (w new : WorldState)
    → IsSoundWorld w → IsEvent w.desk.settings e → Step w e r new → AreBegun claims w.seats
    → AreBegun (claims_after claims e r) new.seats
event_begun claims (event.Turn seat j) r w new sound ok (other_holds holder off holds is same) begun =
    begun_still claims w.seats new.seats (ap (λ (v : WorldState). v.seats) same) begun
event_begun claims (event.Turn seat j) r w new sound ok (free none step) begun =
    begun_still claims w.seats new.seats (turn_seats j w new r step) begun
event_begun claims (event.Turn seat j) r w new sound ok (ordered keeps off none turn seats) begun =
    subst (AreBegun claims) (sym seats) (begun_beside claims w.seats seat _ refl begun)
event_begun claims (event.Step seat (atomic.Load handle)) r w new sound ok step begun =
    begun_still claims w.seats new.seats (ap (λ (v : WorldState). v.seats) step.1) begun
event_begun claims (event.Step seat (atomic.Pin handle)) r w new sound ok (scope_full full is same) begun =
    begun_still claims w.seats new.seats (ap (λ (v : WorldState). v.seats) same) begun
event_begun claims (event.Step seat (atomic.Pin handle)) r w new sound ok (refused room off is same) begun =
    begun_still claims w.seats new.seats (ap (λ (v : WorldState). v.seats) same) begun
event_begun claims (event.Step seat (atomic.Pin handle)) r w new sound ok (taken room may is t) begun =
    subst (AreBegun claims) (sym t.pins) (begun_beside claims w.seats seat _ refl begun)
event_begun claims (event.Step seat (atomic.Unpin handle)) r w new sound ok (not_pinned none is same) begun =
    begun_still claims w.seats new.seats (ap (λ (v : WorldState). v.seats) same) begun
event_begun claims (event.Step seat (atomic.Unpin handle)) r w new sound ok (given is t) begun =
    subst (AreBegun claims) (sym t.pins) (begun_beside claims w.seats seat _ refl begun)
event_begun claims (event.Step seat (atomic.Claim handle at bytes)) r w new sound ok step begun =
    claim_begun claims seat handle at bytes w new r sound ok.0 (in_words_of w handle.n sound ok.1) step begun
event_begun claims (event.Step seat (atomic.Store handle)) r w new sound ok step begun =
    store_begun claims seat handle.n w new r sound ok.0 step begun
event_begun claims (event.Step seat (atomic.Settle handle)) r w new sound ok step begun =
    settle_begun claims seat handle.n w new r sound ok.0 step begun
event_begun claims (event.Step seat atomic.Take) r w new sound ok step begun =
    lock_begun claims seat w new (take_seats seat w new r step) begun
event_begun claims (event.Step seat atomic.Give) r w new sound ok step begun =
    lock_begun claims seat w new (give_seats seat w new r step) begun

-- no event changes the first version
pub event_first : (e : Event) (r : Reply) (w new : WorldState) → IsSoundWorld w → Step w e r new
    → new.far.first ≡ w.far.first
event_first (event.Turn seat j) r w new sound (other_holds holder off holds is same) =
    ap (λ (v : WorldState). v.far.first) same
event_first (event.Turn seat j) r w new sound (free none (worn end is same)) =
    ap (λ (v : WorldState). v.far.first) same
event_first (event.Turn seat j) r w new sound (free none (done few works seats)) =
    turn_first j w new r sound few (done few works seats)
event_first (event.Turn seat j) r w new sound (ordered keeps off none turn seats) =
    order_first j (order_of w.seats seat) keeps (holding_of w) (holding_of new) r turn
event_first (event.Step seat (atomic.Load handle)) r w new sound step =
    ap (λ (v : WorldState). v.far.first) step.1
event_first (event.Step seat (atomic.Pin handle)) r w new sound (scope_full full is same) =
    ap (λ (v : WorldState). v.far.first) same
event_first (event.Step seat (atomic.Pin handle)) r w new sound (refused room unless is same) =
    ap (λ (v : WorldState). v.far.first) same
event_first (event.Step seat (atomic.Pin handle)) r w new sound (taken room may is t) =
    ap (λ (f : FarState). f.first) t.far
event_first (event.Step seat (atomic.Unpin handle)) r w new sound (not_pinned none is same) =
    ap (λ (v : WorldState). v.far.first) same
event_first (event.Step seat (atomic.Unpin handle)) r w new sound (given is t) =
    ap (λ (f : FarState). f.first) t.far
event_first (event.Step seat (atomic.Claim handle at bytes)) r w new sound step =
    ap (λ (f : FarState). f.first) (claim_leaves w new seat handle.n at bytes r step).far
event_first (event.Step seat (atomic.Store handle)) r w new sound step =
    ap (λ (f : FarState). f.first) (store_leaves w new seat handle.n r step).far
event_first (event.Step seat (atomic.Settle handle)) r w new sound step =
    ap (λ (f : FarState). f.first) (settle_leaves w new seat handle.n r step).far
event_first (event.Step seat atomic.Take) r w new sound step =
    ap (λ (f : FarState). f.first) (take_leaves w new seat r step).far
event_first (event.Step seat atomic.Give) r w new sound step =
    ap (λ (f : FarState). f.first) (give_leaves w new seat r step).far
