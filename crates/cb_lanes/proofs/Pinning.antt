-- A pin, a peek, an unpin and a leave are answered as the map beside the world answers them.
use Rattle.std.proofs.Common.{◌≡◌, ℕ, zero, suc, ◌+◌, ◌^◌, ◌<◌, ◌≤◌, List, [], length, take, drop}
use Rattle.std.proofs.Common.{get_or, None, Some, refl, sym, ap, ◌∙◌, subst, arith, inl, inr}
use Rattle.std.proofs.Common.{nat_eq}
use Rattle.std.proofs.lemmas.List.{length-take, get_or-drop, get_or-take}
use Rattle.std.proofs.lemmas.List.Elements.{All-get_or, All-from_get_or}
use Rattle.std.proofs.lemmas.List.Sums.{sum_by-take-drop, sum_by-le, count_by-le-length}
use Rattle.std.proofs.lemmas.Option.{slice_get_within, get_or_from_slice_get}
use Rattle.cb_ptr.specs.declared.word.State.{State}
use Rattle.cb_ptr.specs.declared.word.State.TheVariants as state
use Rattle.cb_ptr.specs.Word.{state_of, len_of, pins_of}
use Rattle.cb_types.specs.declared.answer.Answer.{Answer}
use Rattle.cb_types.specs.declared.job.Job.TheVariants as job
use Rattle.cb_types.specs.declared.request.Request.TheVariants.{Pin, Peek, Unpin, Leave}
use Rattle.cb_types.specs.declared.reply.Reply.{Reply}
use Rattle.cb_types.specs.declared.reply.Reply.TheVariants as answer
use Rattle.cb_types.specs.Table.{IsReplyOf}
use Rattle.cb_model.specs.declared.object.Object.TheVariants.{Held, Freed}
use Rattle.cb_model.specs.Now.{MapNow}
use Rattle.cb_model.specs.Event.{Event, event_of, change_of}
use Rattle.cb_model.specs.Event.Subject.{Other}
use Rattle.cb_model.specs.Event.Event.{Shows, Pins, Refused}
use Rattle.cb_model.specs.Called.{handle_of, handle_for, called, calls_of, made_by, makes, value_at}
use Rattle.cb_model.specs.Replies.{MapReplies}
use Rattle.cb_script.specs.declared.script.Line.{Line}
use Rattle.cb_world.specs.declared.seats.SeatPin.{SeatPin}
use Rattle.cb_world.specs.declared.shown.Shown.{Shown}
use Rattle.cb_world.specs.FarState.{FarState}
use Rattle.cb_world.specs.Memory.{bytes_in}
use Rattle.cb_world.specs.Now.{Now, now}
use Rattle.cb_world.specs.Now.Now.{never, freed, held, gone}
use Rattle.cb_world.specs.Plain.{Words}
use Rattle.cb_world.specs.Seats.{IsNewestOf, SeatState, idle_seat, pins_among, pins_of_seat}
use Rattle.cb_world.specs.StillWords.{stamp_at, contents_at}
use Rattle.cb_world.specs.World.{WorldState, IsSoundWorld, word_at}
use Rattle.cb_mutate.specs.MapCalls.{IsValue, IsMapCall, IsCallOn}
use Rattle.cb_mutate.specs.StillReplies.{reply_as}
use Rattle.cb_mutate.proofs.Laws.{call_follows, beside_kept, was_made, IsOnContents, map_same}
use Rattle.cb_mutate.proofs.Laws.{call_by_state, near_held, here_near}
use Rattle.cb_core.specs.OnceHere.{IsThere}
use Rattle.cb_core.specs.Pinning.{PinStep, scope_full, refused, taken, pin_refusal, UnpinStep}
use Rattle.cb_core.specs.Pinning.{not_pinned as unpin_refused, given}
use Rattle.cb_core.specs.declared.event.Atomic.TheVariants as atomic
use Rattle.cb_core.specs.declared.event.Event.TheVariants as event
use Rattle.cb_core.specs.Step.{TurnStep}
use Rattle.cb_core.proofs.Laws.{step_settings, turn_settings, swap_turn, turn_turns, IsSameMap}
use Rattle.cb_core.proofs.Laws.{swap_sound, IsSwapRefusal, SwapEnds, refused as swap_refused, stays}
use Rattle.cb_core.proofs.Laws.{swapped, refusal_line}
use Rattle.cb_lanes.specs.Asked.{answer_to, HasLineReply}
use Rattle.cb_lanes.specs.GivingBack.{GivesAll}
use Rattle.cb_lanes.specs.LineStep.{PeekStep, not_pinned, shown, PinLine, at_once}
use Rattle.cb_lanes.specs.LineStep.{stays_far, swapped_in}
use Rattle.cb_lanes.proofs.FarPins.{refused_not_there}
use Rattle.cb_lanes.proofs.GivingBack.{StandsWithout, pin_stands, unpin_stands, stands_same}
use Rattle.cb_lanes.proofs.GivingBack.{gives_all, pinned_here, pin_below}
use Rattle.cb_lanes.proofs.Silent.{silent_follows}
use Rattle.cb_lanes.proofs.Lone.{turn_alone, turn_seats}
use Rattle.cb_lanes.proofs.Turning.{AroundLine, Turning, around, within, LineGives, call_goes}

-- a world that changed in pins alone goes on by what it answers
step_goes : (answers : List Answer) (a : Answer) (w new : WorldState) (h : ℕ)
    → (c : AroundLine answers w new)
    → new.far ≡ w.far
    → IsCallOn w.desk.settings.handles c.before.shown c.then.shown w.far new.far h a.request a.reply
    → handle_for answers a.request a.reply ≡ Some h → HasLineReply a
    → LineGives answers a w new c.then.shown
step_goes answers a w new h c far call about reply = record {
  follows = call_follows w.desk.settings.handles (calls_of answers)
      (called answers a) c.before.shown
      c.then.shown w.far new.far h a.request a.reply c.beside call
      (record { about = about; event = refl });
  reply = reply;
  first = ap (λ (f : FarState). f.first) far;
  turns = omega (arith, ap (λ (f : FarState). f.counts.turns) far);
}

-- so does one that is answered about an object, and changes nothing of what any holds
kept_goes : (answers : List Answer) (a : Answer) (w new : WorldState) (h : ℕ) (e : Event)
    → (c : AroundLine answers w new) → new.far ≡ w.far
    → ((k : ℕ) → now c.then.shown new.far k ≡ now c.before.shown w.far k)
    → event_of a.request a.reply ≡ e → change_of e ≡ [] → made_by e ≡ 0
    → ((m : MapNow) → IsValue m (now c.before.shown w.far h)
    → MapReplies w.far.first w.desk.settings.handles w.far.made (Some h) m e)
    → handle_for answers a.request a.reply ≡ Some h → HasLineReply a
    → LineGives answers a w new c.then.shown
kept_goes answers a w new h e c far same event silent none replies about reply =
    step_goes answers a w new h c far (record {
      own = subst (IsMapCall w.far.first w.desk.settings.handles w.far.made
          (Some h) a.request a.reply
          (now c.before.shown w.far h)) (sym (same h))
          (map_same w.far.first w.desk.settings.handles w.far.made (Some h) a.request a.reply
          (now c.before.shown w.far h) e event silent replies);
      others = λ k off. same k;
      counted = omega (arith, ap (λ (f : FarState). f.made) far, ap made_by event, none);
    }) about reply

-- ---- what the map answers

-- an object that was made is there, or was freed
refused_other : (n : Now) (first handles made h : ℕ) (m : MapNow) → (n ≡ never → ⊥) → IsValue m n
    → MapReplies first handles made (Some h) m (Refused Other)
refused_other never first handles made h m off is = absurd (off refl)
refused_other (freed v) first handles made h None off is = absurd is
refused_other (freed v) first handles made h (Some (Freed u)) off is = tt
refused_other (freed v) first handles made h (Some (Held u b)) off is = absurd is
refused_other (held v bytes) first handles made h None off is = absurd is
refused_other (held v bytes) first handles made h (Some (Freed u)) off is = absurd is
refused_other (held v bytes) first handles made h (Some (Held u b)) off is = tt
refused_other (gone v) first handles made h None off is = absurd is
refused_other (gone v) first handles made h (Some (Freed u)) off is = absurd is
refused_other (gone v) first handles made h (Some (Held u b)) off is = tt

pins_by : (v first handles made h : ℕ) (bytes : List ℕ) (m : MapNow) → IsValue m (held v bytes)
    → MapReplies first handles made (Some h) m (Pins v)
pins_by v first handles made h bytes None is = absurd is
pins_by v first handles made h bytes (Some (Freed u)) is = absurd is
pins_by v first handles made h bytes (Some (Held u b)) is = is.0

shows_by : (v first handles made h : ℕ) (bytes : List ℕ) (m : MapNow) → IsValue m (held v bytes)
    → MapReplies first handles made (Some h) m (Shows v bytes)
shows_by v first handles made h bytes None is = absurd is
shows_by v first handles made h bytes (Some (Freed u)) is = absurd is
shows_by v first handles made h bytes (Some (Held u b)) is = is

-- a line on an object that was made, which is refused and tells nothing of it
refused_goes : (answers : List Answer) (a : Answer) (w new : WorldState) (h : ℕ)
    → (c : AroundLine answers w new)
    → h < w.far.made → new ≡ w → event_of a.request a.reply ≡ Refused Other
    → handle_for answers a.request a.reply ≡ Some h → HasLineReply a
    → LineGives answers a w new c.then.shown
refused_goes answers a w new h c made same event about reply =
    kept_goes answers a w new h (Refused Other) c (ap (λ (v : WorldState). v.far) same)
    (λ k. (stands_same 0 w new c.before same).holds c.before.shown c.then.shown k c.before.known
    c.then.known)
    event refl refl
    (λ m. refused_other (now c.before.shown w.far h) w.far.first w.desk.settings.handles w.far.made
    h m
    (was_made c.before.shown w.far h c.before.known.sound made)) about reply

-- ---- a pin

-- where the seats of the 16 lanes alone have pins, no word has as many as it can count
pub not_crowded : (w : WorldState) (h : ℕ) → IsSoundWorld w → h < length w.desk.words
    → ((seat : ℕ) → 16 ≤ seat → pins_of_seat w.seats seat ≡ []) → pins_of (word_at w.desk h) < 1023
not_crowded w h sound below none =
    let all = sum_by-take-drop on w.seats 16 in
    let low = sum_by-le on 16 (take 16 w.seats) (All-from_get_or (λ (x : SeatState). on x ≤ 16)
    (take 16 w.seats) idle_seat few) in
    let high = sum_by-le on 0 (drop 16 w.seats) (All-from_get_or (λ (x : SeatState). on x ≤ 0)
    (drop 16 w.seats) idle_seat rest) in
    let counted = sound.pinned.counted h below in
    omega (arith, all, low, high, counted, length-take 16 w.seats)
  where
    on : SeatState → ℕ
    on x = pins_among h x.pins

    short : (pins : List SeatPin) → pins_among h pins ≤ length pins
    short pins = count_by-le-length (λ (p : SeatPin). nat_eq p.handle h) pins

    few : (i : ℕ) → i < length (take 16 w.seats) → on (get_or (take 16 w.seats) i idle_seat) ≤ 16
    few i lt =
        let below : i < length w.seats = omega (arith, lt, length-take 16 w.seats) in
        let low : i < 16 = omega (arith, lt, length-take 16 w.seats) in
        let own = All-get_or (λ (x : SeatState). length x.pins ≤ 16) w.seats i idle_seat below
        sound.pinned.few in
        let same = get_or-take 16 w.seats i idle_seat low in
        let fits = short (pins_of_seat w.seats i) in
        subst (λ (x : SeatState). on x ≤ 16) (sym same) (omega (arith, own, fits))

    rest : (i : ℕ) → i < length (drop 16 w.seats) → on (get_or (drop 16 w.seats) i idle_seat) ≤ 0
    rest i lt =
        subst (λ (x : SeatState). on x ≤ 0) (sym (get_or-drop 16 w.seats i idle_seat))
        (subst (λ (ps : List SeatPin). pins_among h ps ≤ 0)
        (sym (none (16 + i) (omega arith))) (omega arith))

on_pin : (name : List ℕ) → IsOnContents (Pin name)
on_pin name = record {
  unmade = refl;
  freed = refl;
  not_here = refl;
  moving = refl;
  pinned = λ count. refl;
  worn = refl;
}

empty_line : (name : List ℕ) (v : ℕ) (here : Reply)
    → IsReplyOf (Pin name) (reply_as state.Empty v here)
empty_line name zero here = tt
empty_line name (suc v) here = tt

refused_line : (name : List ℕ) (q : State) (v : ℕ) → (q ≡ state.Far → ⊥) → (q ≡ state.Here → ⊥)
    → IsReplyOf (Pin name) (reply_as q v answer.Crowded)
refused_line name state.Empty v far here = empty_line name v answer.Crowded
refused_line name state.Far v far here = absurd (far refl)
refused_line name state.Here v far here = absurd (here refl)
refused_line name state.Moving v far here = tt

refusal_as : (q : State) (v pins : ℕ) → pin_refusal q v pins ≡ reply_as q v answer.Crowded
refusal_as state.Empty v pins = refl
refusal_as state.Far v pins = refl
refusal_as state.Here v pins = refl
refusal_as state.Moving v pins = refl

pin_here_goes : (answers : List Answer) (l : Line) (name : List ℕ) (h : ℕ) (r : Reply)
    (w new : WorldState)
    → (c : AroundLine answers w new) → l.lane.n < 64 → h < w.desk.settings.handles → h < w.far.made
    → ((seat : ℕ) → 16 ≤ seat → pins_of_seat w.seats seat ≡ [])
    → handle_of answers name ≡ Some h → PinStep l.lane.n h w r new → (r ≡ answer.NotHere → ⊥)
    → LineGives answers (answer_to l (Pin name) r) w new c.then.shown
pin_here_goes answers l name h r w new c lt below made few named (scope_full full is same) unless =
    subst (λ (q : Reply). LineGives answers (answer_to l (Pin name) q) w new c.then.shown) (sym is)
    (refused_goes answers (answer_to l (Pin name) answer.ScopeFull) w new h c made same refl named
    tt)
pin_here_goes answers l name h r w new c lt below made few named
    (refused room never_may is same) unless =
    let at = within w h c.before below in
    let by : r ≡ reply_as (state_of (word_at w.desk h)) (stamp_at w.desk h) answer.Crowded =
    is ∙ refusal_as (state_of (word_at w.desk h)) (stamp_at w.desk h)
    (pins_of (word_at w.desk h)) in
    let off : state_of (word_at w.desk h) ≡ state.Here → ⊥ =
    (λ here. never_may (record { here = here; room = not_crowded w h c.before at few })) in
    step_goes answers (answer_to l (Pin name) r) w new h c (ap (λ (v : WorldState). v.far) same)
    (call_by_state (λ q. Unit {0}) w.desk new.desk w.far new.far c.before.shown c.then.shown h
    w.desk.settings.handles (Pin name) r answer.Crowded
    (record { before = c.before.known; afterwards = c.then.known }) at (on_pin name)
    (record { unmade = λ z. stays; freed = λ z. stays; not_here = λ z. stays; moving = λ z. stays })
    by tt (λ here e. absurd (off here)))
    named
    (subst (IsReplyOf (Pin name)) (sym by) (refused_line name (state_of (word_at w.desk h))
    (stamp_at w.desk h) (λ away. unless
    (by ∙ ap (λ q. reply_as q (stamp_at w.desk h) answer.Crowded) away)) off))
  where
    stays : (new.desk ≡ w.desk) × (new.far ≡ w.far)
    stays = (ap (λ (v : WorldState). v.desk) same, ap (λ (v : WorldState). v.far) same)
pin_here_goes answers l name h r w new c lt below made few named (taken room may is t) unless =
    subst (λ (q : Reply). LineGives answers (answer_to l (Pin name) q) w new c.then.shown) (sym is)
    (kept_goes answers (answer_to l (Pin name) (answer.Version (stamp_at w.desk h))) w new h
    (Pins (stamp_at w.desk h)) c t.far
    (λ k. (pin_stands w new l.lane.n h r c.before lt below (taken room may is t)).holds
    c.before.shown c.then.shown k c.before.known c.then.known)
    refl refl refl
    (λ m value. pins_by (stamp_at w.desk h) w.far.first w.desk.settings.handles w.far.made h
    (bytes_in (contents_at w.desk h) (len_of (word_at w.desk h))) m
    (subst (IsValue m) (near_held w.desk w.far c.before.shown h c.before.known
    (within w h c.before below)
    (here_near (word_at w.desk h) may.here)) value)) named tt)

-- ---- a pin of an object wherever it is

pub in_or_refused : (y : Words) (h : ℕ) (r : Reply) → SwapEnds y h r → (IsThere r → ⊥)
    → IsSwapRefusal r
in_or_refused y h r (swap_refused z) off = z
in_or_refused y h r (stays e here) off = absurd (off (inl e))
in_or_refused y h r (swapped f e here) off = absurd (off (inr (f, e)))

in_is_here : (y : Words) (h : ℕ) (r : Reply) → SwapEnds y h r → IsThere r
    → state_of (word_at y h) ≡ state.Here
in_is_here y h r (swap_refused z) is = absurd (refused_not_there r z is)
in_is_here y h r (stays e here) is = here
in_is_here y h r (swapped f e here) is = here

-- an object that is here is not answered as one that is not
pin_is_here : (seat h : ℕ) (w new : WorldState) (r : Reply) → PinStep seat h w r new
    → state_of (word_at w.desk h) ≡ state.Here → r ≡ answer.NotHere → ⊥
pin_is_here seat h w new r (scope_full full is same) here e = full_not_here (sym is ∙ e)
  where
    full_not_here : answer.ScopeFull ≡ answer.NotHere → ⊥
    full_not_here e = cc
pin_is_here seat h w new r (refused room unless is same) here e = crowded_not_here
    (sym (is ∙ ap (λ q. pin_refusal q (stamp_at w.desk h) (pins_of (word_at w.desk h))) here) ∙ e)
  where
    crowded_not_here : answer.Crowded ≡ answer.NotHere → ⊥
    crowded_not_here e = cc
pin_is_here seat h w new r (taken room may is t) here e = version_not_here (sym is ∙ e)
  where
    version_not_here : answer.Version (stamp_at w.desk h) ≡ answer.NotHere → ⊥
    version_not_here e = cc

-- what a swap before a pin leaves
pub record SwappedIn (w n : WorldState) (h : ℕ) (s t : Shown) : Type 0 where
  pub same : IsSameMap s t w.far n.far
  pub here : state_of (word_at n.desk h) ≡ state.Here
  pub turns : n.far.counts.turns ≡ w.far.counts.turns + 1
  pub settings : n.desk.settings ≡ w.desk.settings
  pub seats : n.seats ≡ w.seats

pub swapped_here : (w n : WorldState) (h seat : ℕ) (q : Reply) → (before : IsSoundWorld w)
    → (after : IsSoundWorld n) → w.far.counts.turns < 2 ^ 40 → h < w.desk.settings.handles
    → TurnStep (job.Swap (record { n = h })) w q n → IsThere q
    → SwappedIn w n h before.shown after.shown
swapped_here w n h seat q before after few below step is =
    let j = job.Swap (record { n = h }) in
    let z = swap_turn w n h q before after few below step in record {
      same = z.same;
      here = in_is_here n.desk h q z.ends is;
      turns = turn_turns j w n q before few step;
      settings = turn_settings w n j q step;
      seats = turn_seats j w n q step;
    }

stays_goes : (answers : List Answer) (l : Line) (name : List ℕ) (h : ℕ) (r : Reply)
    (w new : WorldState)
    → (c : Turning answers w new) → h < w.desk.settings.handles → handle_of answers name ≡ Some h
    → TurnStep (job.Swap (record { n = h })) w r new → (IsThere r → ⊥)
    → LineGives answers (answer_to l (Pin name) r) w new c.then.shown
stays_goes answers l name h r w new c below named step off =
    let j = job.Swap (record { n = h }) in
    let z = swap_turn w new h r c.before c.then c.few below step in
    call_goes answers (answer_to l (Pin name) r) w new j r h c step (z.call name) named
    (refusal_line name r (in_or_refused new.desk h r z.ends off))

swapped_goes : (answers : List Answer) (l : Line) (name : List ℕ) (h : ℕ) (q r : Reply)
    (w n new : WorldState) → (c : Turning answers w new) → l.lane.n < 64
    → h < w.desk.settings.handles
    → h < w.far.made → ((seat : ℕ) → 16 ≤ seat → pins_of_seat w.seats seat ≡ [])
    → handle_of answers name ≡ Some h → TurnStep (job.Swap (record { n = h })) w q n → IsThere q
    → PinStep l.lane.n h n r new → LineGives answers (answer_to l (Pin name) r) w new c.then.shown
swapped_goes answers l name h q r w n new c lt below made few named swap is pin =
    let after = swap_sound w n h q c.before swap in
    let z = swapped_here w n h l.lane.n q c.before after c.few below swap is in
    let d : AroundLine answers n new = record {
      before = after;
      then = c.then;
      beside = beside_kept (calls_of answers) c.before.shown after.shown w.far n.far c.beside
          z.same.made
          z.same.now;
    } in
    let below_n : h < n.desk.settings.handles = subst (λ s. h < s.handles) (sym z.settings) below in
    let made_n : h < n.far.made = subst (λ k. h < k) (sym z.same.made) made in
    let goes = pin_here_goes answers l name h r n new d lt below_n made_n
    (λ seat high. ap (λ (xs : List SeatState). pins_of_seat xs seat) z.seats ∙ few seat high) named
    pin
    (pin_is_here l.lane.n h n new r pin z.here) in
    let far = (pin_stands n new l.lane.n h r after lt below_n pin).far in
    let a = answer_to l (Pin name) r in record {
      follows = record {
        reply = subst (λ k. MapReplies k w.desk.settings.handles (makes (calls_of answers))
            (called answers a).handle (value_at (calls_of answers) (called answers a).handle)
            (called answers a).event) z.same.first
            (subst (λ s. MapReplies n.far.first s.handles (makes (calls_of answers))
            (called answers a).handle (value_at (calls_of answers) (called answers a).handle)
            (called answers a).event) z.settings goes.follows.reply);
        beside = goes.follows.beside;
      };
      reply = goes.reply;
      first = goes.first ∙ z.same.first;
      turns = omega (arith, ap (λ (f : FarState). f.counts.turns) far, z.turns);
    }

pub pin_goes : (answers : List Answer) (l : Line) (name : List ℕ) (h : ℕ) (r : Reply)
    (w new : WorldState)
    → (c : Turning answers w new) → l.lane.n < 64 → h < w.desk.settings.handles → h < w.far.made
    → ((seat : ℕ) → 16 ≤ seat → pins_of_seat w.seats seat ≡ [])
    → handle_of answers name ≡ Some h → PinLine l.lane.n h w r new
    → LineGives answers (answer_to l (Pin name) r) w new c.then.shown
pin_goes answers l name h r w new c lt below made few named (at_once pin unless) =
    pin_here_goes answers l name h r w new (around answers w new c) lt below made few named
    pin unless
pin_goes answers l name h r w new c lt below made few named (stays_far away swap off) =
    stays_goes answers l name h r w new c below named
    (turn_alone l.lane.n (job.Swap (record { n = h })) w new r tt c.lone swap) off
pin_goes answers l name h r w new c lt below made few named (swapped_in m q away swap is again) =
    swapped_goes answers l name h q r w m new c lt below made few named
    (turn_alone l.lane.n (job.Swap (record { n = h })) w m q tt c.lone swap) is again

-- no pin changes the configuration
pub pin_settings : (seat h : ℕ) (w new : WorldState) (r : Reply) → PinLine seat h w r new
    → new.desk.settings ≡ w.desk.settings
pin_settings seat h w new r (at_once pin unless) =
    step_settings w new (event.Step seat (atomic.Pin (record { n = h }))) r pin
pin_settings seat h w new r (stays_far away swap off) =
    step_settings w new (event.Turn seat (job.Swap (record { n = h }))) r swap
pin_settings seat h w new r (swapped_in m q away swap is again) =
    step_settings m new (event.Step seat (atomic.Pin (record { n = h }))) r again
    ∙ step_settings w m (event.Turn seat (job.Swap (record { n = h }))) q swap

-- ---- a peek

-- a pin's version is that of the object
pub pin_version : (w : WorldState) (seat at h : ℕ) → IsSoundWorld w → seat < 64
    → (n : IsNewestOf (pins_of_seat w.seats seat) h at) → n.pin.version ≡ stamp_at w.desk h
pin_version w seat at h sound lt n =
    let pins = pins_of_seat w.seats seat in
    let all = All-get_or (λ (y : SeatPin). y.version ≡ get_or w.desk.versions y.handle 0) pins at
    n.pin
    (slice_get_within pins at n.pin n.there)
    (All-get_or (λ (x : SeatState). (k : ℕ) (d : SeatPin) → k < length x.pins
    → (get_or x.pins k d).version ≡ get_or w.desk.versions (get_or x.pins k d).handle 0)
    w.seats seat idle_seat (omega (arith, lt, sound.pinned.count)) sound.pinned.versions) in
    subst (λ (p : SeatPin). p.version ≡ stamp_at w.desk p.handle)
    (get_or_from_slice_get pins at n.pin n.pin n.there) all
    ∙ ap (stamp_at w.desk) n.on

pub peek_goes : (answers : List Answer) (l : Line) (name : List ℕ) (h : ℕ) (r : Reply)
    (w new : WorldState)
    → (c : AroundLine answers w new) → l.lane.n < 64 → h < w.far.made
    → handle_of answers name ≡ Some h
    → PeekStep l.lane.n h w r new → LineGives answers (answer_to l (Peek name) r) w new c.then.shown
peek_goes answers l name h r w new c lt made named (not_pinned none is same) =
    subst (λ (q : Reply). LineGives answers (answer_to l (Peek name) q) w new c.then.shown) (sym is)
    (refused_goes answers (answer_to l (Peek name) answer.NotPinned) w new h c made same refl named
    tt)
peek_goes answers l name h r w new c lt made named (shown at newest is same) =
    let bytes = bytes_in (contents_at w.desk h) (len_of (word_at w.desk h)) in
    let own : r ≡ answer.Bytes (stamp_at w.desk h) bytes =
    is ∙ ap (λ (v : ℕ). answer.Bytes v bytes) (pin_version w l.lane.n at h c.before lt newest) in
    let here = pinned_here w l.lane.n at h c.before lt newest in
    let below = pin_below w l.lane.n at h c.before lt newest in
    subst (λ (q : Reply). LineGives answers (answer_to l (Peek name) q) w new c.then.shown)
    (sym own)
    (kept_goes answers (answer_to l (Peek name) (answer.Bytes (stamp_at w.desk h) bytes)) w new h
    (Shows (stamp_at w.desk h) bytes) c (ap (λ (v : WorldState). v.far) same)
    (λ k. (stands_same 0 w new c.before same).holds c.before.shown c.then.shown k c.before.known
    c.then.known)
    refl refl refl
    (λ m value. shows_by (stamp_at w.desk h) w.far.first w.desk.settings.handles w.far.made h bytes
    m
    (subst (IsValue m) (near_held w.desk w.far c.before.shown h c.before.known below
    (here_near (word_at w.desk h) here)) value)) named tt)

-- ---- an unpin

pub unpin_goes : (answers : List Answer) (l : Line) (name : List ℕ) (h : ℕ) (r : Reply)
    (w new : WorldState)
    → (c : AroundLine answers w new) → l.lane.n < 64 → h < w.desk.settings.handles → h < w.far.made
    → handle_of answers name ≡ Some h → UnpinStep l.lane.n h w r new
    → LineGives answers (answer_to l (Unpin name) r) w new c.then.shown
unpin_goes answers l name h r w new c lt below made named (unpin_refused none is same) =
    subst (λ (q : Reply). LineGives answers (answer_to l (Unpin name) q) w new c.then.shown)
    (sym is)
    (refused_goes answers (answer_to l (Unpin name) answer.NotPinned) w new h c made same refl named
    tt)
unpin_goes answers l name h r w new c lt below made named (given is t) =
    subst (λ (q : Reply). LineGives answers (answer_to l (Unpin name) q) w new c.then.shown)
    (sym is)
    (kept_goes answers (answer_to l (Unpin name) answer.Done) w new h (Refused Other) c t.far
    (λ k. (unpin_stands w new l.lane.n h r c.before lt below (given is t)).holds
    c.before.shown c.then.shown k c.before.known c.then.known)
    refl refl refl
    (λ m. refused_other (now c.before.shown w.far h) w.far.first w.desk.settings.handles w.far.made
    h m
    (was_made c.before.shown w.far h c.before.known.sound made)) named tt)

-- ---- a leave

pub leave_goes : (answers : List Answer) (l : Line) (n : ℕ) (r : Reply) (w new : WorldState)
    → (c : AroundLine answers w new) → l.lane.n < 64 → r ≡ answer.Left n → GivesAll l.lane.n w new
    → LineGives answers (answer_to l Leave r) w new c.then.shown
leave_goes answers l n r w new c lt is leads =
    subst (λ (q : Reply). LineGives answers (answer_to l Leave q) w new c.then.shown) (sym is)
    (record {
      follows = silent_follows w.desk.settings.handles (calls_of answers)
          (called answers (answer_to l Leave (answer.Left n))) c.then.shown w.far new.far
          (beside_kept (calls_of answers) c.before.shown c.then.shown w.far new.far c.beside
          (ap (λ (f : FarState). f.made) gave.far)
          (λ k. gave.holds c.before.shown c.then.shown k c.before.known c.then.known))
          refl refl tt;
      reply = tt;
      first = ap (λ (f : FarState). f.first) gave.far;
      turns = omega (arith, ap (λ (f : FarState). f.counts.turns) gave.far);
    })
  where
    gave : StandsWithout l.lane.n w new
    gave = (gives_all l.lane.n w new c.before lt leads).0

-- ---- a name that has no handle
