-- A turn that hands an order out or takes one, over the still desk, is a step of the world, and the
-- world stays sound.
use Rattle.std.proofs.Common.{◌≡◌, ℕ, ◌<◌, List, length, set, Option, None, refl, sym, ap, ◌∙◌, subst, arith, inr, get_or-set_same}
use Rattle.std.specs.Prelude.{Result, Ok, Err, IfOk, OnErr}
use Rattle.std.proofs.lemmas.List.{set-set}
use Rattle.cb_member.specs.declared.no_memory.NoMemory.{NoMemory}
use Rattle.cb_types.specs.declared.config.Config.{Config}
use Rattle.cb_types.specs.declared.job.Job.{Job}
use Rattle.cb_types.specs.declared.job.Job.TheVariants.{Fetch, Gather, Install, Land}
use Rattle.cb_types.specs.declared.order.Kept.{Kept}
use Rattle.cb_types.specs.declared.reply.Reply.{Reply}
use Rattle.cb_world.specs.declared.shown.Shown.{Shown}
use Rattle.cb_world.specs.FarState.{FarState}
use Rattle.cb_world.specs.Orders.{KeepsOrder}
use Rattle.cb_world.specs.Plain.{Words}
use Rattle.cb_world.specs.Played.{played}
use Rattle.cb_world.specs.Seats.{SeatState, idle_seat, order_of, seat_at, with_order}
use Rattle.cb_world.specs.Sound.{Sound}
use Rattle.cb_world.specs.StillDesk.{plain_follows}
use Rattle.cb_world.specs.World.{WorldState, IsKnown, IsSoundWorld}
use Rattle.cb_world.proofs.Laws.{order_put, order_then, same_orders, seat_beside}
use Rattle.cb_core.specs.Holding.{NoOtherHolds}
use Rattle.cb_core.specs.Jobs.{NeedsNoOrder}
use Rattle.cb_core.specs.Ordered.{EndsWith, StopsAt, TurnedWith}
use Rattle.cb_core.specs.Ordered.StopsAt.{in_part as stopped_in_part, in_run as stopped_in_run}
use Rattle.cb_core.specs.Ordered.TurnedWith.{done as was_done, worn as was_worn}
use Rattle.cb_core.specs.OrderLeaves.{LeavesWith}
use Rattle.cb_core.specs.Parts.{Holding}
use Rattle.cb_core.specs.Step.{EventStops, SeatTurn}
use Rattle.cb_core.specs.Step.OrderStops.{in_part, in_run}
use Rattle.cb_core.specs.Step.OrderTurn.{late, made}
use Rattle.cb_core.specs.Step.SeatTurn.{ordered}
use Rattle.cb_core.specs.declared.event.Event.TheVariants as event
use Rattle.cb_core.specs.Turned.{counted, once_counted}
use Rattle.cb_core.proofs.Admitted.{admitted_sound}
use Rattle.cb_core.proofs.Carried.{turn_rise}
use Rattle.cb_core.proofs.FarJobs.{note_of}
use Rattle.cb_core.proofs.HoldingSound.{open_seats}
use Rattle.cb_core.proofs.KeptParts.{Arrives, ArrivesBy}
use Rattle.cb_core.proofs.OpenSteps.{kept_pinned}
use Rattle.cb_core.proofs.OrdersCounted.{still_kept}
use Rattle.cb_core.proofs.StepFixed.{order_same}
use Rattle.cb_core.proofs.StillOrderParts.{ordered_lack, ordered_part}
use Rattle.cb_core.proofs.StillOrders.{Ran, SaysAll, known_alike}
use Rattle.cb_core.proofs.TurnCallsKept.{same_holding}
use Rattle.cb_core.proofs.WorldKept.{arrived_sound, counted_good, held, with_job}

-- none of the jobs that hand an order out or take one looks for a pair
as_noted : (c : Config) (seats : List SeatState) (job : Job) (n : ℕ) (a b : Holding Words)
    (Z : Type 0) → (NeedsNoOrder job → ⊥) → Arrives c seats n a b Z
    → ArrivesBy (note_of job) c seats n a b Z
as_noted c seats Gather n a b Z off z = z
as_noted c seats Install n a b Z off z = z
as_noted c seats (Fetch handle) n a b Z off z = z
as_noted c seats Land n a b Z off z = z
as_noted c seats job n a b Z off z = absurd (off tt)

-- ---- the seats
-- the world, where a seat keeps this order, or none
abbrev pub with_kept : WorldState → ℕ → Option Kept → WorldState
with_kept w seat keeps = record w { seats = with_order w.seats seat keeps }

module _ (w : WorldState) (seat : ℕ) (keeps : Option Kept) (sound : IsSoundWorld w)
    (within : seat < 64) where
  abbrev new : SeatState
  new = record (seat_at w.seats seat) { order = keeps }

  in_range : seat < length w.seats
  in_range = let n = sound.pinned.count in omega (arith, n, within)

  holds_same : (k : ℕ) → (seat_at (with_order w.seats seat keeps) k).holds
      ≡ (seat_at w.seats k).holds
  holds_same = seat_beside (λ (x : SeatState). x.holds) w.seats seat new refl

  pub order_sound : ((s : Shown) → IsKnown w.desk w.far s → KeepsOrder s w.far keeps)
      → IsSoundWorld (with_kept w seat keeps)
  order_sound kept = record {
    config = sound.config;
    configured = sound.configured;
    shown = sound.shown;
    known = sound.known;
    pinned = kept_pinned w.desk w.seats seat new refl in_range sound.pinned;
    ongoing = open_seats w.desk w.far w.seats (with_order w.seats seat keeps)
        (seat_beside (λ (x : SeatState). x.claims) w.seats seat new refl) sound.ongoing;
    one = λ a b x y. sound.one a b (sym (holds_same a) ∙ x) (sym (holds_same b) ∙ y);
    orders = order_put sound.shown w.far w.seats seat keeps in_range (kept sound.shown sound.known)
        sound.orders;
    counted = sound.counted;
  }

-- ---- a turn
-- an order that is kept is so for whoever knows all
kept_for : (w : WorldState) (order : Option Kept) (s t : Shown) → IsKnown w.desk w.far s
    → IsKnown w.desk w.far t → KeepsOrder s w.far order → KeepsOrder t w.far order
kept_for w order s t k l kept =
    order_then s t w.far w.far order (known_alike w.desk w.far s t k l) kept

-- what a turn left to a seat is so too
behind_for : (w : WorldState) (y : Words) (new : FarState) (order keeps : Option Kept)
    (sound : IsSoundWorld w) → KeepsOrder sound.shown w.far order
    → LeavesWith Ran SaysAll w.desk.settings (held w) (record { desk = y; far = new }) order keeps
    → (t : Shown) → IsKnown y new t → KeepsOrder t new keeps
behind_for w y new order keeps sound was x t k =
    let s = sound.shown in let es = x.leaves.events in
    let shows = (plain_follows es w.desk y s x.leaves.ran.0 sound.known.shows).1 in
    order_then (played es s) t new new keeps
    (same_orders (played es s) t new (k.shows.memory ∙ sym shows.memory))
    (x.kept s (sound.known.sized, sound.known.shows) sound.known.sound was)

pub record IsOrdered (w : WorldState) (seat : ℕ) (job : Job) (r : Reply) (keeps : Option Kept)
    (y : Words) (new : FarState) : Type 0 where
  pub sound : IsSoundWorld (with_kept (with_job w y new) seat keeps)
  pub step : SeatTurn seat job w r (with_kept (with_job w y new) seat keeps)

pub record IsOrderStopped (w : WorldState) (seat : ℕ) (job : Job) (y : Words) (new : FarState)
    : Type 0 where
  pub sound : IsSoundWorld (with_job w y new)
  pub stops : EventStops w (event.Turn seat job) (with_job w y new)

module _ (w : WorldState) (seat : ℕ) (job : Job) (sound : IsSoundWorld w) (within : seat < 64)
    (needs : NeedsNoOrder job → ⊥) (none : NoOtherHolds w.seats seat) where
  abbrev order : Option Kept
  order = order_of w.seats seat

  pub ordered_works : (r : Reply) (keeps : Option Kept) (y : Words) (new : FarState)
      → TurnedWith Ran SaysAll w.desk.settings job order (held w) r keeps
      (record { desk = y; far = new })
      → LeavesWith Ran SaysAll w.desk.settings (held w) (record { desk = y; far = new }) order keeps
      → IsOrdered w seat job r keeps y new
  ordered_works r keeps y new (was_worn end is same state ran) left =
      let stays : with_job w y new ≡ w =
      (λ i. record { desk = ran.0 i; far = state i; seats = w.seats }) in record {
        sound = order_sound (with_job w y new) seat keeps (subst IsSoundWorld (sym stays) sound) within
            (behind_for w y new order keeps sound (sound.orders seat) left);
        step = ordered keeps needs none
            (late end is same (same_holding (held w) (record { desk = y; far = new }) ran.0 state))
            refl;
      }
  ordered_works r keeps y new (was_done few does) left =
      let b : Holding Words = record { desk = y; far = new } in
      let good = counted_good w job sound in
      let z = ordered_part w.desk.settings w.seats sound.config job order keeps
      (once_counted (held w) job) b r good
      (order_then sound.shown sound.shown w.far (counted w.far job) order
      (still_kept sound.shown w.far job) (sound.orders seat)) does in
      record {
        sound = order_sound (with_job w y new) seat keeps
            (arrived_sound w job b _ sound few (as_noted w.desk.settings w.seats job turn_rise
            (once_counted (held w) job) b _ needs z)) within
            (behind_for w y new order keeps sound (sound.orders seat) left);
        step = ordered keeps needs none (made few z.is) refl;
      }

  -- one that found no memory
  pub ordered_stops : (y : Words) (new : FarState)
      → StopsAt Ran SaysAll w.desk.settings job order (held w) (record { desk = y; far = new })
      → IsOrderStopped w seat job y new
  ordered_stops y new (stopped_in_run few runs (ran, state)) =
      let same = same_holding (once_counted (held w) job) (record { desk = y; far = new }) ran.0
      state in
      let there : with_job w y new ≡ record w { far = counted w.far job } =
      (λ i. record { desk = ran.0 i; far = state i; seats = w.seats }) in record {
        sound = subst IsSoundWorld (sym there) (admitted_sound w job sound few);
        stops = (none, inr (few, refl, in_run runs same));
      }
  ordered_stops y new (stopped_in_part stopped) =
      let b : Holding Words = record { desk = y; far = new } in
      let z = ordered_lack w.desk.settings w.seats sound.config job order
      (once_counted (held w) job) b (counted_good w job sound) stopped.stops in
      record {
        sound = arrived_sound w job b _ sound stopped.few (as_noted w.desk.settings w.seats job turn_rise
            (once_counted (held w) job) b _ needs z);
        stops = (none, inr (stopped.few, refl, in_part z.is));
      }

-- ---- the seat's order is taken out before the turn, and what the seat keeps is put back behind it
order_taken : (seats : List SeatState) (seat : ℕ) (keeps : Option Kept) → seat < length seats
    → with_order (with_order seats seat None) seat keeps ≡ with_order seats seat keeps
order_taken seats seat keeps within =
    let bare : SeatState = record (seat_at seats seat) { order = None } in
    ap (λ (x : SeatState). set (set seats seat bare) seat (record x { order = keeps }))
    (get_or-set_same seats seat bare idle_seat within)
    ∙ set-set seats seat bare (record (seat_at seats seat) { order = keeps })

-- the order that a seat keeps is so for all that the desk shows
pub kept_shown : (w : WorldState) (seat : ℕ) (o : Option Kept) (sound : IsSoundWorld w)
    → o ≡ order_of w.seats seat → (s : Shown) → SaysAll w.desk s → Sound s w.far
    → KeepsOrder s w.far o
kept_shown w seat o sound is s shows here = subst (KeepsOrder s w.far) (sym is)
    (order_then sound.shown s w.far w.far (order_of w.seats seat)
    (same_orders sound.shown s w.far (shows.1.memory ∙ sym sound.known.shows.memory))
    (sound.orders seat))

-- what the turn comes to
pub record IsOrderTurned (w : WorldState) (seat : ℕ) (job : Job) (q : Result Reply NoMemory)
    (new : WorldState) : Type 0 where
  pub sound : IsSoundWorld new
  pub step : IfOk q (λ r. SeatTurn seat job w r new)
  pub stops : OnErr q (EventStops w (event.Turn seat job) new)

order_ends : (w : WorldState) (seat : ℕ) (job : Job) (keeps : Option Kept)
    (q : Result Reply NoMemory) (y : Words) (new : FarState) (seats : List SeatState)
    → IsSoundWorld w → seat < 64 → (NeedsNoOrder job → ⊥) → NoOtherHolds w.seats seat
    → EndsWith Ran SaysAll w.desk.settings job (order_of w.seats seat) (held w) keeps q
    (record { desk = y; far = new })
    → LeavesWith Ran SaysAll w.desk.settings (held w) (record { desk = y; far = new })
    (order_of w.seats seat) keeps
    → seats ≡ with_order w.seats seat keeps
    → IsOrderTurned w seat job q (record { desk = y; far = new; seats = seats })
order_ends w seat job keeps (Ok r) y new seats sound within needs none ends left put =
    subst (λ (l : List SeatState). IsOrderTurned w seat job (Ok r)
    (record { desk = y; far = new; seats = l })) (sym put)
    (let z = ordered_works w seat job sound within needs none r keeps y new ends left in
    record { sound = z.sound; step = z.step; stops = tt })
order_ends w seat job keeps (Err e) y new seats sound within needs none (same, stops) left put =
    subst (λ (l : List SeatState). IsOrderTurned w seat job (Err e)
    (record { desk = y; far = new; seats = l }))
    (sym (put ∙ ap (with_order w.seats seat) same ∙ order_same w.seats seat))
    (let z = ordered_stops w seat job sound within needs none y new stops in
    record { sound = z.sound; step = tt; stops = z.stops })

-- the same from the seats without the order that was taken out, for the world as it is named elsewhere
pub order_turned : (w v : WorldState) (seat : ℕ) (job : Job) (order keeps : Option Kept)
    (p q : Result Reply NoMemory) (y : Words) (new : FarState) (taken seats : List SeatState)
    → w ≡ v → IsSoundWorld v → seat < 64 → (NeedsNoOrder job → ⊥) → NoOtherHolds v.seats seat
    → order ≡ order_of w.seats seat → taken ≡ with_order w.seats seat None
    → seats ≡ with_order taken seat keeps → p ≡ q
    → EndsWith Ran SaysAll w.desk.settings job order (held w) keeps q
    (record { desk = y; far = new })
    → LeavesWith Ran SaysAll w.desk.settings (held w) (record { desk = y; far = new }) order keeps
    → IsOrderTurned v seat job p (record { desk = y; far = new; seats = seats })
order_turned w v seat job order keeps p q y new taken seats same sound within needs none is out put
    answer ends left =
    subst (λ (x : WorldState). IsSoundWorld x → NoOtherHolds x.seats seat
    → IsOrderTurned x seat job p (record { desk = y; far = new; seats = seats })) same there sound none
  where
    there : IsSoundWorld w → NoOtherHolds w.seats seat
        → IsOrderTurned w seat job p (record { desk = y; far = new; seats = seats })
    there here alone = subst (λ (r : Result Reply NoMemory). IsOrderTurned w seat job r
        (record { desk = y; far = new; seats = seats })) (sym answer)
        (order_ends w seat job keeps q y new seats here within needs alone
        (subst (λ (o : Option Kept). EndsWith Ran SaysAll w.desk.settings job o (held w) keeps q
        (record { desk = y; far = new })) is ends)
        (subst (λ (o : Option Kept). LeavesWith Ran SaysAll w.desk.settings (held w)
        (record { desk = y; far = new }) o keeps) is left)
        (put ∙ ap (λ (l : List SeatState). with_order l seat keeps) out
        ∙ order_taken w.seats seat keeps
        (let n = here.pinned.count in omega (arith, n, within))))
