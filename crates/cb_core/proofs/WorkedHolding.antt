-- Worked examples of turns beside the far lock: those that take place and those that are refused, and
-- each with one part broken.
use Rattle.std.proofs.Common.{◌≡◌, ℕ, zero, suc, true, false, List, [], ◌∷◌, None, refl, ap, sym, inl, lit<, arith}
use Rattle.cb_types.specs.declared.job.Job.{Job}
use Rattle.cb_types.specs.declared.job.Job.TheVariants.{Crash}
use Rattle.cb_types.specs.declared.reply.Reply.{Reply}
use Rattle.cb_types.specs.declared.reply.Reply.TheVariants as answer
use Rattle.cb_world.specs.Counts.{CountsState}
use Rattle.cb_world.specs.Seats.{SeatState, Holds, idle_seat, seat_at}
use Rattle.cb_world.specs.World.{WorldState}
use Rattle.cb_core.specs.declared.event.Atomic.TheVariants.{Take, Give}
use Rattle.cb_core.specs.declared.event.Event.TheVariants as event
use Rattle.cb_core.specs.Events.{IsEvent}
use Rattle.cb_core.specs.Holding.{not_held, taken, given}
use Rattle.cb_core.specs.Membership.{crashed, is_down}
use Rattle.cb_core.specs.Step.{SeatTurn, held, free, ordered, TurnStep, worn, done, Leads, EventStops}
use Rattle.cb_core.proofs.WorkedPins.{settings, calm}
use Rattle.cb_core.proofs.WorkedTurns.{node, far, far_down, world, idle, three, four, old, crashed_down, nobody}

-- the first of two seats holds the far lock
abbrev locked : List SeatState
locked = record { pins = []; claims = []; holds = true; order = None } ∷ idle_seat ∷ []

abbrev at_lock : CountsState → WorldState
at_lock counts = world (far counts) calm locked

abbrev crash : Job
crash = Crash (node 0)

abbrev epoch : Reply
epoch = answer.EpochAt (record { n = 1 })

apart : (n : ℕ) → zero ≡ suc n → ⊥
apart n e = cc

the_first : (other : ℕ) → Holds locked other → other ≡ 0
the_first zero holds = refl
the_first (suc zero) holds = absurd cc
the_first (suc (suc other)) holds = absurd cc

-- ---- turns of seats
-- a turn of the other seat is refused, and that of the seat that holds the lock takes place
refused_beside : SeatTurn 1 crash (at_lock three) (answer.Held 0) (at_lock three)
refused_beside = held 0 (apart 0) refl refl refl

own_turn : TurnStep crash (at_lock three) epoch (world (far_down four) calm locked)
own_turn = done (lit< tt) (refl, crashed refl refl (sym crashed_down)) refl

turns_with_it : SeatTurn 0 crash (at_lock three) epoch (world (far_down four) calm locked)
turns_with_it = free the_first own_turn

-- no turn is answered so by what it does
never_held : (w new : WorldState) (k : ℕ) → TurnStep crash w (answer.Held k) new → ⊥
never_held w new k (worn end reply same) = absurd (let e = reply in cc)
never_held w new k (done few (words, crashed up reply state) seats) = absurd (let e = reply in cc)
never_held w new k (done few (words, is_down down reply same) seats) = absurd (let e = reply in cc)

runs_beside : (new : WorldState) → SeatTurn 1 crash (at_lock three) epoch new → ⊥
runs_beside new (held other off holds reply same) = absurd (let e = reply in cc)
runs_beside new (free none step) = apart 0 (none 0 refl)
runs_beside new (ordered keeps off none turn seats) = off tt

refuses_the_holder : SeatTurn 0 crash (at_lock three) (answer.Held 0) (at_lock three) → ⊥
refuses_the_holder (held other off holds reply same) = off (the_first other holds)
refuses_the_holder (free none step) = never_held (at_lock three) (at_lock three) 0 step
refuses_the_holder (ordered keeps off none turn seats) = off tt

refuses_for_nobody : SeatTurn 1 crash old (answer.Held 0) old → ⊥
refuses_for_nobody (held other off holds reply same) = off (nobody 1 other holds)
refuses_for_nobody (free none step) = never_held old old 0 step
refuses_for_nobody (ordered keeps off none turn seats) = off tt

abbrev seat_of : Reply → ℕ
seat_of (answer.Held seat) = seat
seat_of reply = 7

names_another : SeatTurn 1 crash (at_lock three) (answer.Held 2) (at_lock three) → ⊥
names_another (held other off holds reply same) =
    let e : 2 ≡ other = ap seat_of reply in let f = the_first other holds in omega (arith, e, f)
names_another (free none step) = never_held (at_lock three) (at_lock three) 2 step
names_another (ordered keeps off none turn seats) = off tt

counts_it : SeatTurn 1 crash (at_lock three) (answer.Held 0) (at_lock four) → ⊥
counts_it (held other off holds reply same) =
    let e : 4 ≡ 3 = ap (λ (w : WorldState). w.far.counts.turns) same in omega (arith, e)
counts_it (free none step) = never_held (at_lock three) (at_lock four) 0 step
counts_it (ordered keeps off none turn seats) = off tt

-- ---- no memory
stops_with_it : EventStops (at_lock three) (event.Turn 0 crash) (at_lock four)
stops_with_it = (the_first, inl (lit< tt, refl, (refl, (refl, refl))))

stops_beside : (new : WorldState) → EventStops (at_lock three) (event.Turn 1 crash) new → ⊥
stops_beside new stopped = apart 0 (stopped.0 0 refl)

takes_and_stops : (new : WorldState) → EventStops old (event.Step 0 Take) new → ⊥
takes_and_stops new stopped = stopped

-- ---- events
last_seat_takes : IsEvent settings (event.Step 63 Take)
last_seat_takes = (lit< tt, tt)

no_seat_gives : IsEvent settings (event.Step 64 Give) → ⊥
no_seat_gives e = let z = e.0 in omega (arith, z)

-- seat 0 takes the lock, seat 1 can neither turn nor give it back, seat 0 turns and gives it back
all_in_a_row : Leads old
    (event.Step 0 Take ∷ event.Turn 1 crash ∷ event.Step 1 Give ∷ event.Turn 0 crash
    ∷ event.Step 0 Give ∷ [])
    (answer.Done ∷ answer.Held 0 ∷ answer.NotHeld ∷ epoch ∷ answer.Done ∷ [])
    (world (far_down four) calm idle)
all_in_a_row = (
  at_lock three,
  taken none refl refl,
  (
    at_lock three,
    refused_beside,
    (
      at_lock three,
      not_held (λ holds. absurd cc) refl refl,
      (
        world (far_down four) calm locked,
        turns_with_it,
        (world (far_down four) calm idle, given refl refl refl, refl),
      ),
    ),
  ),
)
  where
    none : (k : ℕ) → (seat_at idle k).holds ≡ false
    none zero = refl
    none (suc zero) = refl
    none (suc (suc k)) = refl
