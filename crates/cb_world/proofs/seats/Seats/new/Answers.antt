use Rattle.std.proofs.Common.{◌≡◌, ℕ, ◌∷◌, ◌++◌, [], List, None, false, replicate, inl, inr, ap, ◌∙◌, arith}
use Rattle.std.proofs.lemmas.Bool.{cases_lt}
use Rattle.std.proofs.lemmas.List.{get_or-replicate, get_or_past, length-replicate, replicate_more}
use Rattle.cb_world.specs.Seats.{SeatState, idle_seat, seat_at}
use Rattle.cb_world.proofs.seats.Seats.new.Goals as goal

all_idle : (n seat : ℕ) → seat_at (replicate n idle_seat) seat ≡ idle_seat
all_idle n seat = elim (cases_lt seat n) [
  | inl within ↦ get_or-replicate n seat idle_seat idle_seat within
  | inr past ↦
      get_or_past (replicate n idle_seat) seat idle_seat
      (omega (arith, length-replicate {A = SeatState} n idle_seat))
]

pub loop-preserved : goal.loop-preserved
loop-preserved c =
    c.in_ok-push.ensures.items
    ∙ (λ i. c.loop.seats.items ++ record {
      pins = c.new.ensures i;
      claims = c.new-in-loop.ensures.items i;
      holds = false;
      order = None;
    } ∷ [])
    ∙ ap (λ (seats : List SeatState). seats ++ idle_seat ∷ []) c.loop.invariant
    ∙ replicate_more c.loop.counter idle_seat

pub invariant_of-result : goal.invariant_of-result
invariant_of-result c = λ unmarked seat.
    ap (λ (seats : List SeatState). (seat_at seats seat).holds) c.loop.invariant
    ∙ ap (λ (s : SeatState). s.holds) (all_idle c.loop.counter seat)
