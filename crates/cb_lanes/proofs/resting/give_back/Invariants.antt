use Rattle.std.proofs.Common.{◌≡◌, ◌+◌, length}
use Rattle.cb_world.specs.Seats.{pins_of_seat}
use Rattle.cb_world.specs.World.{WorldState, IsSoundWorld}
use Rattle.cb_lanes.specs.GivingBack.{GivesAll}
use Rattle.cb_lanes.proofs.resting.give_back.Given as goal

-- so many pins were given back, and whoever gives all others back has given back all
abbrev pub invariant-loop : goal.invariant-loop
invariant-loop l = record {
  sound : IsSoundWorld l.world;
  goes : (end : WorldState) → GivesAll l.seat l.world end → GivesAll l.seat l.fn.world end;
  left : l.counter + length (pins_of_seat l.world.seats l.seat) ≡ l.count;
}
