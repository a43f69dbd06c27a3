use Rattle.std.proofs.Common.{◌≡◌, ℕ, [], length, get_or}
use Rattle.cb_gen.proofs.lengths.LaneLengths.new.Given as goal

-- so many lanes have a list, which is empty
abbrev pub invariant-loop-lane : goal.invariant-loop-lane
invariant-loop-lane l =
    record {
      places : length l.lanes.items ≡ l._lane;
      empty : (lane : ℕ) → get_or l.lanes.items lane [] ≡ [];
    }
