use Rattle.std.proofs.Common.{◌≡◌, ◌≢◌, ◌<◌, ℕ, Some, slice_get}
use Rattle.cb_world.specs.Seats.{OpenWriteState}
use Rattle.cb_world.proofs.seats.claim_among.Given as goal

-- no open write before here is on the object
abbrev pub invariant-loop-at : goal.invariant-loop-at
invariant-loop-at l = (at : ℕ) (c : OpenWriteState) → at < l.at → slice_get l.claims at ≡ Some c
    → c.handle ≢ l.handle
