use Rattle.std.specs.Prelude.{None}
use Rattle.cb_shared.specs.Calls.{TurnTries}
use Rattle.cb_shared.specs.Passes.{IsPassOf, record_of}
use Rattle.cb_shared.proofs.runtime.Shared.turn_until.Given as goal

abbrev pub invariant-loop : goal.invariant-loop
invariant-loop g l = IsPassOf l.self l.pass
    × TurnTries l.self.config l.job None (record_of l.fn.pass) (record_of l.pass)
