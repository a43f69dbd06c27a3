use Rattle.std.specs.Prelude.{false, None}
use Rattle.cb_shared.specs.Calls.{ReadTries}
use Rattle.cb_shared.specs.Fetching.{AreFetchesTo, GetsTurns}
use Rattle.cb_shared.specs.Passes.{IsPassOf, record_of}
use Rattle.cb_shared.proofs.runtime.Shared.read.Given as goal

abbrev pub invariant-loop : goal.invariant-loop
invariant-loop g l = IsPassOf l.self l.pass
    × ReadTries l.self.config l.h.n None (record_of l.fn.pass) (record_of l.pass)
    × GetsTurns (AreFetchesTo l.h.n false l.patience.brought) (record_of l.fn.pass)
    (record_of l.pass)
