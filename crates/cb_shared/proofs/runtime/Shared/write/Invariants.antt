use Rattle.std.specs.Prelude.{None}
use Rattle.cb_shared.specs.Calls.{WriteTries}
use Rattle.cb_shared.specs.Fetching.{AreWritesOn, GetsBoth}
use Rattle.cb_shared.specs.Passes.{IsPassOf, record_of}
use Rattle.cb_shared.proofs.runtime.Shared.write.Given as goal

abbrev pub invariant-loop : goal.invariant-loop
invariant-loop g l = IsPassOf l.self l.pass
    × WriteTries l.self.config l.h.n l.at l.bytes None (record_of l.fn.pass) (record_of l.pass)
    × GetsBoth (AreWritesOn l.h.n l.at l.bytes) (record_of l.fn.pass) (record_of l.pass)
