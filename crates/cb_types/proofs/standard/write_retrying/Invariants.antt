use Rattle.std.specs.Io.KnownBytes.{Keeps}
use Rattle.cb_types.proofs.standard.write_retrying.Given as goal

-- an interrupted write gives nothing
abbrev pub invariant-loop : goal.invariant-loop
invariant-loop g l = Keeps (g.W.Write.contents l.fn.writer) (g.W.Write.contents l.writer)
