use Rattle.cb_local.proofs.Adding.{IsAddedBelow}
use Rattle.cb_local.proofs.running.add_delta.Given as goal

abbrev pub invariant-loop-parity : goal.invariant-loop-parity
invariant-loop-parity l =
    IsAddedBelow l.table l.position l.delta l.initial.parities l.parities l.parity
