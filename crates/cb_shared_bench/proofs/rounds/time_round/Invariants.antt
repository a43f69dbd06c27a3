use Rattle.cb_shared_bench.specs.Callers.{IsCaller}
use Rattle.cb_shared_bench.proofs.rounds.time_round.Given as goal

abbrev pub invariant-loop-place : goal.invariant-loop-place
invariant-loop-place g l = IsCaller l.shared l.h l.pass
