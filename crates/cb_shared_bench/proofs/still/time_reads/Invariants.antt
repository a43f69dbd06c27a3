use Rattle.cb_shared_bench.specs.Callers.{IsBenchWorld}
use Rattle.cb_shared_bench.proofs.still.time_reads.Given as goal

abbrev pub invariant-loop : goal.invariant-loop
invariant-loop g l = IsBenchWorld l.world
