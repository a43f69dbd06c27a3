use Rattle.cb_shared.specs.Passes.{IsPassOf, record_of}
use Rattle.cb_farmap.specs.Arrays.{IsArrayOf}
use Rattle.cb_shared_bench.proofs.far.round_of_array.Given as goal

abbrev pub invariant-loop-n : goal.invariant-loop-n
invariant-loop-n g l = IsPassOf l.shared l.pass × IsArrayOf (record_of l.pass) l.array
