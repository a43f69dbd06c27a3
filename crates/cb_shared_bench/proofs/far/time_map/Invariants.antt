use Rattle.cb_shared.specs.Passes.{IsPassOf, record_of}
use Rattle.cb_farmap.specs.Maps.{IsMapOf}
use Rattle.cb_shared_bench.proofs.far.time_map.Given as goal

abbrev pub invariant-loop : goal.invariant-loop
invariant-loop g l = IsPassOf l.shared l.pass × IsMapOf (record_of l.pass) l.map
