use Rattle.cb_shared.specs.Passes.{IsPassOf, record_of}
use Rattle.cb_farmap.specs.Maps.{IsMapOf}
use Rattle.cb_world_tests.proofs.values.has_all.Given as goal

abbrev pub invariant-loop-key : goal.invariant-loop-key
invariant-loop-key g l = IsPassOf l.shared l.pass × IsMapOf (record_of l.pass) l.counts
