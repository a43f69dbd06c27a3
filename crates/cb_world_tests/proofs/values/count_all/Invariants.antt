use Rattle.std.specs.Prelude.{◌≡◌}
use Rattle.cb_shared.specs.Passes.{IsPassOf, record_of}
use Rattle.cb_farmap.specs.Arrays.{IsArrayOf}
use Rattle.cb_farmap.specs.Maps.{IsMapOf}
use Rattle.cb_world_tests.proofs.values.count_all.Given as goal

abbrev pub invariant-loop-i : goal.invariant-loop-i
invariant-loop-i g l = IsPassOf l.shared l.pass × IsArrayOf (record_of l.pass) l.array
    × IsMapOf (record_of l.pass) l.counts × (l.array.len ≡ l.fn.array.len)
