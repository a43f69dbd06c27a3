use Rattle.std.proofs.Common.{ap, ◌∙◌}
use Rattle.cb_farmap.specs.declared.array.FarArray.{FarArray}
use Rattle.cb_farmap.proofs.Laws.{array_stays, map_on}
use Rattle.cb_world_tests.proofs.values.count_all.Goals as goal

pub returns-in_err-x-clause-map : goal.returns-in_err-x-clause-map
returns-in_err-x-clause-map g c =
    map_on _ _ _ c.loop-i.invariant.2 c.get.ensures.keeps.on.behind c.loop-i.counts.stop

pub returns-in_err-count_one-clause-array : goal.returns-in_err-count_one-clause-array
returns-in_err-count_one-clause-array g c = array_stays _ _ _ c.get.ensures.keeps.array
    c.count_one.ensures.on.behind

pub loop-i-preserved : goal.loop-i-preserved
loop-i-preserved g c = (
  c.count_one.ensures.of,
  array_stays _ _ _ c.get.ensures.keeps.array c.count_one.ensures.on.behind,
  c.count_one.ensures.map,
  ap (λ (a : FarArray). a.len) c.in_ok-x.ensures.ok.left ∙ c.loop-i.invariant.3,
)
