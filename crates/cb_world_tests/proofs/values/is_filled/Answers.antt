use Rattle.cb_world_tests.proofs.values.is_filled.Goals as goal

pub say-requires : goal.say-requires
say-requires g c = g.met.N.Numbers.again _ _ c.loop-n.invariant

pub loop-n-preserved : goal.loop-n-preserved
loop-n-preserved g c = g.met.N.Numbers.more _ _ _ c.loop-n.invariant c.say.ensures
