use Rattle.cb_world_tests.proofs.values.all_say.Goals as goal

pub say-requires : goal.say-requires
say-requires g c = g.met.N.Numbers.again _ _ c.loop-call.invariant

pub loop-call-preserved : goal.loop-call-preserved
loop-call-preserved g c = g.met.N.Numbers.more _ _ _ c.loop-call.invariant c.say.ensures
