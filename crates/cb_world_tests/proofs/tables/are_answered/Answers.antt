use Rattle.cb_world_tests.proofs.tables.are_answered.Goals as goal

pub ask-requires : goal.ask-requires
ask-requires g c = g.met.A.Asks.again _ _ c.loop-row.invariant

pub loop-row-preserved : goal.loop-row-preserved
loop-row-preserved g c = g.met.A.Asks.more _ _ _ c.loop-row.invariant c.ask.ensures
