use Rattle.cb_world_tests.proofs.rounds.all_rounds.Goals as goal

pub noted_call-requires : goal.noted_call-requires
noted_call-requires g c = g.met.A.Asks.again _ _ c.loop-round.invariant

pub loop-round-preserved : goal.loop-round-preserved
loop-round-preserved g c = g.met.A.Asks.more _ _ _ c.loop-round.invariant c.noted_call.ensures
