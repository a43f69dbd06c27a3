use Rattle.cb_world_tests.proofs.rounds.all_rounds.Given as goal

-- it is still the same caller, which may ask
abbrev pub invariant-loop-round : goal.invariant-loop-round
invariant-loop-round g l = g.A.Asks.keeps l.fn.asked l.asked
