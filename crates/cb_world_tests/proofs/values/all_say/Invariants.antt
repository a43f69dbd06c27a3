use Rattle.cb_world_tests.proofs.values.all_say.Given as goal

-- it is still the same array
abbrev pub invariant-loop-call : goal.invariant-loop-call
invariant-loop-call g l = g.N.Numbers.keeps l.fn.numbers l.numbers
