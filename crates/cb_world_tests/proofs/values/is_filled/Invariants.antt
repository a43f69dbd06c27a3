use Rattle.cb_world_tests.proofs.values.is_filled.Given as goal

-- it is still the same array
abbrev pub invariant-loop-n : goal.invariant-loop-n
invariant-loop-n g l = g.N.Numbers.keeps l.fn.numbers l.numbers
