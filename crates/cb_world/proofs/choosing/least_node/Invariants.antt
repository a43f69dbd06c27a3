use Rattle.cb_world.proofs.Choices.{IsBest}
use Rattle.cb_world.proofs.choosing.least_node.Given as goal

-- it is the best of the nodes before this one
abbrev pub invariant-loop-n : goal.invariant-loop-n
invariant-loop-n l = IsBest l.nodes l.members l.except l.n l.best
