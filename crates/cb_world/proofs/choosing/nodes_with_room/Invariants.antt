use Rattle.cb_world.proofs.Choices.{HaveRoomBelow}
use Rattle.cb_world.proofs.choosing.nodes_with_room.Given as goal

-- the nodes before this one were counted
abbrev pub invariant-loop-n : goal.invariant-loop-n
invariant-loop-n l = HaveRoomBelow l.nodes l.members l.n l.count
