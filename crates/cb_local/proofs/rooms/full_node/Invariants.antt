use Rattle.cb_set.specs.SetState.{SetState}
use Rattle.cb_world.specs.Joining.{JoiningState}
use Rattle.cb_compact.specs.PartStep.{IsFreshPair}
use Rattle.cb_local.specs.Rooms.{HaveStepRoom}
use Rattle.cb_local.proofs.rooms.full_node.Given as goal

abbrev pub invariant-loop-position : goal.invariant-loop-position
invariant-loop-position l = (pair : JoiningState) (a b : SetState) → IsFreshPair l.far pair a b
    → HaveStepRoom l.far pair a 0 l.position
