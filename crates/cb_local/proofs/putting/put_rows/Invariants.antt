use Rattle.cb_set.specs.SetState.{SetState}
use Rattle.cb_world.specs.declared.shown.Shown.{Shown}
use Rattle.cb_world.specs.FarState.{FarState}
use Rattle.cb_world.specs.Joining.{JoiningState}
use Rattle.cb_local.specs.Putting.{ArePut}
use Rattle.cb_local.proofs.putting.put_rows.Given as goal

abbrev pub invariant-loop-position : goal.invariant-loop-position
invariant-loop-position l = (s : Shown) (begun : FarState) (first : JoiningState) (a b : SetState)
    → ArePut l.done s begun first a b l.fn.far 0
    → ArePut l.done s begun first a b l.far l.position
