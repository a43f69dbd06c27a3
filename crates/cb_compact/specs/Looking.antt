-- How the joining pair stands.
use Rattle.std.specs.Prelude.{◌≡◌, None, Some}
use Rattle.cb_set.specs.SetState.{SetState}
use Rattle.cb_world.specs.Joining.{JoiningState}
use Rattle.cb_world.specs.FarState.{FarState}
use Rattle.cb_compact.specs.declared.looking.PairStanding.{PairStanding}
use Rattle.cb_compact.specs.declared.looking.PairStanding.TheVariants as look
use Rattle.cb_compact.specs.PartStep.{IsChangedSet, IsFreshPair}

-- no pair is joining, a set of it has changed, or both stand as they did at the begin
abbrev pub Looks : FarState → PairStanding → Type 0
Looks far look.NoPair = far.joining ≡ None
Looks far (look.Changed id) =
    (pair : JoiningState) × (far.joining ≡ Some pair) × IsChangedSet far pair id
Looks far look.Fresh = (pair : JoiningState) × (a : SetState) × (b : SetState) × IsFreshPair far
    pair a b
