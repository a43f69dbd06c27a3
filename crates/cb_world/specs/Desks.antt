-- What an operation asks of a desk and of the far state beside it, and what it is between them.
use Rattle.std.specs.Prelude.{List}
use Rattle.cb_world.specs.declared.access.Access.{Access}
use Rattle.cb_world.specs.declared.shown.Shown.{Shown}
use Rattle.cb_world.specs.FarState.{FarState}
use Rattle.cb_world.specs.Performs.{Performs}
use Rattle.cb_world.specs.Sound.{Sound}

-- the desk shows something that is sound beside the far state
abbrev pub IsReadyDesk : {D : Type 0} → (D → Shown → Type 0) → D → FarState → Type 0
IsReadyDesk shows desk far = (s : Shown) × shows desk s × Sound s far

-- an operation leads from a desk and a far state to others: by this rule, and with this effect on
-- all that the desk showed and that was sound, which is sound afterwards
abbrev pub Operates : {D : Type 0} → (D → List Access → D → Type 0) → (D → Shown → Type 0)
    → D → FarState → D → FarState → (List Access → Type 0)
    → (List Access → Shown → Shown → Type 0) → Type 0
Operates run shows desk far after new rule effect = Performs (λ es. run desk es after)
    (λ s. shows desk s × Sound s far) rule (λ t. Sound t new) effect
