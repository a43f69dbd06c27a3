-- The plain map beside a world: calls after which it has what every object holds.
use Rattle.std.specs.Prelude.{◌≡◌, ℕ, List}
use Rattle.cb_model.specs.Called.{Called, value, makes}
use Rattle.cb_world.specs.declared.shown.Shown.{Shown}
use Rattle.cb_world.specs.FarState.{FarState}
use Rattle.cb_world.specs.Now.{Now, now}
use Rattle.cb_mutate.specs.MapCalls.{IsValue}

-- After these calls the map has made so many objects, and has at each handle what is told of it.
pub record IsMapOf (calls : List Called) (count : ℕ) (holds : ℕ → Now) : Type 0 where
  pub made : makes calls ≡ count
  pub values : (h : ℕ) → IsValue (value calls h) (holds h)

-- it has made as many as the far state counts, and has at each handle what its object holds
abbrev pub IsMapBeside : List Called → Shown → FarState → Type 0
IsMapBeside calls s far = IsMapOf calls far.made (λ h. now s far h)
