-- How an operation on a desk is told.
use Rattle.std.specs.Prelude.{List}
use Rattle.cb_world.specs.declared.access.Access.{Access}
use Rattle.cb_world.specs.declared.shown.Shown.{Shown}
use Rattle.cb_world.specs.Played.{played}
use Rattle.cb_world.specs.Looks.{LooksFirst}
use Rattle.cb_world.specs.Allowed.{Allowed}

-- Its events, which the desk ran; objects are looked at before they are changed; the reply and the
-- far state are by the rule over what was found. And for all knowledge that the desk showed and
-- that was sound: what was stored and settled was allowed, it is sound afterwards, and the effect
-- is this.
pub record Performs (runs : List Access → Type 0) (knows : Shown → Type 0)
    (rules : List Access → Type 0) (sound : Shown → Type 0)
    (does : List Access → Shown → Shown → Type 0) : Type 0 where
  pub events : List Access
  pub ran : runs events
  pub looks_first : LooksFirst events
  pub rule : rules events
  pub allowed : (s : Shown) → knows s → Allowed s events
  pub sound_after : (s : Shown) → knows s → sound (played events s)
  pub effect : (s : Shown) → knows s → does events s (played events s)
