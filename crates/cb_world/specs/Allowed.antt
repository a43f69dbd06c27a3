-- Which events a caller may cause.
use Rattle.std.specs.Prelude.{◌≢◌, ℕ, List, [], ◌∷◌}
use Rattle.cb_world.specs.declared.access.Access.{Access}
use Rattle.cb_world.specs.declared.access.Access.TheVariants.{Claimed, Stored, Stamped, Settled}
use Rattle.cb_world.specs.declared.shown.Shown.{Shown}
use Rattle.cb_world.specs.Shown.{IsHeld, Owns, object_at}
use Rattle.cb_world.specs.Settling.{MaySettle}
use Rattle.cb_world.specs.Played.{after}

-- memory words are stored where they are owned, version words of held objects alone, and pointer
-- words are settled as they may be
abbrev pub IsAllowed : Shown → Access → Type 0
IsAllowed s (Stored p x) = Owns s p
IsAllowed s (Stamped h v) = IsHeld (object_at s h)
IsAllowed s (Settled h w) = MaySettle s h w
IsAllowed s _ = Unit {0}

-- each event is allowed after those before it
abbrev pub Allowed : Shown → List Access → Type 0
Allowed s [] = Unit {0}
Allowed s (e ∷ es) = IsAllowed s e × Allowed (after e s) es

-- the object is not claimed
abbrev pub LeavesUnclaimed : ℕ → List Access → Type 0
LeavesUnclaimed k [] = Unit {0}
LeavesUnclaimed k (Claimed h w v words ∷ es) = (k ≢ h) × LeavesUnclaimed k es
LeavesUnclaimed k (e ∷ es) = LeavesUnclaimed k es
