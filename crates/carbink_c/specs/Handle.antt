-- The world that C holds.
use Rattle.std.specs.Prelude.{Option, None, Some}
use Rattle.std.specs.Option.{option_map}
use Rattle.cb_world.specs.World.{WorldState, IsSoundWorld}
use Rattle.carbink_c.specs.declared.handle.CarbinkWorld.{CarbinkWorld}

-- the world that a handle holds, if there is one
abbrev pub world_of : CarbinkWorld → Option WorldState
world_of handle = option_map (λ held. held.world) handle.kept.world

-- the world, if there is one, is sound
abbrev pub IsSoundIn : Option WorldState → Type 0
IsSoundIn None = Unit {0}
IsSoundIn (Some w) = IsSoundWorld w
