-- Worlds that tests act on.
use Rattle.std.specs.Prelude.{◌≡◌}
use Rattle.cb_types.specs.declared.config.Config.{Config}
use Rattle.cb_world.specs.World.{WorldState, IsSoundWorld}

-- eight frames, six nodes and sixteen handles
abbrev pub small : Config
small = record { k = 2; r = 2; nodes = 6; frames = 8; room = 64; handles = 16; turns = 0 }

-- a sound world with these settings
pub record IsSmallWorld (w : WorldState) : Type 0 where
  pub sound : IsSoundWorld w
  pub settings : w.desk.settings ≡ small
