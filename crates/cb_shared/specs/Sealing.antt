-- What stands under a seal.
use Rattle.std.specs.Prelude.{ℕ, List}
use Rattle.cb_types.specs.declared.config.Config.{Config}
use Rattle.cb_world.specs.World.{WorldState, empty_world}
use Rattle.cb_rule.specs.declared.view.View.{View}
use Rattle.cb_rule.specs.Steps.{blank}
use Rattle.cb_shared.specs.declared.seal.Seal.{Seal}
use Rattle.cb_shared.specs.declared.sealed.Sealed.{Sealed}

-- a world and a record
abbrev pub sealed : WorldState → View → Sealed
sealed w v = record { world = w; view = v }

-- before anything is put under it: the empty world of a least configuration, and a blank record
abbrev pub least_config : Config
least_config = record { k = 1; r = 1; nodes = 2; frames = 1; room = 1; handles = 1; turns = 0 }

abbrev pub no_world : WorldState
no_world = empty_world least_config

abbrev pub no_view : View
no_view = blank least_config

abbrev pub unsealed : Sealed
unsealed = sealed no_world no_view

-- no rule
abbrev pub AnyWord : ℕ → List Sealed → Type 0
AnyWord n views = Unit {0}

-- the world that was answered with the seal
abbrev pub sealed_world : Seal → WorldState
sealed_world seal = seal.mark.view.world

-- the record of the pass that closed
abbrev pub sealed_record : Seal → View
sealed_record seal = seal.mark.view.view
