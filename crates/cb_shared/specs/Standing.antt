-- What stands at the table of a runtime between any two steps of any passes.
use Rattle.std.specs.Prelude.{◌≡◌, ℕ}
use Rattle.cb_types.specs.declared.config.Config.{Config}
use Rattle.cb_world.specs.FarState.{FarState}
use Rattle.cb_rule.specs.Lists.{total}
use Rattle.cb_rule.specs.OneHistory.{TurnsStand}
use Rattle.cb_rule.specs.Promised.{WordsStand}
use Rattle.cb_rule.specs.Seats.{holding}
use Rattle.cb_rule.specs.ShownWorld.{ShowsWorld}
use Rattle.cb_rule.specs.Slot.{Table}
use Rattle.cb_rule.specs.Told.{AreTold}
use Rattle.cb_shared.specs.declared.setup.Setup.{Setup}
use Rattle.cb_shared.specs.Turning.{Did}

-- The words are sound with all pins, claims and entries. One pass at most has the far lock, the turns
-- are one history while none has it, and what they were told is of the entries. While none has it the
-- words and the far state are a sound world, which holds the entries.
pub record StandsNow (first : ℕ) (c : Config) (s : Table) : Type 0 where
  pub words : WordsStand first c s.words s.views
  pub turns : TurnsStand Did first c s
  pub told : AreTold first c s.views
  pub world : total holding s.views ≡ 0 → (far : FarState) × ShowsWorld c s far

-- it stands at each table at which this rule holds
abbrev pub TableStands : (Setup → Table → Type 0) → Type 0
TableStands holds = (k : Setup) (s : Table) → holds k s → StandsNow k.first k.config s
