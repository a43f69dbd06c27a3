-- What stands between commands on one array and one map, which one pass keeps.
use Rattle.std.specs.Prelude.{◌≡◌, ℕ, ◌+◌, ◌<◌, ◌≤◌, [], length, Result, Ok, Err}
use Rattle.cb_types.specs.declared.config.Config.{Config}
use Rattle.cb_world.specs.declared.entry.Entry.{Entry}
use Rattle.cb_rule.specs.declared.view.View.{View}
use Rattle.cb_rule.specs.Lists.{Each}
use Rattle.cb_map_text.specs.Plain.{Plain, after_said, objects}
use Rattle.cb_map_text.specs.Tallied.{IsTallied}
use Rattle.cb_map_text.specs.declared.command.FarAnswer.{FarAnswer}
use Rattle.cb_map_text.specs.declared.command.FarAnswer.TheVariants.{Refused}
use Rattle.cb_map_text.specs.declared.command.FarCommand.{FarCommand}
use Rattle.cb_farmap.specs.declared.array.FarArray.{FarArray}
use Rattle.cb_farmap.specs.declared.kept.Cannot.{Cannot}
use Rattle.cb_farmap.specs.declared.kept.Cannot.TheVariants as cannot
use Rattle.cb_farmap.specs.declared.map.FarMap.{FarMap}
use Rattle.cb_farmap.specs.BothNow.{AreOther, IsArrayNow, IsMapNow}
use Rattle.cb_farmap.specs.Commands.{CommandGoes, made_by_all}
use Rattle.cb_farmap.specs.Maps.{kept_of}

-- The record after so many commands: no other pass has anything, and this one has no pin and no
-- turn under way; no object was written more often than there were commands; and the turns made the
-- objects that the list and the map need at their fullest.
pub record IsRecordAfter (n : ℕ) (s : Plain) (v : View) : Type 0 where
  pub whole : v.share ≡ 64
  pub loose : v.pins ≡ []
  pub idle : v.fresh ≡ []
  pub low : Each (λ (e : Entry). e.version ≤ n + 1) v.written
  pub made : made_by_all v.turns ≡ objects s

-- After so many commands the array and the map are the plain list and the plain map.
pub record Stands (n : ℕ) (s : Plain) (v : View) (a : FarArray) (m : FarMap) : Type 0 where
  pub record_is : IsRecordAfter n s v
  pub array_is : IsArrayNow s v a
  pub map_is : IsMapNow s v m
  pub other : AreOther a.kept (kept_of m.buckets)
  pub tallied : IsTallied s
  pub few : length s.list ≤ n
  pub few_keys : m.len ≤ n

-- there is a plain list and a plain map that they are, after fewer commands than may be
abbrev pub AreReady : View → FarArray → FarMap → Type 0
AreReady v a m = (n : ℕ) × (s : Plain) × Stands n s v a m × (n < 1000000000)

-- The command goes as it should, whichever list and map they were, and leaves the array and the map
-- as the list and the map after it.
abbrev pub GoesSo : Config → FarCommand → View → FarArray → FarMap → FarAnswer → View → FarArray
    → FarMap → Type 0
GoesSo c ask v a m said w b o = (n : ℕ) (s : Plain) → Stands n s v a m → n < 1000000000
    → CommandGoes c 1 s ask said v a m w b o × Stands (n + 1) (after_said s ask said) w b o

-- what is said of why something was not answered: the reply by which the runtime refused it
abbrev pub SaysWhy : Cannot → FarAnswer → Type 0
SaysWhy (cannot.Refused reply) said = said ≡ Refused reply
SaysWhy other said = ⊥

-- what is said of an answer: this of what it has, or why it has nothing
abbrev pub Says : {X : Type 0} → (X → FarAnswer) → Result X Cannot → FarAnswer → Type 0
Says f (Ok x) said = said ≡ f x
Says f (Err e) said = SaysWhy e said
