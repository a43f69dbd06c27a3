-- The first fault of an input.
use Rattle.std.specs.Prelude.{◌≡◌, ℕ, ◌+◌, ◌<◌, ◌≤◌, List, ◌∷◌, ◌++◌, length}
use Rattle.cb_types.specs.Config.{IsAccepted}
use Rattle.cb_types.specs.declared.config.Config.{Config}
use Rattle.cb_script.specs.declared.fault.Reason.{Reason}
use Rattle.cb_script.specs.declared.fault.Reason.TheVariants.{TooLong, Header, Config as BadConfig}
use Rattle.cb_script.specs.declared.script.Mode.{Mode}
use Rattle.cb_script.specs.declared.script.Script.{Script}
use Rattle.cb_script.specs.Form.{IsScript, AreInMode}
use Rattle.cb_script.specs.Numbers.{AreNumbers}
use Rattle.cb_script.specs.Rules.{LinePlace, RuleHolds, IsLeast}
use Rattle.cb_script.specs.Spelling.{lines_of, header_line, script_lines}

-- line 1 is the header of this configuration
pub record HasHeader (bytes : List ℕ) (c : Config) : Type 0 where
  pub numbers : AreNumbers c
  pub others : List (List ℕ)
  pub text : lines_of bytes ≡ header_line c ∷ others

-- the place after a script's lines
abbrev pub place_behind : Mode → Script → LinePlace
place_behind mode s = record { mode = mode; nodes = s.config.nodes; before = s.lines }

-- The lines before this one are a script's, and the reason is the least whose rule it breaks.
pub record IsBadLine (bytes : List ℕ) (mode : Mode) (line : ℕ) (reason : Reason) : Type 0 where
  pub before : Script
  pub form : IsScript before
  pub allowed : AreInMode mode before.lines
  pub text : List ℕ
  pub after : List (List ℕ)
  pub lines : lines_of bytes ≡ script_lines before ++ text ∷ after
  pub number : line ≡ length before.lines + 2
  pub least : IsLeast (RuleHolds (place_behind mode before) text) reason

-- The first bad line, and the least reason on it. The input is tested as a whole, and then line 1.
abbrev pub First : List ℕ → Mode → ℕ → Reason → Type 0
First bytes mode line TooLong = (line ≡ 0) × (1048576 < length bytes)
First bytes mode line Header =
    (line ≡ 1) × (length bytes ≤ 1048576) × ((c : Config) → HasHeader bytes c → ⊥)
First bytes mode line BadConfig =
    (line ≡ 1) × (length bytes ≤ 1048576) × (c : Config) × HasHeader bytes c × (IsAccepted c → ⊥)
First bytes mode line reason = (length bytes ≤ 1048576) × IsBadLine bytes mode line reason
