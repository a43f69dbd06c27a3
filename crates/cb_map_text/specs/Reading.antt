-- What the parts of the reader answer.
use Rattle.std.specs.Prelude.{◌≡◌, ℕ, ◌+◌, ◌≤◌, ◌⊎◌, Bool, true, false, List, [], ◌∷◌, ◌++◌, length, map}
use Rattle.std.specs.List.{AllByRecursion}
use Rattle.cb_map_text.specs.declared.command.FarCommand.{FarCommand}
use Rattle.cb_map_text.specs.First.{IsNoCommand}
use Rattle.cb_map_text.specs.Form.{IsInForm}
use Rattle.cb_map_text.specs.Spelling.{command_line}
use Rattle.cb_map_text.specs.declared.read.TextFault.{TextFault}
use Rattle.cb_map_text.specs.declared.read.TextFault.TheVariants.{Line, NoMemory}

-- the command has this text
pub record IsCommandText (text : List ℕ) (command : FarCommand) : Type 0 where
  pub form : IsInForm command
  pub spelled : text ≡ command_line command

-- a command of this text is added, or there is none
abbrev pub IsPushed : List FarCommand → List FarCommand → List ℕ → Bool → Type 0
IsPushed old new text true =
    (command : FarCommand) × IsCommandText text command × (new ≡ old ++ command ∷ [])
IsPushed old new text false = IsNoCommand text

-- these texts are the commands
pub record AreTheCommands (texts : List (List ℕ)) (commands : List FarCommand) : Type 0 where
  pub few : length commands ≤ 20000
  pub form : AllByRecursion IsInForm commands
  pub read : map command_line commands ≡ texts

-- a text among these that is one too many, or no command's, after those before it
pub record HasBadLine (texts : List (List ℕ)) (line : ℕ) : Type 0 where
  pub before : List FarCommand
  pub few : length before ≤ 20000
  pub form : AllByRecursion IsInForm before
  pub text : List ℕ
  pub after : List (List ℕ)
  pub read : texts ≡ map command_line before ++ text ∷ after
  pub number : line ≡ length before + 2
  pub bad : (length before ≡ 20000) ⊎ IsNoCommand text

-- the fault is that of a line, unless memory was wanting
abbrev pub FaultIs : TextFault → (ℕ → Type 0) → Type 0
FaultIs (Line line) faults = faults line
FaultIs NoMemory faults = Unit {0}
