-- Which commands there are, and which bytes spell a list of them.
use Rattle.std.specs.Prelude.{◌≡◌, ℕ, ◌<◌, ◌≤◌, ◌^◌, List, ◌∷◌, length, map}
use Rattle.std.specs.List.{AllByRecursion}
use Rattle.cb_types.specs.Config.{IsAccepted}
use Rattle.cb_types.specs.declared.config.Config.{Config}
use Rattle.cb_script.specs.Spelling.{lines_of, header_line}
use Rattle.cb_map_text.specs.declared.command.FarCommand.{FarCommand}
use Rattle.cb_map_text.specs.declared.command.FarCommand.TheVariants.{Push, Set, Get, Pop, Put, Look, Drop}
use Rattle.cb_map_text.specs.Spelling.{command_line}

-- a number of at most nine digits
abbrev pub IsOfNineDigits : ℕ → Type 0
IsOfNineDigits n = n < 10 ^ 9

-- the command's numbers have their form
abbrev pub IsInForm : FarCommand → Type 0
IsInForm (Push x) = IsOfNineDigits x
IsInForm (Set i x) = IsOfNineDigits i × IsOfNineDigits x
IsInForm (Get i) = IsOfNineDigits i
IsInForm Pop = Unit {0}
IsInForm (Put key x) = IsOfNineDigits key × IsOfNineDigits x
IsInForm (Look key) = IsOfNineDigits key
IsInForm (Drop key) = IsOfNineDigits key

-- The bytes spell the commands after an accepted header, and are no longer than they may be.
pub record Spells (bytes : List ℕ) (c : Config) (commands : List FarCommand) : Type 0 where
  pub short : length bytes ≤ 1048576
  pub accepted : IsAccepted c
  pub few : length commands ≤ 20000
  pub form : AllByRecursion IsInForm commands
  pub text : lines_of bytes ≡ header_line c ∷ map command_line commands
