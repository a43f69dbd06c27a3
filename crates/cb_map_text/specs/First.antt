-- The first line of an input that is outside the form.
use Rattle.std.specs.Prelude.{◌≡◌, ℕ, ◌+◌, ◌<◌, ◌≤◌, ◌⊎◌, List, ◌∷◌, ◌++◌, length, map}
use Rattle.std.specs.List.{AllByRecursion}
use Rattle.cb_types.specs.Config.{IsAccepted}
use Rattle.cb_types.specs.declared.config.Config.{Config}
use Rattle.cb_script.specs.Spelling.{lines_of, header_line}
use Rattle.cb_map_text.specs.declared.command.FarCommand.{FarCommand}
use Rattle.cb_map_text.specs.Form.{IsInForm}
use Rattle.cb_map_text.specs.Spelling.{command_line}

-- line 1 is the header of this configuration, which is accepted
pub record HasAcceptedHeader (bytes : List ℕ) (c : Config) : Type 0 where
  pub accepted : IsAccepted c
  pub others : List (List ℕ)
  pub text : lines_of bytes ≡ header_line c ∷ others

-- no command in form has this line
abbrev pub IsNoCommand : List ℕ → Type 0
IsNoCommand text = (command : FarCommand) → IsInForm command → text ≡ command_line command → ⊥

-- The lines before this one are a header and commands, and it is one too many or no command's.
pub record IsBadLine (bytes : List ℕ) (line : ℕ) : Type 0 where
  pub config : Config
  pub accepted : IsAccepted config
  pub before : List FarCommand
  pub few : length before ≤ 20000
  pub form : AllByRecursion IsInForm before
  pub text : List ℕ
  pub after : List (List ℕ)
  pub lines : lines_of bytes ≡ header_line config ∷ (map command_line before ++ text ∷ after)
  pub number : line ≡ length before + 2
  pub bad : (length before ≡ 20000) ⊎ IsNoCommand text

-- The first line outside the form: 0 where there are too many bytes, then 1 where it is no header
-- of an accepted configuration, and then the first one that is one too many or no command's.
pub data First (bytes : List ℕ) (line : ℕ) : Type 0 where
  TooLong : line ≡ 0 → 1048576 < length bytes → First bytes line
  NoHeader : line ≡ 1 → length bytes ≤ 1048576 → ((c : Config) → HasAcceptedHeader bytes c → ⊥)
      → First bytes line
  AtLine : length bytes ≤ 1048576 → IsBadLine bytes line → First bytes line
