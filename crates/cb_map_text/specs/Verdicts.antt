-- Which bytes are taken, and what others are told.
use Rattle.std.specs.Prelude.{◌≡◌, ℕ, List}
use Rattle.cb_types.specs.declared.config.Config.{Config}
use Rattle.cb_map_text.specs.First.{First}
use Rattle.cb_map_text.specs.Form.{Spells}
use Rattle.cb_map_text.specs.Texts.{refusal_text}
use Rattle.cb_map_text.specs.declared.command.FarCommand.{FarCommand}

-- the text tells the first line that is outside the form
pub record Refuses (bytes text : List ℕ) : Type 0 where
  pub line : ℕ
  pub first : First bytes line
  pub text_is : text ≡ refusal_text line

-- the bytes spell commands
pub record Accepts (bytes : List ℕ) : Type 0 where
  pub config : Config
  pub commands : List FarCommand
  pub spelled : Spells bytes config commands
