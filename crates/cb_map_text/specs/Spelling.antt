-- How commands are spelled.
use Rattle.std.specs.Prelude.{ℕ, List, [], ◌∷◌, codes}
use Rattle.std.specs.List.{join_with_byte}
use Rattle.std.specs.Fmt.{decimal}
use Rattle.cb_map_text.specs.declared.command.FarCommand.{FarCommand}
use Rattle.cb_map_text.specs.declared.command.FarCommand.TheVariants.{Push, Set, Get, Pop, Put, Look, Drop}

-- the words of a command
abbrev pub command_words : FarCommand → List (List ℕ)
command_words (Push x) = codes "push" ∷ decimal x ∷ []
command_words (Set i x) = codes "set" ∷ decimal i ∷ decimal x ∷ []
command_words (Get i) = codes "get" ∷ decimal i ∷ []
command_words Pop = codes "pop" ∷ []
command_words (Put key x) = codes "put" ∷ decimal key ∷ decimal x ∷ []
command_words (Look key) = codes "look" ∷ decimal key ∷ []
command_words (Drop key) = codes "drop" ∷ decimal key ∷ []

-- a command's line, its words with one space between them
abbrev pub command_line : FarCommand → List ℕ
command_line command = join_with_byte 32 (command_words command)
