-- The verbs in front of one number, and those in front of two.
use Rattle.std.specs.Prelude.{ℕ, List, codes}
use Rattle.cb_map_text.specs.declared.command.FarCommand.{FarCommand}
use Rattle.cb_map_text.specs.declared.command.FarCommand.TheVariants as command
use Rattle.cb_map_text.specs.declared.verb.PairVerb.{PairVerb}
use Rattle.cb_map_text.specs.declared.verb.PairVerb.TheVariants.{Set, Put}
use Rattle.cb_map_text.specs.declared.verb.Verb.{Verb}
use Rattle.cb_map_text.specs.declared.verb.Verb.TheVariants.{Push, Get, Look, Drop}

-- the word of each verb in front of one number
abbrev pub verb_word : Verb → List ℕ
verb_word Push = codes "push"
verb_word Get = codes "get"
verb_word Look = codes "look"
verb_word Drop = codes "drop"

-- the word of each verb in front of two
abbrev pub pair_verb_word : PairVerb → List ℕ
pair_verb_word Set = codes "set"
pair_verb_word Put = codes "put"

-- the command of a verb and its number
abbrev pub numbered : Verb → ℕ → FarCommand
numbered Push n = command.Push n
numbered Get n = command.Get n
numbered Look n = command.Look n
numbered Drop n = command.Drop n

-- the command of a verb and its two numbers
abbrev pub paired : PairVerb → ℕ → ℕ → FarCommand
paired Set first second = command.Set first second
paired Put first second = command.Put first second
