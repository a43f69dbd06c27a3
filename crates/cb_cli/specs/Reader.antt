-- The reader of the command line.
use Rattle.std.specs.Prelude.{ℕ, List, true, Some, codes}
use Rattle.clap.specs.Walk.{Rule}
use Rattle.clap.specs.Simple.{App, new_app, new_rule, with_rule}
use Rattle.clap.specs.declared.builder.action.ArgAction.TheVariants.{Set}

-- one word that has to be there
abbrev pub word_rule : Rule
word_rule = record (new_rule (codes "command")) { required = true; action = Some Set }

-- an option that may be there once, with its value
abbrev pub option_rule : List ℕ → Rule
option_rule name = record (new_rule name) { long = Some name; action = Some Set }

-- a command with no option of its own, whose words are all given
abbrev pub quieted : App → App
quieted a = record a {
  top = record a.top { no_binary_name = true; disable_help_flag = true; disable_version_flag = true };
}

-- takes one word and no option
abbrev pub word_reader : App
word_reader = with_rule (quieted (new_app (codes "carbink"))) word_rule

-- takes one word, and each of the options of `gen` once at the most
abbrev pub reader : App
reader = with_rule (with_rule (with_rule word_reader (option_rule (codes "seed"))) (option_rule (codes "lines"))) (option_rule (codes "lanes"))
