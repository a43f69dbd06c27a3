-- What was given on a command line.
use Rattle.std.specs.Prelude.{◌≡◌, ℕ, ◌≤◌, List, Option, None, Some, option_map, codes, decimal}
use Rattle.std.specs.Borrow.{Bor}
use Rattle.clap.specs.Matches.{first_value, found_of}
use Rattle.clap.specs.declared.parser.matches.ArgMatches.{ArgMatches}
use Rattle.cb_script.specs.Rules.{IsNumber}
use Rattle.cb_cli.specs.Words.{IsPlan, command_word}
use Rattle.cb_cli.specs.declared.words.Asked.{Asked}
use Rattle.cb_cli.specs.declared.words.Asked.TheVariants.{Run, Draw}
use Rattle.cb_cli.specs.declared.words.Given.{Given}
use Rattle.cb_cli.specs.declared.words.Plan.{Plan}

-- the bytes of a word, where there is one
abbrev pub text_in : Option (Bor (List ℕ)) → Option (List ℕ)
text_in found = option_map (λ word. word.now) found

-- what was given is what clap found for the word and for each option
pub record AreFound (matches : ArgMatches) (given : Given) : Type 0 where
  pub word : text_in given.word ≡ first_value (found_of matches) (codes "command")
  pub seed : text_in given.seed ≡ first_value (found_of matches) (codes "seed")
  pub lines : text_in given.lines ≡ first_value (found_of matches) (codes "lines")
  pub lanes : text_in given.lanes ≡ first_value (found_of matches) (codes "lanes")

-- these texts are the values of the plan, which are in their ranges
abbrev pub IsPlanOf : List ℕ → List ℕ → List ℕ → Plan → Type 0
IsPlanOf seed lines lanes plan =
    (seed ≡ decimal plan.seed) × (lines ≡ decimal plan.lines) × (lanes ≡ decimal plan.lanes)
    × IsPlan plan

-- the text is a number from 1 on, and at the most this
abbrev pub IsCount : List ℕ → ℕ → ℕ → Type 0
IsCount text most n = IsNumber text n × (1 ≤ n) × (n ≤ most)

-- the options that were given have the values of the plan
abbrev pub GivesPlan : Given → Plan → Type 0
GivesPlan given plan =
    (text_in given.seed ≡ Some (decimal plan.seed)) × (text_in given.lines ≡ Some (decimal plan.lines))
    × (text_in given.lanes ≡ Some (decimal plan.lanes)) × IsPlan plan

-- what was given asks for this
abbrev pub GivenAsks : Given → Asked → Type 0
GivenAsks given (Run command) =
    (text_in given.word ≡ Some (command_word command)) × (given.seed ≡ None) × (given.lines ≡ None)
    × (given.lanes ≡ None)
GivenAsks given (Draw plan) =
    (text_in given.word ≡ Some (codes "gen")) × GivesPlan given plan
