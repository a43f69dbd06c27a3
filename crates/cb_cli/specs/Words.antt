-- Which lists of words ask for something: the word of a command, or `gen` with its options.
use Rattle.std.specs.Prelude.{◌≡◌, ℕ, ◌^◌, ◌<◌, ◌≤◌, ◌⊎◌, Bool, true, false, List, [], ◌∷◌, ◌++◌, map, codes, decimal, String, string_bytes}
use Rattle.std.specs.List.{filter}
use Rattle.std.specs.declared.alloc.Global.{Global}
use Rattle.cb_cli.specs.declared.words.Asked.{Asked}
use Rattle.cb_cli.specs.declared.words.Asked.TheVariants.{Run, Draw}
use Rattle.cb_cli.specs.declared.words.Command.{Command}
use Rattle.cb_cli.specs.declared.words.Command.TheVariants.{Seq, Threads, Local, Check, Rma, Scrub, Map}
use Rattle.cb_cli.specs.declared.words.Plan.{Plan}

-- the word of a command
abbrev pub command_word : Command → List ℕ
command_word Seq = codes "seq"
command_word Threads = codes "threads"
command_word Local = codes "local"
command_word Check = codes "check"
command_word Rma = codes "rma"
command_word Scrub = codes "scrub"
command_word Map = codes "map"

-- the words are the command's one word
abbrev pub Name : List (String Global) → Command → Type 0
Name words command = map string_bytes words ≡ command_word command ∷ []

-- the options of `gen`
pub data Setting : Type 0 where
  Seed : Setting
  Lines : Setting
  Lanes : Setting

abbrev pub setting_name : Setting → List ℕ
setting_name Seed = codes "seed"
setting_name Lines = codes "lines"
setting_name Lanes = codes "lanes"

-- a part of a command line: a word, or an option with its value
pub data CommandPart : Type 0 where
  Word : List ℕ → CommandPart
  Given : Setting → List ℕ → CommandPart

-- the words of a part: an option has two, as in `--seed 7`, or one, as in `--seed=7`
abbrev pub IsPart : CommandPart → List (List ℕ) → Type 0
IsPart (Word word) words = words ≡ word ∷ []
IsPart (Given option value) words =
    (words ≡ (codes "--" ++ setting_name option) ∷ value ∷ [])
    ⊎ (words ≡ (codes "--" ++ (setting_name option ++ 61 ∷ value)) ∷ [])

-- the words are those of the parts, one part after the other
abbrev pub AreParts : List CommandPart → List (List ℕ) → Type 0
AreParts [] words = words ≡ []
AreParts (part ∷ parts) words =
    (front : List (List ℕ)) × (rest : List (List ℕ)) × IsPart part front × AreParts parts rest
    × (words ≡ front ++ rest)

abbrev pub is_word : CommandPart → Bool
is_word (Word word) = true
is_word (Given option value) = false

abbrev pub same : Setting → Setting → Bool
same Seed Seed = true
same Lines Lines = true
same Lanes Lanes = true
same option other = false

abbrev pub is_given : Setting → CommandPart → Bool
is_given option (Word word) = false
is_given option (Given other value) = same option other

-- the value of an option in a plan
abbrev pub setting_value : Plan → Setting → ℕ
setting_value plan Seed = plan.seed
setting_value plan Lines = plan.lines
setting_value plan Lanes = plan.lanes

-- the values of the options are in their ranges
pub record IsPlan (plan : Plan) : Type 0 where
  pub seed : plan.seed < 10 ^ 9
  pub lines : (1 ≤ plan.lines) × (plan.lines ≤ 4000)
  pub lanes : (1 ≤ plan.lanes) × (plan.lanes ≤ 15)

-- The words ask for a script that is drawn so: they have the word `gen` and each of the three
-- options once, in any order, and nothing else.
pub record AskFor (words : List (String Global)) (plan : Plan) : Type 0 where
  pub parts : List CommandPart
  pub words_are : AreParts parts (map string_bytes words)
  pub gen : filter is_word parts ≡ Word (codes "gen") ∷ []
  pub options : (option : Setting)
      → filter (is_given option) parts ≡ Given option (decimal (setting_value plan option)) ∷ []
  pub in_range : IsPlan plan

-- the words ask for this
abbrev pub WordsAsk : List (String Global) → Asked → Type 0
WordsAsk words (Run command) = Name words command
WordsAsk words (Draw plan) = AskFor words plan

-- the words name no command, and ask for no drawn script
abbrev pub NameNone : List (String Global) → Type 0
NameNone words = (asked : Asked) → WordsAsk words asked → ⊥
