-- Worked examples: which words ask for something.
use Rattle.std.proofs.Common.{◌≡◌, ℕ, false, List, [], ◌∷◌, map, refl, sym, ap, ◌∙◌, inl, inr, String, Global, arith}
use Rattle.std.specs.List.{filter}
use Rattle.std.specs.Prelude.{codes, decimal, string_bytes}
use Rattle.std.specs.Fmt.{digits}
use Rattle.clap.specs.Simple.{matches_of}
use Rattle.clap.specs.Walk.{first_of}
use Rattle.clap.specs.Faults.{fault_of}
use Rattle.clap.proofs.OnLiterals.{clap_on_literals}
use Rattle.cb_cli.specs.Reader.{reader}
use Rattle.cb_cli.specs.declared.words.Asked.TheVariants.{Run, Draw}
use Rattle.cb_cli.specs.declared.words.Command.TheVariants.{Seq, Threads, Local, Check, Rma, Scrub, Map}
use Rattle.cb_cli.specs.declared.words.Plan.{Plan}
use Rattle.cb_cli.specs.Words.{command_word, AskFor, Name, NameNone, Setting, is_given, IsPlan, setting_value}
use Rattle.cb_cli.specs.Words.CommandPart.{Word, Given}
use Rattle.cb_cli.specs.Words.Setting.{Seed, Lines, Lanes}
use Rattle.cb_cli.proofs.AskedWords.{another_than_gen, fault_names_none, without_option}
use Rattle.cb_cli.proofs.FourWords.{four_words}
use Rattle.cb_cli.proofs.CommandWords.{is_word as is_command_word, no_word_of}

pub seq_named : (w : String Global) → string_bytes w ≡ codes "seq" → Name (w ∷ []) Seq
seq_named w is = ap (λ (b : List ℕ). b ∷ []) is

pub threads_named : (w : String Global) → string_bytes w ≡ codes "threads" → Name (w ∷ []) Threads
threads_named w is = ap (λ (b : List ℕ). b ∷ []) is

pub local_named : (w : String Global) → string_bytes w ≡ codes "local" → Name (w ∷ []) Local
local_named w is = ap (λ (b : List ℕ). b ∷ []) is

pub check_named : (w : String Global) → string_bytes w ≡ codes "check" → Name (w ∷ []) Check
check_named w is = ap (λ (b : List ℕ). b ∷ []) is

pub rma_named : (w : String Global) → string_bytes w ≡ codes "rma" → Name (w ∷ []) Rma
rma_named w is = ap (λ (b : List ℕ). b ∷ []) is

pub scrub_named : (w : String Global) → string_bytes w ≡ codes "scrub" → Name (w ∷ []) Scrub
scrub_named w is = ap (λ (b : List ℕ). b ∷ []) is

pub map_named : (w : String Global) → string_bytes w ≡ codes "map" → Name (w ∷ []) Map
map_named w is = ap (λ (b : List ℕ). b ∷ []) is

-- ---- no word, a second word, and a word of no command ask for nothing

pub no_word : NameNone []
no_word (Run c) named = absurd cc
no_word (Draw plan) asks = omega (arith, four_words [] plan asks)

second_word : (v w : String Global) → NameNone (v ∷ w ∷ [])
second_word v w (Run c) named = absurd cc
second_word v w (Draw plan) asks = omega (arith, four_words (v ∷ w ∷ []) plan asks)

another_word : (w : String Global) (text : List ℕ) → string_bytes w ≡ text → is_command_word text ≡ false
    → NameNone (w ∷ [])
another_word w text is other (Run c) named =
    let same_word : string_bytes w ≡ command_word c = (let e : string_bytes w ∷ [] ≡ command_word c ∷ [] = named in cc) in
    no_word_of text other c (sym is ∙ same_word)
another_word w text is other (Draw plan) asks = omega (arith, four_words (w ∷ []) plan asks)

two_dashes : (w : String Global) → string_bytes w ≡ codes "--" → NameNone (w ∷ [])
two_dashes w is = another_word w (codes "--") is refl

one_thread : (w : String Global) → string_bytes w ≡ codes "thread" → NameNone (w ∷ [])
one_thread w is = another_word w (codes "thread") is refl

gen_alone : (w : String Global) → string_bytes w ≡ codes "gen" → NameNone (w ∷ [])
gen_alone w is = another_word w (codes "gen") is refl

a_capital : (w : String Global) → string_bytes w ≡ codes "Local" → NameNone (w ∷ [])
a_capital w is = another_word w (codes "Local") is refl

longer_word : (w : String Global) → string_bytes w ≡ codes "checks" → NameNone (w ∷ [])
longer_word w is = another_word w (codes "checks") is refl

-- ---- words that ask for a drawn script

abbrev texts_of : List (String Global) → List (List ℕ)
texts_of = map string_bytes

abbrev plan : Plan
plan = record { seed = 7; lines = 4000; lanes = 15 }

in_range : IsPlan plan
in_range = record { seed = omega arith; lines = (omega arith, omega arith); lanes = (omega arith, omega arith) }

options_are : (o : Setting) → filter (is_given o) (Word (codes "gen") ∷ Given Seed (codes "7") ∷ Given Lines (codes "4000") ∷ Given Lanes (codes "15") ∷ []) ≡ Given o (decimal (setting_value plan o)) ∷ []
unfolding digits
options_are Seed = refl
options_are Lines = refl
options_are Lanes = refl

-- an option in two words, and in one
asked : (words : List (String Global)) → texts_of words ≡ codes "gen" ∷ codes "--seed" ∷ codes "7" ∷ codes "--lines=4000" ∷ codes "--lanes" ∷ codes "15" ∷ []
    → AskFor words plan
asked words is = record {
  parts = Word (codes "gen") ∷ Given Seed (codes "7") ∷ Given Lines (codes "4000") ∷ Given Lanes (codes "15") ∷ [];
  words_are = (_, _, refl, (_, _, inl refl, (_, _, inr refl, (_, _, inl refl, refl, refl), refl), refl), is);
  gen = refl;
  options = options_are;
  in_range = in_range;
}

options_behind : (o : Setting) → filter (is_given o) (Given Lanes (codes "15") ∷ Given Lines (codes "4000") ∷ Word (codes "gen") ∷ Given Seed (codes "7") ∷ []) ≡ Given o (decimal (setting_value plan o)) ∷ []
unfolding digits
options_behind Seed = refl
options_behind Lines = refl
options_behind Lanes = refl

-- and before `gen`, in another order
asked_before : (words : List (String Global)) → texts_of words ≡ codes "--lanes=15" ∷ codes "--lines" ∷ codes "4000" ∷ codes "gen" ∷ codes "--seed=7" ∷ []
    → AskFor words plan
asked_before words is = record {
  parts = Given Lanes (codes "15") ∷ Given Lines (codes "4000") ∷ Word (codes "gen") ∷ Given Seed (codes "7") ∷ [];
  words_are = (_, _, inr refl, (_, _, inl refl, (_, _, refl, (_, _, inr refl, refl, refl), refl), refl), is);
  gen = refl;
  options = options_behind;
  in_range = in_range;
}

-- ---- and words that do not

refused : (words : List (String Global)) (texts : List (List ℕ)) → texts_of words ≡ texts → (fault_of reader texts ≡ [] → ⊥) → NameNone words
refused words texts are fault = fault_names_none words (λ e. fault (sym (ap (fault_of reader) are) ∙ e))

-- an option twice
seed_twice : (words : List (String Global)) → texts_of words ≡ codes "gen" ∷ codes "--seed=7" ∷ codes "--seed=7" ∷ codes "--lines=4" ∷ codes "--lanes=2" ∷ []
    → NameNone words
unfolding clap_on_literals
seed_twice words is = refused words _ is (λ e. absurd cc)

-- an option with another word than `gen`
with_seq : (words : List (String Global)) → texts_of words ≡ codes "seq" ∷ codes "--seed=7" ∷ codes "--lines=4" ∷ codes "--lanes=2" ∷ []
    → (plan : Plan) → AskFor words plan → ⊥
unfolding clap_on_literals
with_seq words is plan asks = another_than_gen words (codes "seq") (ap (λ (texts : List (List ℕ)). first_of (codes "command") (matches_of reader texts)) is ∙ refl) refl plan asks

-- a name cut short
cut_short : (words : List (String Global)) → texts_of words ≡ codes "gen" ∷ codes "--see=7" ∷ codes "--lines=4" ∷ codes "--lanes=2" ∷ []
    → NameNone words
unfolding clap_on_literals
cut_short words is = refused words _ is (λ e. absurd cc)

-- a value left out
no_value : (words : List (String Global)) → texts_of words ≡ codes "gen" ∷ codes "--seed=7" ∷ codes "--lines=4" ∷ codes "--lanes" ∷ []
    → NameNone words
unfolding clap_on_literals
no_value words is = refused words _ is (λ e. absurd cc)

-- an option left out
no_lanes : (words : List (String Global)) → texts_of words ≡ codes "gen" ∷ codes "--seed=7" ∷ codes "--lines" ∷ codes "4" ∷ []
    → (plan : Plan) → AskFor words plan → ⊥
unfolding clap_on_literals
no_lanes words is = without_option words Lanes (ap (λ (texts : List (List ℕ)). first_of (codes "lanes") (matches_of reader texts)) is ∙ refl)

-- values past their ends
large_seed : IsPlan (record plan { seed = 1000000000 }) → ⊥
large_seed is = omega (arith, is.seed)

no_line : IsPlan (record plan { lines = 0 }) → ⊥
no_line is = omega (arith, is.lines.0)

a_line_too_many : IsPlan (record plan { lines = 4001 }) → ⊥
a_line_too_many is = omega (arith, is.lines.1)

no_lane : IsPlan (record plan { lanes = 0 }) → ⊥
no_lane is = omega (arith, is.lanes.0)

a_lane_too_many : IsPlan (record plan { lanes = 16 }) → ⊥
a_lane_too_many is = omega (arith, is.lanes.1)
