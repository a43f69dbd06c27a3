-- The words of a command, and the command of words.
use Rattle.std.proofs.Common.{◌≡◌, ℕ, ◌<◌, ◌≤◌, List, [], ◌∷◌, length, Option, Some, None, if◌then◌else◌, refl, sym, ap, ◌∙◌, arith}
use Rattle.std.specs.Prelude.{codes}
use Rattle.std.specs.List.{join_with_byte}
use Rattle.std.specs.Str.{bytes_eq}
use Rattle.std.specs.Str.Parse.{digits_value}
use Rattle.std.proofs.lemmas.List.Splits.{join_with_byte-slice_split}
use Rattle.cb_script.specs.Found.{Finds}
use Rattle.cb_script.specs.Rules.{IsNumber}
use Rattle.cb_script.specs.Spelling.{words_of}
use Rattle.cb_script.proofs.PublicLaws.{decimal_value, AreWords, IsWord-decimal, word_from_test, words_split}
use Rattle.cb_map_text.specs.Form.{IsInForm}
use Rattle.cb_map_text.specs.Spelling.{command_words, command_line}
use Rattle.cb_map_text.specs.Verbs.{verb_word, pair_verb_word, numbered, paired}
use Rattle.cb_map_text.specs.declared.command.FarCommand.{FarCommand}
use Rattle.cb_map_text.specs.declared.command.FarCommand.TheVariants.{Push, Set, Get, Pop, Put, Look, Drop}
use Rattle.cb_map_text.specs.declared.verb.PairVerb.{PairVerb}
use Rattle.cb_map_text.specs.declared.verb.PairVerb.TheVariants as pair_verb
use Rattle.cb_map_text.specs.declared.verb.Verb.{Verb}
use Rattle.cb_map_text.specs.declared.verb.Verb.TheVariants as verb

-- ---- the words of a command

command_is_words : (command : FarCommand) → IsInForm command → AreWords (command_words command)
command_is_words (Push x) form = (word_from_test 112 (codes "ush") refl, (IsWord-decimal x form, tt))
command_is_words (Set i x) form =
    (word_from_test 115 (codes "et") refl, (IsWord-decimal i form.0, (IsWord-decimal x form.1, tt)))
command_is_words (Get i) form = (word_from_test 103 (codes "et") refl, (IsWord-decimal i form, tt))
command_is_words Pop form = (word_from_test 112 (codes "op") refl, tt)
command_is_words (Put key x) form =
    (word_from_test 112 (codes "ut") refl, (IsWord-decimal key form.0, (IsWord-decimal x form.1, tt)))
command_is_words (Look key) form = (word_from_test 108 (codes "ook") refl, (IsWord-decimal key form, tt))
command_is_words (Drop key) form = (word_from_test 100 (codes "rop") refl, (IsWord-decimal key form, tt))

-- a command has one to three words
pub few_words : (command : FarCommand) → (0 < length (command_words command)) × (length (command_words command) ≤ 3)
few_words (Push x) = (omega arith, omega arith)
few_words (Set i x) = (omega arith, omega arith)
few_words (Get i) = (omega arith, omega arith)
few_words Pop = (omega arith, omega arith)
few_words (Put key x) = (omega arith, omega arith)
few_words (Look key) = (omega arith, omega arith)
few_words (Drop key) = (omega arith, omega arith)

some_split : (words : List (List ℕ)) → 0 < length words → AreWords words
    → words_of (join_with_byte 32 words) ≡ words
some_split [] some are = absurd (omega arith)
some_split (word ∷ words) some are = words_split word words are

pub command_splits : (command : FarCommand) → IsInForm command
    → words_of (command_line command) ≡ command_words command
command_splits command form =
    some_split (command_words command) (few_words command).0 (command_is_words command form)

command_joins : (text : List ℕ) (command : FarCommand) → words_of text ≡ command_words command
    → text ≡ command_line command
command_joins text command cut = sym (join_with_byte-slice_split 32 text) ∙ ap (join_with_byte 32) cut

-- the command's words are these
abbrev HasWords : List (List ℕ) → FarCommand → Type 0
HasWords words command = IsInForm command × (words ≡ command_words command)

-- the command's line is this text
abbrev HasText : List ℕ → FarCommand → Type 0
HasText text command = IsInForm command × (text ≡ command_line command)

pub read_of_words : (text : List ℕ) (words : List (List ℕ)) (found : Option FarCommand) → words ≡ words_of text
    → Finds found (HasWords words) → Finds found (HasText text)
read_of_words text words None cut none = λ command is.
    none command (is.0, cut ∙ ap words_of is.1 ∙ command_splits command is.0)
read_of_words text words (Some command) cut is = (is.0, command_joins text command (sym cut ∙ is.1))

-- ---- the command of words

-- two words are a verb and a number
pub of_two_words : (first second : List ℕ) (command : FarCommand) → HasWords (first ∷ second ∷ []) command
    → (v : Verb) × (n : ℕ) × (first ≡ verb_word v) × IsNumber second n
of_two_words first second (Push x) is = (verb.Push, x, cc, (is.0, cc))
of_two_words first second (Set i x) is = absurd (omega (arith, ap length is.1))
of_two_words first second (Get i) is = (verb.Get, i, cc, (is.0, cc))
of_two_words first second Pop is = absurd (omega (arith, ap length is.1))
of_two_words first second (Put key x) is = absurd (omega (arith, ap length is.1))
of_two_words first second (Look key) is = (verb.Look, key, cc, (is.0, cc))
of_two_words first second (Drop key) is = (verb.Drop, key, cc, (is.0, cc))

-- three words are a verb and two numbers
pub of_three_words : (first second third : List ℕ) (command : FarCommand)
    → HasWords (first ∷ second ∷ third ∷ []) command
    → (v : PairVerb) × (m : ℕ) × (n : ℕ) × (first ≡ pair_verb_word v) × IsNumber second m × IsNumber third n
of_three_words first second third (Push x) is = absurd (omega (arith, ap length is.1))
of_three_words first second third (Set i x) is =
    (pair_verb.Set, i, x, cc, (is.0.0, cc), (is.0.1, cc))
of_three_words first second third (Get i) is = absurd (omega (arith, ap length is.1))
of_three_words first second third Pop is = absurd (omega (arith, ap length is.1))
of_three_words first second third (Put key x) is =
    (pair_verb.Put, key, x, cc, (is.0.0, cc), (is.0.1, cc))
of_three_words first second third (Look key) is = absurd (omega (arith, ap length is.1))
of_three_words first second third (Drop key) is = absurd (omega (arith, ap length is.1))

-- ---- back

-- the verbs in front of one number
abbrev verbs : List Verb
verbs = verb.Push ∷ verb.Get ∷ verb.Look ∷ verb.Drop ∷ []

-- the verb of a word among these, Push where it is the word of none
abbrev verb_among : List Verb → List ℕ → Verb
verb_among [] word = verb.Push
verb_among (v ∷ others) word = if bytes_eq word (verb_word v) then v else verb_among others word

-- the verb of a word in front of two numbers
abbrev pair_verb_among : List ℕ → PairVerb
pair_verb_among word = if bytes_eq word (codes "set") then pair_verb.Set else pair_verb.Put

-- the command of words, by their count
abbrev command_of : List (List ℕ) → FarCommand
command_of (first ∷ second ∷ []) = numbered (verb_among verbs first) (digits_value 10 second)
command_of (first ∷ second ∷ third ∷ []) =
    paired (pair_verb_among first) (digits_value 10 second) (digits_value 10 third)
command_of words = Pop

same_pair : (v : PairVerb) (m n p q : ℕ) → m ≡ p → n ≡ q → paired v m n ≡ paired v p q
same_pair v m n p q firsts seconds = λ i. paired v (firsts i) (seconds i)

command_back : (command : FarCommand) → IsInForm command → command_of (command_words command) ≡ command
command_back (Push x) form = ap (λ (n : ℕ). Push n) (decimal_value x form)
command_back (Set i x) form = same_pair pair_verb.Set _ _ i x (decimal_value i form.0) (decimal_value x form.1)
command_back (Get i) form = ap (λ (n : ℕ). Get n) (decimal_value i form)
command_back Pop form = refl
command_back (Put key x) form =
    same_pair pair_verb.Put _ _ key x (decimal_value key form.0) (decimal_value x form.1)
command_back (Look key) form = ap (λ (n : ℕ). Look n) (decimal_value key form)
command_back (Drop key) form = ap (λ (n : ℕ). Drop n) (decimal_value key form)

-- two commands in form with one text are one command
pub command_unique : (a b : FarCommand) → IsInForm a → IsInForm b → command_line a ≡ command_line b → a ≡ b
command_unique a b a_form b_form same =
    let words : command_words a ≡ command_words b =
    sym (command_splits a a_form) ∙ ap words_of same ∙ command_splits b b_form in
    sym (command_back a a_form) ∙ ap command_of words ∙ command_back b b_form
