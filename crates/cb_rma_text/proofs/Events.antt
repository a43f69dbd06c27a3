-- The words of an event, and the event of words.
use Rattle.std.proofs.Common.{◌≡◌, ℕ, ◌<◌, ◌≤◌, List, [], ◌∷◌, length, get_or, Option, Some, None, Result, Ok, Err, if◌then◌else◌, refl, sym, ap, ◌∙◌, arith}
use Rattle.std.specs.Prelude.{codes, IfOk}
use Rattle.std.specs.List.{join_with_byte}
use Rattle.std.specs.Str.{bytes_eq}
use Rattle.std.specs.Str.Parse.{digits_value}
use Rattle.std.proofs.lemmas.List.Splits.{join_with_byte-slice_split}
use Rattle.cb_script.specs.Found.{Finds}
use Rattle.cb_script.specs.Rules.{IsNumber}
use Rattle.cb_script.specs.Spelling.{words_of}
use Rattle.cb_script.proofs.PublicLaws.{decimal_value, AreWords, IsWord-decimal, IsWord-encoded, word_from_test, words_split}
use Rattle.cb_rma.specs.declared.order.Order.TheVariants.{Put, Add, Drop}
use Rattle.cb_rma.specs.declared.step.Step.{Step}
use Rattle.cb_rma.specs.declared.step.Step.TheVariants.{Submit, Send, Ask, Ack, Restart, Show}
use Rattle.cb_rma_text.specs.Form.{IsInForm}
use Rattle.cb_rma_text.specs.Spelling.{step_words, step_line}
use Rattle.cb_rma_text.specs.Verbs.{verb_word, numbered}
use Rattle.cb_rma_text.specs.declared.verb.Verb.{Verb}
use Rattle.cb_rma_text.specs.declared.verb.Verb.TheVariants as verb
use Rattle.cb_rma_text.proofs.Rows.{decoded, decoded_encoded, one_byte_all}

-- ---- the words of an event

step_is_words : (event : Step) → IsInForm event → AreWords (step_words event)
step_is_words (Submit (Put key row)) form =
    (word_from_test 112 (codes "ut") refl, (IsWord-decimal key form.0, (IsWord-encoded row form.1.some form.1.each, tt)))
step_is_words (Submit (Add key c row)) form = (
  word_from_test 97 (codes "dd") refl,
  (
    IsWord-decimal key form.0,
    (
      IsWord-encoded (c ∷ []) (omega arith) (one_byte_all c form.1),
      (IsWord-encoded row form.2.some form.2.each, tt),
    ),
  ),
)
step_is_words (Submit (Drop key)) form = (word_from_test 100 (codes "rop") refl, (IsWord-decimal key form, tt))
step_is_words (Send number) form = (word_from_test 115 (codes "end") refl, (IsWord-decimal number form, tt))
step_is_words (Ask packet) form = (word_from_test 97 (codes "sk") refl, (IsWord-decimal packet form, tt))
step_is_words (Ack packet) form = (word_from_test 97 (codes "ck") refl, (IsWord-decimal packet form, tt))
step_is_words Restart form = (word_from_test 114 (codes "estart") refl, tt)
step_is_words (Show key) form = (word_from_test 115 (codes "how") refl, (IsWord-decimal key form, tt))

-- an event has one to four words
pub few_words : (event : Step) → (0 < length (step_words event)) × (length (step_words event) ≤ 4)
few_words (Submit (Put key row)) = (omega arith, omega arith)
few_words (Submit (Add key c row)) = (omega arith, omega arith)
few_words (Submit (Drop key)) = (omega arith, omega arith)
few_words (Send number) = (omega arith, omega arith)
few_words (Ask packet) = (omega arith, omega arith)
few_words (Ack packet) = (omega arith, omega arith)
few_words Restart = (omega arith, omega arith)
few_words (Show key) = (omega arith, omega arith)

some_split : (words : List (List ℕ)) → 0 < length words → AreWords words
    → words_of (join_with_byte 32 words) ≡ words
some_split [] some are = absurd (omega arith)
some_split (word ∷ words) some are = words_split word words are

pub step_splits : (event : Step) → IsInForm event → words_of (step_line event) ≡ step_words event
step_splits event form = some_split (step_words event) (few_words event).0 (step_is_words event form)

step_joins : (text : List ℕ) (event : Step) → words_of text ≡ step_words event → text ≡ step_line event
step_joins text event cut = sym (join_with_byte-slice_split 32 text) ∙ ap (join_with_byte 32) cut

-- the event's words are these
abbrev HasWords : List (List ℕ) → Step → Type 0
HasWords words event = IsInForm event × (words ≡ step_words event)

-- the event's line is this text
abbrev HasText : List ℕ → Step → Type 0
HasText text event = IsInForm event × (text ≡ step_line event)

found_of_words : (text : List ℕ) (words : List (List ℕ)) (found : Option Step) → words ≡ words_of text
    → Finds found (HasWords words) → Finds found (HasText text)
found_of_words text words None cut none = λ event is.
    none event (is.0, cut ∙ ap words_of is.1 ∙ step_splits event is.0)
found_of_words text words (Some event) cut is = (is.0, step_joins text event (sym cut ∙ is.1))

pub read_of_words : {E : Type 0} (text : List ℕ) (words : List (List ℕ)) (result : Result (Option Step) E)
    → words ≡ words_of text → IfOk result (λ found. Finds found (HasWords words))
    → IfOk result (λ found. Finds found (HasText text))
read_of_words text words (Ok found) cut is = found_of_words text words found cut is
read_of_words text words (Err e) cut is = tt

-- ---- the event of words

-- two words are a verb and a number
pub of_two_words : (first second : List ℕ) (event : Step) → HasWords (first ∷ second ∷ []) event
    → (v : Verb) × (n : ℕ) × (first ≡ verb_word v) × IsNumber second n
of_two_words first second (Submit (Put key row)) is = absurd (omega (arith, ap length is.1))
of_two_words first second (Submit (Add key c row)) is = absurd (omega (arith, ap length is.1))
of_two_words first second (Submit (Drop key)) is = (verb.Drop, key, cc, (is.0, cc))
of_two_words first second (Send number) is = (verb.Send, number, cc, (is.0, cc))
of_two_words first second (Ask packet) is = (verb.Ask, packet, cc, (is.0, cc))
of_two_words first second (Ack packet) is = (verb.Ack, packet, cc, (is.0, cc))
of_two_words first second Restart is = absurd (omega (arith, ap length is.1))
of_two_words first second (Show key) is = (verb.Show, key, cc, (is.0, cc))

-- ---- back

-- the verbs
abbrev verbs : List Verb
verbs = verb.Drop ∷ verb.Send ∷ verb.Ask ∷ verb.Ack ∷ verb.Show ∷ []

-- the verb of a word among these, Drop where it is the word of none
abbrev verb_among : List Verb → List ℕ → Verb
verb_among [] word = verb.Drop
verb_among (v ∷ others) word = if bytes_eq word (verb_word v) then v else verb_among others word

-- the event of words, by their count
abbrev event_of : List (List ℕ) → Step
event_of (first ∷ second ∷ []) = numbered (verb_among verbs first) (digits_value 10 second)
event_of (first ∷ key ∷ row ∷ []) = Submit (Put (digits_value 10 key) (decoded row))
event_of (first ∷ key ∷ c ∷ row ∷ []) = Submit (Add (digits_value 10 key) (get_or (decoded c) 0 0) (decoded row))
event_of words = Restart

same_put : (key n : ℕ) (row bytes : List ℕ) → key ≡ n → row ≡ bytes → Submit (Put key row) ≡ Submit (Put n bytes)
same_put key n row bytes keys rows = λ i. Submit (Put (keys i) (rows i))

same_add : (key n c d : ℕ) (row bytes : List ℕ) → key ≡ n → c ≡ d → row ≡ bytes
    → Submit (Add key c row) ≡ Submit (Add n d bytes)
same_add key n c d row bytes keys factors rows = λ i. Submit (Add (keys i) (factors i) (rows i))

event_back : (event : Step) → IsInForm event → event_of (step_words event) ≡ event
event_back (Submit (Put key row)) form =
    same_put _ key _ row (decimal_value key form.0) (decoded_encoded row form.1.each)
event_back (Submit (Add key c row)) form =
    same_add _ key _ c _ row (decimal_value key form.0)
    (ap (λ (l : List ℕ). get_or l 0 0) (decoded_encoded (c ∷ []) (one_byte_all c form.1)))
    (decoded_encoded row form.2.each)
event_back (Submit (Drop key)) form = ap (λ (n : ℕ). Submit (Drop n)) (decimal_value key form)
event_back (Send number) form = ap (λ (n : ℕ). Send n) (decimal_value number form)
event_back (Ask packet) form = ap (λ (n : ℕ). Ask n) (decimal_value packet form)
event_back (Ack packet) form = ap (λ (n : ℕ). Ack n) (decimal_value packet form)
event_back Restart form = refl
event_back (Show key) form = ap (λ (n : ℕ). Show n) (decimal_value key form)

-- two events in form with one text are one event
pub step_unique : (a b : Step) → IsInForm a → IsInForm b → step_line a ≡ step_line b → a ≡ b
step_unique a b a_form b_form same =
    let words : step_words a ≡ step_words b = sym (step_splits a a_form) ∙ ap words_of same ∙ step_splits b b_form in
    sym (event_back a a_form) ∙ ap event_of words ∙ event_back b b_form
