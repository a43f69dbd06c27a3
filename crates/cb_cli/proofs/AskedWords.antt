-- What a command line asks for, by what clap finds in it.
use Rattle.std.proofs.Common.{◌≡◌, ℕ, ◌^◌, ◌<◌, ◌≤◌, Bool, true, false, cond, ◌||◌, inl, inr, List, [], ◌∷◌, ◌++◌, Option, Some, None, refl, sym, ap, ◌∙◌, subst, codes, length, map, fold, String, Global, true≢false, arith}
use Rattle.std.specs.Borrow.{Bor}
use Rattle.std.specs.Fmt.{decimal}
use Rattle.std.specs.List.{AllByRecursion, filter, list_any}
use Rattle.std.specs.Prelude.{◌≢◌, IfOk, MatchOption, Result, is_some, string_bytes}
use Rattle.std.specs.Str.{bytes_eq}
use Rattle.std.proofs.lemmas.Fmt.{decimal_is_IsNumeral}
use Rattle.std.proofs.lemmas.List.{nil_from_length}
use Rattle.std.proofs.lemmas.Result.{IfOk-weaker}
use Rattle.std.proofs.lemmas.List.Folds.{list_any-append}
use Rattle.std.proofs.lemmas.Slice.Eq.{bytes_eq-Decides}
use Rattle.clap.specs.Faults.{check_fault, defaults_fault, entered_fault, fault_of, given_default_fault, is_simple_and_free, settle_fault, walk_fault}
use Rattle.clap.specs.Kinds.{HasKind, Kinds, or_else}
use Rattle.clap.specs.Matches.{first_value, found_of}
use Rattle.clap.specs.Simple.{App, HasMatchesOf, app_of, built, entered, is_simple, matches_of}
use Rattle.clap.specs.Takes.{is_given as has_source}
use Rattle.clap.specs.Walk.{Row, Rule, Text, Walk, default_rows, finished, first_of, has_row, is_empty, reading_by, rows_of, settled, walked, with_default}
use Rattle.clap.specs.declared.builder.command.Command.{Command as ClapCommand}
use Rattle.clap.specs.declared.error.Error.{Error}
use Rattle.clap.specs.declared.error.kind.ErrorKind.{ErrorKind}
use Rattle.clap.specs.declared.error.kind.ErrorKind.TheVariants.{OutOfMemory}
use Rattle.clap.specs.declared.parser.matches.ArgMatches.{ArgMatches}
use Rattle.clap.specs.Words.{kind_of}
use Rattle.clap.proofs.WalkLemmas.{first_value-rows}
use Rattle.cb_cli.specs.Given.{AreFound, GivenAsks, text_in}
use Rattle.cb_cli.specs.Reader.{reader}
use Rattle.cb_cli.specs.Words.{WordsAsk, AskFor, AreParts, IsPart, Name, NameNone, CommandPart, Setting, is_given, is_word, setting_name, setting_value, command_word}
use Rattle.cb_cli.specs.Words.CommandPart.{Word, Given}
use Rattle.cb_cli.specs.Words.Setting.{Seed, Lines, Lanes}
use Rattle.cb_cli.specs.declared.words.Asked.{Asked}
use Rattle.cb_cli.specs.declared.words.Asked.TheVariants.{Run, Draw}
use Rattle.cb_cli.specs.declared.words.Command.{Command}
use Rattle.cb_cli.specs.declared.words.Command.TheVariants.{Seq, Threads, Local, Check, Rma, Scrub, Map}
use Rattle.cb_cli.specs.declared.words.Given.{Given as WordsGiven}
use Rattle.cb_cli.specs.declared.words.Plan.{Plan}
use Rattle.cb_cli.proofs.FlagWords.{IsNoFlag, dashes, plain_digits, plain_from}
use Rattle.cb_cli.proofs.OptionReader.{again, at_idle, held_at, no_first, no_second, part_value, reader_is_simple, row, rules, settled_is, shape}
use Rattle.cb_cli.proofs.PartsTaken.{Finished, IsPlainPart, Total, complete, idle_at, other_dashed, other_joined, sound}

-- ---- values by rows and by parts

abbrev first_in : List CommandPart → Option Text
first_in [] = None
first_in (p ∷ ps) = Some (part_value p)

first_word : (parts : List CommandPart) → first_of (codes "command") (map row parts) ≡ first_in (filter is_word parts)
first_word [] = refl
first_word (Word w ∷ parts) = refl
first_word (Given Seed v ∷ parts) = first_word parts
first_word (Given Lines v ∷ parts) = first_word parts
first_word (Given Lanes v ∷ parts) = first_word parts

first_given : (o : Setting) (parts : List CommandPart) → first_of (setting_name o) (map row parts) ≡ first_in (filter (is_given o) parts)
first_given o [] = refl
first_given Seed (Word w ∷ parts) = first_given Seed parts
first_given Seed (Given Seed v ∷ parts) = refl
first_given Seed (Given Lines v ∷ parts) = first_given Seed parts
first_given Seed (Given Lanes v ∷ parts) = first_given Seed parts
first_given Lines (Word w ∷ parts) = first_given Lines parts
first_given Lines (Given Seed v ∷ parts) = first_given Lines parts
first_given Lines (Given Lines v ∷ parts) = refl
first_given Lines (Given Lanes v ∷ parts) = first_given Lines parts
first_given Lanes (Word w ∷ parts) = first_given Lanes parts
first_given Lanes (Given Seed v ∷ parts) = first_given Lanes parts
first_given Lanes (Given Lines v ∷ parts) = first_given Lanes parts
first_given Lanes (Given Lanes v ∷ parts) = refl

word_there : (parts : List CommandPart) → 0 < length (filter is_word parts) → has_source (codes "command") (map row parts) ≡ true
word_there [] some = absurd (omega (arith, some))
word_there (Word w ∷ parts) some = refl
word_there (Given Seed v ∷ parts) some = word_there parts some
word_there (Given Lines v ∷ parts) some = word_there parts some
word_there (Given Lanes v ∷ parts) some = word_there parts some

no_first_in : (parts : List CommandPart) → first_in parts ≡ None → parts ≡ []
no_first_in [] e = refl
no_first_in (p ∷ parts) e = absurd cc

only_word : (parts : List CommandPart) (v : Text) → length (filter is_word parts) ≤ 1 → first_in (filter is_word parts) ≡ Some v → filter is_word parts ≡ Word v ∷ []
only_word [] v few e = absurd cc
only_word (Word w ∷ parts) v few e =
    let rest : filter is_word parts ≡ [] = nil_from_length (filter is_word parts) (omega (arith, few)) in
    let same_word : w ≡ v = cc in
    (λ i. Word (same_word i) ∷ rest i)
only_word (Given o u ∷ parts) v few e = only_word parts v few e

-- the first of its kind, where it is the only one
one_given : (o : Setting) (u v : Text) (rest : List CommandPart) → length (Given o u ∷ rest) ≤ 1 → first_in (Given o u ∷ rest) ≡ Some v → Given o u ∷ rest ≡ Given o v ∷ []
one_given o u v rest few e =
    let none : rest ≡ [] = nil_from_length rest (omega (arith, few)) in
    let same_value : u ≡ v = cc in
    (λ i. Given o (same_value i) ∷ none i)

only_given : (o : Setting) (parts : List CommandPart) (v : Text) → length (filter (is_given o) parts) ≤ 1 → first_in (filter (is_given o) parts) ≡ Some v → filter (is_given o) parts ≡ Given o v ∷ []
only_given o [] v few e = absurd cc
only_given o (Word w ∷ parts) v few e = only_given o parts v few e
only_given Seed (Given Seed u ∷ parts) v few e = one_given Seed u v (filter (is_given Seed) parts) few e
only_given Seed (Given Lines u ∷ parts) v few e = only_given Seed parts v few e
only_given Seed (Given Lanes u ∷ parts) v few e = only_given Seed parts v few e
only_given Lines (Given Seed u ∷ parts) v few e = only_given Lines parts v few e
only_given Lines (Given Lines u ∷ parts) v few e = one_given Lines u v (filter (is_given Lines) parts) few e
only_given Lines (Given Lanes u ∷ parts) v few e = only_given Lines parts v few e
only_given Lanes (Given Seed u ∷ parts) v few e = only_given Lanes parts v few e
only_given Lanes (Given Lines u ∷ parts) v few e = only_given Lanes parts v few e
only_given Lanes (Given Lanes u ∷ parts) v few e = one_given Lanes u v (filter (is_given Lanes) parts) few e

given_there : (o : Setting) (u : Text) (parts : List CommandPart) → filter (is_given o) (Given o u ∷ parts) ≡ [] → ⊥
given_there Seed u parts e = absurd cc
given_there Lines u parts e = absurd cc
given_there Lanes u parts e = absurd cc

-- where no kind of part is left, none is
none_left : (parts : List CommandPart) → filter is_word parts ≡ [] → ((o : Setting) → filter (is_given o) parts ≡ []) → parts ≡ []
none_left [] words options = refl
none_left (Word w ∷ parts) words options = absurd cc
none_left (Given o u ∷ parts) words options = absurd (given_there o u parts (options o))

lone : (parts : List CommandPart) (v : Text) → filter is_word parts ≡ Word v ∷ [] → ((o : Setting) → filter (is_given o) parts ≡ []) → parts ≡ Word v ∷ []
lone [] v words options = absurd cc
lone (Word w ∷ parts) v words options =
    let rest : filter is_word parts ≡ [] = cc in
    let head : Word w ≡ Word v = cc in
    (λ i. head i ∷ none_left parts rest options i)
lone (Given o u ∷ parts) v words options = absurd (given_there o u parts (options o))

-- ---- behind the walk

or_true : (b : Bool) → (b || true) ≡ true
or_true true = refl
or_true false = refl

same_either : {X : Type 0} (b : Bool) (x : X) → cond b x x ≡ x
same_either true x = refl
same_either false x = refl

with_none : (a : Rule) (rows : List Row) → a.defaults ≡ [] → with_default rows a ≡ rows
with_none a rows none =
    ap (λ (ds : List Text). cond (has_row a.id rows) rows (default_rows a.id (reading_by a) ds rows)) none ∙ same_either (has_row a.id rows) rows

defaults_stay : (rs : List Rule) → AllByRecursion (λ a. a.defaults ≡ []) rs → (rows : List Row) → fold with_default rows rs ≡ rows
defaults_stay [] none rows = refl
defaults_stay (a ∷ rs) none rows =
    ap (λ (more : List Row). fold with_default more rs) (with_none a rows none.0) ∙ defaults_stay rs none.1 rows

defaults_free : (rs : List Rule) → AllByRecursion (λ a. a.defaults ≡ []) rs → (rows : List Row) → defaults_fault rows rs ≡ []
unfolding defaults_fault
defaults_free [] none rows = refl
defaults_free (a ∷ rs) none rows =
    ap (λ (ds : List Text). or_else (cond (has_row a.id rows || is_empty ds) [] (given_default_fault a ds)) (defaults_fault (with_default rows a) rs)) none.0
    ∙ ap (λ (b : Bool). or_else (cond b [] (given_default_fault a [])) (defaults_fault (with_default rows a) rs)) (or_true (has_row a.id rows))
    ∙ defaults_free rs none.1 (with_default rows a)

no_defaults : AllByRecursion (λ a. a.defaults ≡ []) rules
no_defaults = (refl, (refl, (refl, (refl, tt))))

abbrev start : Walk
start = at_idle (held_at [] None) 1

check_free : (rows : List Row) → has_source (codes "command") rows ≡ true → check_fault shape rows false ≡ []
check_free rows there = rw there refl

module _ (words : List Text) where
  abbrev end_of : Walk
  end_of = fold (walked rules []) start words

  fault_walk : fault_of reader words ≡ [] → (walk_fault shape [] start words ≡ []) × (settle_fault rules again end_of.held ≡ [])
  fault_walk e = (no_first _ _ e, no_first _ _ (no_second _ _ (no_second _ _ e)))

  abbrev whole : Walk → Kinds
  whole end = or_else (walk_fault shape [] start words)
      (or_else (entered_fault (built reader) end.stopped) (or_else (settle_fault rules again end.held)
      (or_else (defaults_fault (settled rules end.held).rows rules) (check_fault shape (finished rules end.held) (is_some (entered (built reader) end.stopped))))))

  module _ (total : List CommandPart) (f : Finished start words total) where
    end_rows : finished rules (held_at f.done f.pending) ≡ map row total
    end_rows =
        defaults_stay rules no_defaults (settled rules (held_at f.done f.pending)).rows ∙ ap (λ (h : Rattle.clap.specs.Walk.Held). h.rows) (settled_is f.done f.pending f.free) ∙ ap (map row) f.all_are

    pub fault_none : 0 < length (filter is_word total) → fault_of reader words ≡ []
    fault_none some =
        let check : check_fault shape (finished rules (held_at f.done f.pending)) false ≡ [] =
        ap (λ (rows : List Row). check_fault shape rows false) end_rows ∙ check_free (map row total) (word_there total some) in
        ap whole f.walk
        ∙ (λ i. or_else (f.no_fault i) (or_else [] (or_else (f.free i) (or_else (defaults_free rules no_defaults (settled rules (held_at f.done f.pending)).rows i) (check i)))))

    pub matches_are : matches_of reader words ≡ map row total
    matches_are = ap (λ (end : Walk). finished rules end.held) f.walk ∙ end_rows

-- ---- what asks for something is taken

-- The words are these parts: one word, and each option once at the most.
record IsAsked (words : List Text) (parts : List CommandPart) : Type 0 where
  are : AreParts parts words
  plain : AllByRecursion IsPlainPart parts
  word : length (filter is_word parts) ≡ 1
  given : (o : Setting) → length (filter (is_given o) parts) ≤ 1

abbrev texts_of : List (String Global) → List Text
texts_of = map string_bytes

plain_command : (c : Command) → IsNoFlag (command_word c)
plain_command Seq = plain_from 115 (codes "eq") refl
plain_command Threads = plain_from 116 (codes "hreads") refl
plain_command Local = plain_from 108 (codes "ocal") refl
plain_command Check = plain_from 99 (codes "heck") refl
plain_command Rma = plain_from 114 (codes "ma") refl
plain_command Scrub = plain_from 115 (codes "crub") refl
plain_command Map = plain_from 109 (codes "ap") refl

plain_number : (n : ℕ) → n < 2 ^ 64 → IsNoFlag (decimal n)
plain_number n small =
    let numeral = (decimal_is_IsNumeral n small).0 in
    plain_digits (decimal n) numeral.0 numeral.1

-- what holds of the parts of each kind holds of all
of_kinds : (parts : List CommandPart) → AllByRecursion IsPlainPart (filter is_word parts) → ((o : Setting) → AllByRecursion IsPlainPart (filter (is_given o) parts)) → AllByRecursion IsPlainPart parts
of_kinds [] words options = tt
of_kinds (Word w ∷ parts) words options = (words.0, of_kinds parts words.1 options)
of_kinds (Given Seed v ∷ parts) words options = ((options Seed).0, of_kinds parts words (λ o. behind_seed o))
  where
    behind_seed : (o : Setting) → AllByRecursion IsPlainPart (filter (is_given o) parts)
    behind_seed Seed = (options Seed).1
    behind_seed Lines = options Lines
    behind_seed Lanes = options Lanes
of_kinds (Given Lines v ∷ parts) words options = ((options Lines).0, of_kinds parts words (λ o. behind_lines o))
  where
    behind_lines : (o : Setting) → AllByRecursion IsPlainPart (filter (is_given o) parts)
    behind_lines Seed = options Seed
    behind_lines Lines = (options Lines).1
    behind_lines Lanes = options Lanes
of_kinds (Given Lanes v ∷ parts) words options = ((options Lanes).0, of_kinds parts words (λ o. behind_lanes o))
  where
    behind_lanes : (o : Setting) → AllByRecursion IsPlainPart (filter (is_given o) parts)
    behind_lanes Seed = options Seed
    behind_lanes Lines = options Lines
    behind_lanes Lanes = (options Lanes).1

small_value : (words : List (String Global)) (plan : Plan) → AskFor words plan → (o : Setting) → setting_value plan o < 2 ^ 64
small_value words plan asks Seed = omega (arith, asks.in_range.seed)
small_value words plan asks Lines = omega (arith, asks.in_range.lines.1)
small_value words plan asks Lanes = omega (arith, asks.in_range.lanes.1)

asked_draw : (words : List (String Global)) (plan : Plan) (asks : AskFor words plan) → IsAsked (texts_of words) asks.parts
asked_draw words plan asks = record {
  are = asks.words_are;
  plain =
      of_kinds asks.parts (subst (AllByRecursion IsPlainPart) (sym asks.gen) (plain_from 103 (codes "en") refl, tt))
      (λ o. subst (AllByRecursion IsPlainPart) (sym (asks.options o)) (plain_number (setting_value plan o) (small_value words plan asks o), tt));
  word = ap length asks.gen;
  given = λ o. omega (arith, ap length (asks.options o));
}

asked_run : (words : List (String Global)) (c : Command) → Name words c → IsAsked (texts_of words) (Word (command_word c) ∷ [])
asked_run words c named = record {
  are = (command_word c ∷ [], [], refl, refl, named);
  plain = (plain_command c, tt);
  word = refl;
  given = λ o. omega arith;
}

abbrev parts_of : (words : List (String Global)) (asked : Asked) → WordsAsk words asked
    → List CommandPart
parts_of words (Run c) ask = Word (command_word c) ∷ []
parts_of words (Draw plan) ask = ask.parts

is_asked : (words : List (String Global)) (asked : Asked) (ask : WordsAsk words asked) → IsAsked (texts_of words) (parts_of words asked ask)
is_asked words (Run c) ask = asked_run words c ask
is_asked words (Draw plan) ask = asked_draw words plan ask

finished_asked : (words : List Text) (parts : List CommandPart) → IsAsked words parts → Finished start words parts
finished_asked words parts is =
    complete parts [] None 1 words is.are is.plain (record { word = omega (arith, is.word); given = is.given }) refl (λ some. refl)

asked_fault : (words : List (String Global)) (asked : Asked) → WordsAsk words asked → fault_of reader (texts_of words) ≡ []
asked_fault words asked ask =
    let is = is_asked words asked ask in
    fault_none (texts_of words) (parts_of words asked ask) (finished_asked (texts_of words) (parts_of words asked ask) is) (omega (arith, is.word))

-- clap's rows are those of the parts that ask
pub asked_rows : (words : List (String Global)) (asked : Asked) (ask : WordsAsk words asked) → matches_of reader (texts_of words) ≡ map row (parts_of words asked ask)
asked_rows words asked ask =
    matches_are (texts_of words) (parts_of words asked ask) (finished_asked (texts_of words) (parts_of words asked ask) (is_asked words asked ask))

-- words without one of the options ask for no drawn script
pub without_option : (words : List (String Global)) (o : Setting) → first_of (setting_name o) (matches_of reader (texts_of words)) ≡ None → (plan : Plan) → AskFor words plan → ⊥
without_option words o none plan asks =
    let there : first_of (setting_name o) (matches_of reader (texts_of words)) ≡ Some (decimal (setting_value plan o)) =
    ap (first_of (setting_name o)) (asked_rows words (Draw plan) asks) ∙ first_given o asks.parts ∙ ap first_in (asks.options o) in
    absurd (let e : None ≡ Some (decimal (setting_value plan o)) = sym none ∙ there in cc)

-- as do words whose word is not `gen`
pub another_than_gen : (words : List (String Global)) (word : Text) → first_of (codes "command") (matches_of reader (texts_of words)) ≡ Some word → bytes_eq word (codes "gen") ≡ false
    → (plan : Plan) → AskFor words plan → ⊥
another_than_gen words word there other plan asks =
    let gen : first_of (codes "command") (matches_of reader (texts_of words)) ≡ Some (codes "gen") =
    ap (first_of (codes "command")) (asked_rows words (Draw plan) asks) ∙ first_word asks.parts ∙ ap first_in asks.gen in
    let same_word : word ≡ codes "gen" = (let e : Some word ≡ Some (codes "gen") = sym there ∙ gen in cc) in
    absurd (true≢false (sym ((bytes_eq-Decides word (codes "gen")).1 same_word) ∙ other))

-- and has no two dashes
no_dashes : (parts : List CommandPart) (words : List Text) → AreParts parts words → AllByRecursion IsPlainPart parts → list_any (λ w. bytes_eq w dashes) words ≡ false
no_dashes [] words are plain = ap (list_any (λ w. bytes_eq w dashes)) are
no_dashes (p ∷ parts) words are plain =
    let among = list_any (λ (w : Text). bytes_eq w dashes) in
    ap among are.4 ∙ list_any-append (λ (w : Text). bytes_eq w dashes) are.0 are.1 ∙ (λ i. front_free p are.0 are.2 plain.0 i || no_dashes parts are.1 are.3 plain.1 i)
  where
    or_none : (a b : Bool) → a ≡ false → b ≡ false → (a || (b || false)) ≡ false
    or_none a b e f = (λ i. e i || (f i || false))

    front_free : (p : CommandPart) (front : List Text) → IsPart p front → IsPlainPart p → list_any (λ w. bytes_eq w dashes) front ≡ false
    front_free (Word w) front is plain = ap (list_any (λ w. bytes_eq w dashes)) is ∙ ap (λ (b : Bool). b || false) plain.other
    front_free (Given o v) front (inl is) plain = ap (list_any (λ w. bytes_eq w dashes)) is ∙ or_none _ _ (other_dashed o) plain.other
    front_free (Given o v) front (inr is) plain = ap (list_any (λ w. bytes_eq w dashes)) is ∙ ap (λ (b : Bool). b || false) (other_joined o v)

has_dashes : (words : List (String Global)) → list_any (λ w. bytes_eq w dashes) (texts_of words) ≡ list_any (λ w. bytes_eq (string_bytes w) dashes) words
has_dashes [] = refl
has_dashes (w ∷ words) = ap (λ (rest : Bool). bytes_eq (string_bytes w) dashes || rest) (has_dashes words)

-- two dashes ask for nothing
pub dashes_name_none : (words : List (String Global)) → list_any (λ w. bytes_eq (string_bytes w) dashes) words ≡ true → NameNone words
dashes_name_none words has asked ask =
    let is = is_asked words asked ask in
    absurd (true≢false (sym has ∙ sym (has_dashes words) ∙ no_dashes (parts_of words asked ask) (texts_of words) is.are is.plain))

-- words at which clap has a fault ask for nothing
pub fault_names_none : (words : List (String Global)) → (fault_of reader (texts_of words) ≡ [] → ⊥) → NameNone words
fault_names_none words fault asked ask = fault (asked_fault words asked ask)

-- as do words that clap refuses but for want of memory
pub refused_name_none : (made : ClapCommand) (words : List (String Global)) (e : Error) → app_of made ≡ reader
    → (is_simple_and_free (app_of made) ≡ true → HasKind (fault_of (app_of made) (texts_of words)) e) → (kind_of e ≡ OutOfMemory → ⊥) → NameNone words
refused_name_none made words e is kinds other asked ask =
    let kind : HasKind (fault_of (app_of made) (texts_of words)) e = kinds (ap is_simple_and_free is ∙ reader_is_simple) in
    let fault : fault_of (app_of made) (texts_of words) ≡ [] = ap (λ (a : App). fault_of a (texts_of words)) is ∙ asked_fault words asked ask in
    elim (subst (λ (ks : Kinds). HasKind ks e) fault kind) [ inl memory ↦ other memory | inr among ↦ among ]

-- and nothing is found then
pub none_given : {E : Type 0} (made : ClapCommand) (words : List (String Global)) (e : Error) (kind : ErrorKind)
    (found : Result (Option WordsGiven) E) (P : WordsGiven → Type 0) → app_of made ≡ reader
    → (is_simple_and_free (app_of made) ≡ true → HasKind (fault_of (app_of made) (texts_of words)) e)
    → kind ≡ kind_of e
    → IfOk found (λ given. (given ≡ None) × (kind ≢ OutOfMemory))
    → IfOk found (λ given. MatchOption given (NameNone words) P)
none_given made words e kind found P is kinds same none =
    IfOk-weaker found _ _ (λ given left. subst (λ g. MatchOption g (NameNone words) P) (sym left.0)
    (refused_name_none made words e is kinds (λ memory. left.1 (same ∙ memory)))) none

-- ---- what is given

abbrev pub option_in : WordsGiven → Setting → Option (Bor Text)
option_in given Seed = given.seed
option_in given Lines = given.lines
option_in given Lanes = given.lanes

option_found : (m : ArgMatches) (given : WordsGiven) → AreFound m given → (o : Setting)
    → text_in (option_in given o) ≡ first_value (found_of m) (setting_name o)
option_found m given found Seed = found.seed
option_found m given found Lines = found.lines
option_found m given found Lanes = found.lanes

none_in : (found : Option (Bor Text)) → text_in found ≡ None → found ≡ None
none_in None e = refl
none_in (Some b) e = absurd cc

module _ (made : ClapCommand) (words : List (String Global)) (m : ArgMatches) (given : WordsGiven) (is : app_of made ≡ reader) (found : AreFound m given)
    (others : list_any (λ w. bytes_eq (string_bytes w) dashes) words ≡ false) (free : is_simple_and_free (app_of made) ≡ true → fault_of (app_of made) (texts_of words) ≡ [])
    (matches : HasMatchesOf (app_of made) (texts_of words) m) where
  rows_are : rows_of (found_of m) ≡ matches_of reader (texts_of words)
  rows_are = (matches (ap is_simple is ∙ refl)).0 ∙ ap (λ (a : App). matches_of a (texts_of words)) is

  -- what was found, where clap's rows are those of these parts
  word_in : (parts : List CommandPart) → matches_of reader (texts_of words) ≡ map row parts → text_in given.word ≡ first_in (filter is_word parts)
  word_in parts same_rows =
      found.word ∙ first_value-rows (found_of m) (codes "command") ∙ ap (first_of (codes "command")) (rows_are ∙ same_rows) ∙ first_word parts

  given_in : (parts : List CommandPart) → matches_of reader (texts_of words) ≡ map row parts → (o : Setting) → text_in (option_in given o) ≡ first_in (filter (is_given o) parts)
  given_in parts same_rows o =
      option_found m given found o ∙ first_value-rows (found_of m) (setting_name o) ∙ ap (first_of (setting_name o)) (rows_are ∙ same_rows) ∙ first_given o parts

  fault : fault_of reader (texts_of words) ≡ []
  fault = ap (λ (a : App). fault_of a (texts_of words)) (sym is) ∙ free (ap is_simple_and_free is ∙ reader_is_simple)

  total_is : Total (idle_at [] None 1) (texts_of words)
  total_is =
      let walk = fault_walk (texts_of words) fault in
      sound (texts_of words) (idle_at [] None 1) (record { word = omega arith; given = λ o. omega arith }, inl refl) (has_dashes words ∙ others) walk.0 walk.1

  abbrev total : List CommandPart
  total = total_is.total

  total_rows : matches_of reader (texts_of words) ≡ map row total
  total_rows =
      defaults_stay rules no_defaults (settled rules (end_of (texts_of words)).held).rows ∙ ap (λ (h : Rattle.clap.specs.Walk.Held). h.rows) total_is.rows

  total_are : AreParts total (texts_of words)
  total_are = subst (λ (parts : List CommandPart). AreParts parts (texts_of words)) (sym total_is.reads.2) total_is.reads.1

  one_part : (v : Text) → AreParts (Word v ∷ []) (texts_of words) → texts_of words ≡ v ∷ []
  one_part v are = are.4 ∙ (λ i. are.2 i ++ are.3 i)

  asked_then : (asked : Asked) → GivenAsks given asked → WordsAsk words asked
  asked_then (Run c) g =
      let word = only_word total (command_word c) total_is.once.word (sym (word_in total total_rows) ∙ g.0) in
      let none : (o : Setting) → option_in given o ≡ None → filter (is_given o) total ≡ [] = (λ o e. no_first_in (filter (is_given o) total) (sym (given_in total total_rows o) ∙ ap text_in e)) in
      one_part (command_word c) (subst (λ (parts : List CommandPart). AreParts parts (texts_of words)) (lone total (command_word c) word (λ o. none o (nothing o))) total_are)
    where
      nothing : (o : Setting) → option_in given o ≡ None
      nothing Seed = g.1
      nothing Lines = g.2
      nothing Lanes = g.3
  asked_then (Draw plan) g = record {
    parts = total;
    words_are = total_are;
    gen = only_word total (codes "gen") total_is.once.word (sym (word_in total total_rows) ∙ g.0);
    options = λ o. only_given o total (decimal (setting_value plan o)) (total_is.once.given o) (sym (given_in total total_rows o) ∙ each o);
    in_range = g.1.3;
  }
    where
      each : (o : Setting) → text_in (option_in given o) ≡ Some (decimal (setting_value plan o))
      each Seed = g.1.0
      each Lines = g.1.1
      each Lanes = g.1.2

  given_then : (asked : Asked) → WordsAsk words asked → GivenAsks given asked
  given_then (Run c) ask =
      let rows = asked_rows words (Run c) ask in
      let parts = Word (command_word c) ∷ [] in
      (word_in parts rows, none_in given.seed (given_in parts rows Seed), none_in given.lines (given_in parts rows Lines), none_in given.lanes (given_in parts rows Lanes))
  given_then (Draw plan) ask =
      let rows = asked_rows words (Draw plan) ask in
      let option : (o : Setting) → text_in (option_in given o) ≡ Some (decimal (setting_value plan o)) = (λ o. given_in ask.parts rows o ∙ ap first_in (ask.options o)) in
      (word_in ask.parts rows ∙ ap first_in ask.gen, (option Seed, option Lines, option Lanes, ask.in_range))

  pub given_asks : (asked : Asked) → (WordsAsk words asked → GivenAsks given asked) × (GivenAsks given asked → WordsAsk words asked)
  given_asks asked = (given_then asked, asked_then asked)
