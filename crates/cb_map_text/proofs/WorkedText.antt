-- Worked examples: a text of commands, its first line outside the form, and what is printed. Each part
-- of a definition is broken alone.
use Rattle.std.proofs.Common.{◌≡◌, ℕ, ◌^◌, ◌<◌, List, [], ◌∷◌, ◌++◌, length, map, get_or, inl, inr, refl, ap, ◌∙◌, arith, lit≤}
use Rattle.std.specs.Prelude.{codes}
use Rattle.std.specs.Fmt.{digits}
use Rattle.std.specs.List.{AllByRecursion}
use Rattle.cb_types.specs.Config.{IsAccepted}
use Rattle.cb_types.specs.declared.config.Config.{Config}
use Rattle.cb_types.specs.declared.config.Field.TheVariants as field
use Rattle.cb_types.specs.declared.reply.Reply.TheVariants.{Full, NoRoom, Worn}
use Rattle.cb_script.specs.Numbers.{AreNumbers}
use Rattle.cb_script.specs.declared.fault.Reason.TheVariants as reason
use Rattle.cb_script.specs.Spelling.{header_line, lines_of, words_of}
use Rattle.cb_script.proofs.PublicLaws.{differ, header_refused}
use Rattle.cb_map_text.specs.First.{First, HasAcceptedHeader, IsBadLine, IsNoCommand}
use Rattle.cb_map_text.specs.First.First.{TooLong, NoHeader, AtLine}
use Rattle.cb_map_text.specs.Form.{IsInForm, Spells}
use Rattle.cb_map_text.specs.Spelling.{command_line, command_words}
use Rattle.cb_map_text.specs.Texts.{said_line, said_text, refusal_text}
use Rattle.cb_map_text.specs.Verdicts.{Accepts, Refuses}
use Rattle.cb_map_text.specs.declared.command.FarAnswer.TheVariants.{Done, Number, Nothing, Outside, Refused}
use Rattle.cb_map_text.specs.declared.command.FarCommand.{FarCommand}
use Rattle.cb_map_text.specs.declared.command.FarCommand.TheVariants.{Push, Set, Get, Pop, Put, Look, Drop}
use Rattle.cb_map_text.proofs.Commands.{command_splits}
use Rattle.cb_map_text.proofs.OneReading.{first_unique, refusal_unique, spells_no_fault}

-- ---- numbers

greatest : IsInForm (Set 999999999 999999999)
greatest = (omega arith, omega arith)

pushed_too_great : IsInForm (Push (10 ^ 9)) → ⊥
pushed_too_great is = omega (arith, is)

index_too_great : IsInForm (Set (10 ^ 9) 1) → ⊥
index_too_great is = omega (arith, is.0)

set_too_great : IsInForm (Set 1 (10 ^ 9)) → ⊥
set_too_great is = omega (arith, is.1)

got_too_great : IsInForm (Get (10 ^ 9)) → ⊥
got_too_great is = omega (arith, is)

key_too_great : IsInForm (Put (10 ^ 9) 1) → ⊥
key_too_great is = omega (arith, is.0)

put_too_great : IsInForm (Put 1 (10 ^ 9)) → ⊥
put_too_great is = omega (arith, is.1)

looked_too_great : IsInForm (Look (10 ^ 9)) → ⊥
looked_too_great is = omega (arith, is)

dropped_too_great : IsInForm (Drop (10 ^ 9)) → ⊥
dropped_too_great is = omega (arith, is)

-- ---- a text of each command

abbrev pub small : Config
small = record { k = 2; r = 2; nodes = 6; frames = 8; room = 64; handles = 16; turns = 0 }

pub accepted : IsAccepted small
accepted field.K = (omega arith, omega arith)
accepted field.R = (omega arith, omega arith)
accepted field.Nodes = (omega arith, omega arith)
accepted field.Frames = (omega arith, omega arith)
accepted field.Room = (omega arith, omega arith)
accepted field.Handles = (omega arith, omega arith)
accepted field.Turns = omega arith

abbrev pub input : List ℕ
input = codes "carbink 1 k=2 r=2 nodes=6 frames=8 room=64 handles=16 turns=0\npush 7\nset 0 9\nget 0\npop\nput 5 6\nlook 5\ndrop 5"

abbrev pub commands : List FarCommand
commands = Push 7 ∷ Set 0 9 ∷ Get 0 ∷ Pop ∷ Put 5 6 ∷ Look 5 ∷ Drop 5 ∷ []

in_form : AllByRecursion IsInForm commands
in_form = (
  omega arith,
  ((omega arith, omega arith), (omega arith, (tt, ((omega arith, omega arith), (omega arith, (omega arith, tt)))))),
)

pub spelled : Spells input small commands
unfolding header_line digits
spelled = record { short = lit≤ tt; accepted = accepted; few = lit≤ tt; form = in_form; text = refl }

with_too_many_bytes : (bytes : List ℕ) → 1048576 < length bytes → Spells bytes small commands → ⊥
with_too_many_bytes bytes long h = omega (arith, long, h.short)

-- a configuration that is refused
abbrev framed : ℕ → Config
framed frames = record small { frames = frames }

with_no_frame : (bytes : List ℕ) → Spells bytes (framed 0) commands → ⊥
with_no_frame bytes h = let frames = h.accepted field.Frames in omega (arith, frames.0)

with_too_many_commands : (bytes : List ℕ) (many : List FarCommand) → 20000 < length many → Spells bytes small many → ⊥
with_too_many_commands bytes many long h = omega (arith, long, h.few)

with_a_great_number : (bytes : List ℕ) → Spells bytes small (Push (10 ^ 9) ∷ []) → ⊥
with_a_great_number bytes h = pushed_too_great h.form.0

with_another_header : Spells input (framed 9) commands → ⊥
unfolding header_line digits
with_another_header h =
    differ (codes "carbink 1 k=2 r=2 nodes=6 frames=8 room=64 handles=16 turns=0")
    (codes "carbink 1 k=2 r=2 nodes=6 frames=9 room=64 handles=16 turns=0")
    (ap (λ (lines : List (List ℕ)). get_or lines 0 []) h.text) refl

with_a_command_left_out : Spells input small [] → ⊥
unfolding header_line digits
with_a_command_left_out h = cc (h.text)

-- ---- the first line outside the form

too_long : (bytes : List ℕ) → length bytes ≡ 1048577 → First bytes 0
too_long bytes long = TooLong refl (omega (arith, long))

-- the longest input is not too long
longest : (bytes : List ℕ) → length bytes ≡ 1048576 → 1048576 < length bytes → ⊥
longest bytes long over = omega (arith, long, over)

no_bytes : First [] 1
no_bytes = NoHeader refl (omega arith) (λ c has. cc (has.text))

-- a header with no frame is none, though it is spelled as one
no_frame : List ℕ
no_frame = codes "carbink 1 k=2 r=2 nodes=6 frames=0 room=64 handles=16 turns=0\npop\n"

numbers : AreNumbers (framed 0)
numbers = record { k = omega arith; r = omega arith; nodes = omega arith; frames = omega arith; room = omega arith; handles = omega arith; turns = omega arith }

not_accepted : IsAccepted (framed 0) → ⊥
not_accepted accepted = let frames = accepted field.Frames in omega (arith, frames.0)

header_not_accepted : First no_frame 1
unfolding no_frame header_line digits
header_not_accepted = NoHeader refl (lit≤ tt) (λ c has.
    header_refused (header_line (framed 0)) reason.Config (framed 0, numbers, refl, not_accepted) c has.accepted
    (ap (λ (lines : List (List ℕ)). get_or lines 0 []) has.text))

has_header : HasAcceptedHeader input small
unfolding header_line digits
has_header = record { accepted = accepted; others = map command_line commands; text = spelled.text }

has_no_other_header : HasAcceptedHeader input (framed 9) → ⊥
unfolding header_line digits
has_no_other_header has =
    differ (codes "carbink 1 k=2 r=2 nodes=6 frames=8 room=64 handles=16 turns=0")
    (codes "carbink 1 k=2 r=2 nodes=6 frames=9 room=64 handles=16 turns=0")
    (ap (λ (lines : List (List ℕ)). get_or lines 0 []) has.text) refl

-- `look` of no key is no command's line
one_word : (command : FarCommand) → codes "look" ∷ [] ≡ command_words command → ⊥
one_word (Push x) is = omega (arith, ap length is)
one_word (Set i x) is = omega (arith, ap length is)
one_word (Get i) is = omega (arith, ap length is)
one_word Pop is =
    differ (codes "look") (codes "pop") (ap (λ (words : List (List ℕ)). get_or words 0 []) is) refl
one_word (Put key x) is = omega (arith, ap length is)
one_word (Look key) is = omega (arith, ap length is)
one_word (Drop key) is = omega (arith, ap length is)

no_key : IsNoCommand (codes "look")
no_key command form is = one_word command (ap words_of is ∙ command_splits command form)

-- a command's line is no bad line
a_command_is_not_bad : IsNoCommand (codes "pop") → ⊥
a_command_is_not_bad none = none Pop tt refl

abbrev pub bad_input : List ℕ
bad_input = codes "carbink 1 k=2 r=2 nodes=6 frames=8 room=64 handles=16 turns=0\npop\nlook\npop\n"

bad_line_3 : IsBadLine bad_input 3
unfolding header_line digits
bad_line_3 = record {
  config = small;
  accepted = accepted;
  before = Pop ∷ [];
  few = lit≤ tt;
  form = (tt, tt);
  text = codes "look";
  after = codes "pop" ∷ [];
  lines = refl;
  number = refl;
  bad = inr no_key;
}

pub at_line_3 : First bad_input 3
at_line_3 = AtLine (lit≤ tt) bad_line_3

-- the 20,001st command is one too many, also where it is a command
one_too_many : (bytes : List ℕ) (before : List FarCommand) (after : List (List ℕ)) → length before ≡ 20000
    → AllByRecursion IsInForm before → lines_of bytes ≡ header_line small ∷ (map command_line before ++ codes "pop" ∷ after)
    → IsBadLine bytes 20002
one_too_many bytes before after many form lines = record {
  config = small;
  accepted = accepted;
  before = before;
  few = omega (arith, many);
  form = form;
  text = codes "pop";
  after = after;
  lines = lines;
  number = omega (arith, many);
  bad = inl many;
}

-- no other line is the first one
not_at_line_2 : First bad_input 2 → ⊥
not_at_line_2 first = let same = first_unique bad_input 2 3 first at_line_3 in omega (arith, same)

spelled_has_no_fault : (line : ℕ) → First input line → ⊥
spelled_has_no_fault line first = spells_no_fault input small line commands spelled first

-- ---- what is printed

printed : said_text (Done ∷ Number 8 ∷ Nothing ∷ Outside 2 ∷ Refused (Full 1) ∷ []) ≡ codes "ok\n8\nnone\noutside 2\nfull 1\n"
unfolding digits
printed = refl

no_room_printed : said_line (Refused (NoRoom 2 1 3)) ≡ codes "noroom frames 2 loose 1 nodes 3"
unfolding digits
no_room_printed = refl

worn_printed : said_line (Refused Worn) ≡ codes "worn"
worn_printed = refl

refusal_printed : refusal_text 3 ≡ codes "map line 3 refused\n"
unfolding digits
refusal_printed = refl

-- ---- taken or refused

is_accepted : Accepts input
is_accepted = record { config = small; commands = commands; spelled = spelled }

is_not_accepted : Accepts bad_input → ⊥
is_not_accepted taken = spells_no_fault bad_input taken.config 3 taken.commands taken.spelled at_line_3

is_refused : Refuses bad_input (codes "map line 3 refused\n")
unfolding digits
is_refused = record { line = 3; first = at_line_3; text_is = refl }

is_not_refused : (text : List ℕ) → Refuses input text → ⊥
is_not_refused text refused = spelled_has_no_fault refused.line refused.first

-- another line is not told
another_line : Refuses bad_input (codes "map line 4 refused\n") → ⊥
another_line refused =
    differ (codes "map line 3 refused\n") (codes "map line 4 refused\n")
    (refusal_unique bad_input (codes "map line 3 refused\n") (codes "map line 4 refused\n") is_refused refused) refl
