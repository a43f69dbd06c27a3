-- Worked examples: a schedule's spelling, its first line outside the form, and what is printed. Each
-- part of a definition is broken alone.
use Rattle.std.proofs.Common.{◌≡◌, ℕ, ◌^◌, ◌<◌, List, [], ◌∷◌, length, get_or, All, inr, refl, ap, ◌∙◌, arith, lit≤}
use Rattle.std.specs.Prelude.{codes}
use Rattle.std.specs.Fmt.{digits}
use Rattle.std.specs.List.{AllByRecursion}
use Rattle.std.proofs.lemmas.List.Elements.{All-cons, All-nil, All-head}
use Rattle.hex.specs.Hex.{encode_with}
use Rattle.cb_cli.specs.declared.verdict.Verdict.TheVariants.{Done, Refused}
use Rattle.cb_script.specs.Spelling.{words_of}
use Rattle.cb_script.proofs.PublicLaws.{differ}
use Rattle.cb_rma.specs.declared.order.Order.TheVariants.{Put, Add, Drop}
use Rattle.cb_rma.specs.declared.sender.Heard.TheVariants as heard
use Rattle.cb_rma.specs.declared.step.Said.TheVariants as said
use Rattle.cb_rma.specs.declared.step.Step.{Step}
use Rattle.cb_rma.specs.declared.step.Step.TheVariants.{Submit, Send, Ask, Ack, Restart, Show}
use Rattle.cb_rma.specs.Schedule.{start, replies}
use Rattle.cb_rma_text.specs.First.{First, IsBadLine, IsNoEvent}
use Rattle.cb_rma_text.specs.First.First.{TooLong, NoHeader, AtLine}
use Rattle.cb_rma_text.specs.Form.{IsRow, IsWindow, IsInForm, Spells}
use Rattle.cb_rma_text.specs.Spelling.{step_line, step_words, window_line}
use Rattle.cb_rma_text.specs.Texts.{said_line, said_text, refusal_text}
use Rattle.cb_rma_text.specs.Verdicts.{IsVerdict}
use Rattle.cb_rma_text.proofs.Events.{step_splits}
use Rattle.cb_rma_text.proofs.OneReading.{spells_no_fault}

-- ---- rows and windows

one_byte : IsRow (255 ∷ [])
one_byte = record { some = omega arith; few = omega arith; each = All-cons (λ b. b < 256) 255 [] (omega arith) (All-nil (λ b. b < 256)) }

longest_row : (row : List ℕ) → length row ≡ 4096 → All (λ b. b < 256) row → IsRow row
longest_row row long each = record { some = omega (arith, long); few = omega (arith, long); each = each }

no_row : IsRow [] → ⊥
no_row is = omega (arith, is.some)

longer_row : (row : List ℕ) → length row ≡ 4097 → IsRow row → ⊥
longer_row row long is = omega (arith, long, is.few)

row_of_no_byte : IsRow (256 ∷ []) → ⊥
row_of_no_byte is = omega (arith, All-head (λ b. b < 256) 256 [] is.each)

narrowest : IsWindow 1
narrowest = record { some = lit≤ tt; few = lit≤ tt }

widest : IsWindow 64
widest = record { some = lit≤ tt; few = lit≤ tt }

no_window : IsWindow 0 → ⊥
no_window is = omega (arith, is.some)

too_wide : IsWindow 65 → ⊥
too_wide is = omega (arith, is.few)

-- ---- events

small_byte : All (λ b. b < 256) (10 ∷ [])
small_byte = All-cons (λ b. b < 256) 10 [] (omega arith) (All-nil (λ b. b < 256))

ten : IsRow (10 ∷ [])
ten = record { some = omega arith; few = omega arith; each = small_byte }

added : IsInForm (Submit (Add 999999999 255 (10 ∷ [])))
added = (omega arith, omega arith, ten)

key_too_great : IsInForm (Submit (Put (10 ^ 9) (10 ∷ []))) → ⊥
key_too_great is = omega (arith, is.0)

put_of_no_row : IsInForm (Submit (Put 1 [])) → ⊥
put_of_no_row is = no_row is.1

factor_too_great : IsInForm (Submit (Add 1 256 (10 ∷ []))) → ⊥
factor_too_great is = omega (arith, is.1)

add_of_no_row : IsInForm (Submit (Add 1 2 [])) → ⊥
add_of_no_row is = no_row is.2

dropped_key_too_great : IsInForm (Submit (Drop (10 ^ 9))) → ⊥
dropped_key_too_great is = omega (arith, is)

number_too_great : IsInForm (Send (10 ^ 9)) → ⊥
number_too_great is = omega (arith, is)

ask_too_great : IsInForm (Ask (10 ^ 9)) → ⊥
ask_too_great is = omega (arith, is)

ack_too_great : IsInForm (Ack (10 ^ 9)) → ⊥
ack_too_great is = omega (arith, is)

shown_key_too_great : IsInForm (Show (10 ^ 9)) → ⊥
shown_key_too_great is = omega (arith, is)

-- ---- a schedule of each event

abbrev pub input : List ℕ
input = codes "rma 1 window=2\nput 1 0a\nadd 1 02 ff\ndrop 7\nsend 1\nask 0\nack 0\nrestart\nshow 30"

abbrev pub events : List Step
events =
    Submit (Put 1 (10 ∷ [])) ∷ Submit (Add 1 2 (255 ∷ [])) ∷ Submit (Drop 7) ∷ Send 1 ∷ Ask 0 ∷ Ack 0
    ∷ Restart ∷ Show 30 ∷ []

in_form : AllByRecursion IsInForm events
in_form = (
  (omega arith, ten),
  (
    (omega arith, omega arith, one_byte),
    (omega arith, (omega arith, (omega arith, (omega arith, (tt, (omega arith, tt)))))),
  ),
)

pub spelled : Spells input 2 events
unfolding window_line digits encode_with
spelled = record {
  short = lit≤ tt;
  window_is = record { some = lit≤ tt; few = lit≤ tt };
  few = lit≤ tt;
  form = in_form;
  text = refl;
}

with_too_many_bytes : (bytes : List ℕ) → 1048576 < length bytes → Spells bytes 2 events → ⊥
with_too_many_bytes bytes long h = omega (arith, long, h.short)

with_no_window : (bytes : List ℕ) → Spells bytes 0 events → ⊥
with_no_window bytes h = no_window h.window_is

with_too_many_events : (bytes : List ℕ) (many : List Step) → 20000 < length many → Spells bytes 2 many → ⊥
with_too_many_events bytes many long h = omega (arith, long, h.few)

with_a_great_number : (bytes : List ℕ) → Spells bytes 2 (Send (10 ^ 9) ∷ []) → ⊥
with_a_great_number bytes h = number_too_great h.form.0

with_another_window : Spells input 3 events → ⊥
unfolding window_line digits encode_with
with_another_window h =
    differ (codes "rma 1 window=2") (codes "rma 1 window=3")
    (ap (λ (lines : List (List ℕ)). get_or lines 0 []) h.text) refl

with_an_event_left_out : Spells input 2 [] → ⊥
unfolding window_line digits encode_with
with_an_event_left_out h = cc (h.text)

-- ---- the first line outside the form

too_long : (bytes : List ℕ) → length bytes ≡ 1048577 → First bytes 0
too_long bytes long = TooLong refl (omega (arith, long))

-- the longest input is not too long
longest : (bytes : List ℕ) → length bytes ≡ 1048576 → 1048576 < length bytes → ⊥
longest bytes long over = omega (arith, long, over)

no_bytes : First [] 1
no_bytes = NoHeader refl (omega arith) (λ window has. cc (has.text))

-- `show` of no key is no event's line
one_word : (event : Step) → codes "show" ∷ [] ≡ step_words event → ⊥
one_word (Submit (Put key row)) is = omega (arith, ap length is)
one_word (Submit (Add key c row)) is = omega (arith, ap length is)
one_word (Submit (Drop key)) is = omega (arith, ap length is)
one_word (Send number) is = omega (arith, ap length is)
one_word (Ask packet) is = omega (arith, ap length is)
one_word (Ack packet) is = omega (arith, ap length is)
one_word Restart is =
    differ (codes "show") (codes "restart") (ap (λ (words : List (List ℕ)). get_or words 0 []) is) refl
one_word (Show key) is = omega (arith, ap length is)

no_key : (event : Step) → IsInForm event → codes "show" ≡ step_line event → ⊥
no_key event form is = one_word event (ap words_of is ∙ step_splits event form)

abbrev pub bad_input : List ℕ
bad_input = codes "rma 1 window=1\nrestart\nshow\nrestart\n"

bad_line_3 : IsBadLine bad_input 3
unfolding window_line digits
bad_line_3 = record {
  window = 1;
  window_is = narrowest;
  before = Restart ∷ [];
  few = lit≤ tt;
  form = (tt, tt);
  text = codes "show";
  after = codes "restart" ∷ [];
  lines = refl;
  number = refl;
  bad = inr no_key;
}

pub at_line_3 : First bad_input 3
at_line_3 = AtLine (lit≤ tt) bad_line_3

-- an event is no bad line
an_event_is_not_bad : IsNoEvent (codes "restart") → ⊥
an_event_is_not_bad no_event = no_event Restart tt refl

spelled_has_no_fault : (line : ℕ) → First input line → ⊥
spelled_has_no_fault line first = spells_no_fault input 2 line events spelled first

-- ---- what is printed

abbrev pub due : List ℕ
due = said_text (replies (start 2) events)

printed : said_text (replies (start 2) (Submit (Put 1 (10 ∷ [])) ∷ Submit (Drop 1) ∷ Submit (Drop 7) ∷ Send 1 ∷ Ask 0 ∷ Ack 0 ∷ Restart ∷ []))
    ≡ codes "taken 0\ntaken 1\nwindow 2\nsent 0\nahead 0\nold 0\nincarnation 1\n"
unfolding digits
printed = refl

row_printed : said_line (said.Row (10 ∷ 255 ∷ [])) ≡ codes "row 0aff"
unfolding encode_with
row_printed = refl

fresh_printed : said_line (said.Heard (heard.Fresh 12)) ≡ codes "fresh 12"
unfolding digits
fresh_printed = refl

nothing_printed : said_line said.Nothing ≡ codes "nothing"
nothing_printed = refl

no_packet_printed : said_line said.NoPacket ≡ codes "nopacket"
no_packet_printed = refl

no_row_printed : said_line said.NoRow ≡ codes "none"
no_row_printed = refl

refusal_printed : refusal_text 3 ≡ codes "rma line 3 refused\n"
unfolding digits
refusal_printed = refl

-- ---- verdicts

is_refused : IsVerdict bad_input (Refused (codes "rma line 3 refused\n"))
unfolding digits
is_refused = record { line = 3; first = at_line_3; text_is = refl }

is_not_done : (text : List ℕ) → IsVerdict bad_input (Done text) → ⊥
is_not_done text yields = spells_no_fault bad_input yields.window 3 yields.events yields.spelled at_line_3

is_not_refused : (text : List ℕ) → IsVerdict input (Refused text) → ⊥
is_not_refused text refuses = spelled_has_no_fault refuses.line refuses.first
