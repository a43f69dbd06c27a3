-- Worked examples: what `check` yields, what `seq` and `local` refuse, and runs.
use Rattle.std.proofs.Common.{◌≡◌, ℕ, List, [], ◌∷◌, length, Some, None, Ok, Err, refl, sym, ap, ◌∙◌, subst, arith, inl, inr, String, Global, true≢false}
use Rattle.std.specs.Prelude.{codes, string_bytes}
use Rattle.std.specs.Fmt.{digits}
use Rattle.cb_types.specs.Config.{IsAccepted}
use Rattle.cb_types.specs.declared.answer.Answer.{Answer}
use Rattle.cb_types.specs.declared.config.Config.{Config}
use Rattle.cb_types.specs.declared.config.Field.TheVariants.{K, R, Nodes, Frames, Room, Handles, Turns}
use Rattle.cb_types.specs.declared.request.Request.TheVariants.{Begin, Compact, Leave}
use Rattle.cb_script.specs.declared.fault.Reason.TheVariants.{Header}
use Rattle.cb_script.specs.declared.script.Mode.TheVariants as modes
use Rattle.cb_script.specs.declared.script.Script.{Script}
use Rattle.cb_script.specs.Form.{AreInMode, FitsMode, Spells}
use Rattle.cb_script.specs.Phrase.{Phrase, phrase_of}
use Rattle.cb_script.specs.declared.script.Line.{Line}
use Rattle.cb_script.specs.Spelling.{header_line}
use Rattle.cb_script.proofs.PublicLaws.{empty_input, script_unique, differ}
use Rattle.cb_cli.specs.Taken.{AreBytesTaken}
use Rattle.cb_cli.specs.Texts.{check_text, fault_text}
use Rattle.cb_cli.specs.declared.outcome.Due.TheVariants as dues
use Rattle.cb_cli.specs.declared.outcome.Failure.TheVariants.{Read}
use Rattle.cb_cli.specs.declared.words.Asked.TheVariants.{Run}
use Rattle.cb_cli.specs.declared.words.Command.TheVariants.{Seq, Threads, Local, Check}
use Rattle.cb_cli.proofs.Laws.{lane_line, seq_named, check_named, no_word}
use Rattle.cb_cli.specs.declared.verdict.Verdict.TheVariants.{Done, Refused}
use Rattle.cb_app.specs.declared.ending.Ending.{Ending}
use Rattle.cb_app.specs.Modes.{Yields, Refuses, Accepts, IsVerdict}
use Rattle.cb_app.specs.Outcome.{IsDone, AreWordsRefused, IsScriptRefused, IsDecided, RoseOnRead, RoseOnWrite}
use Rattle.cb_app.specs.Scripts.{IsChecked}
use Rattle.cb_app.proofs.Modes.{not_both}
use Rattle.cb_shared.specs.declared.seal.Seal.{Seal}
use Rattle.cb_world.specs.World.{WorldState}

-- ---- a script of two lines

abbrev small : Config
small = record { k = 2; r = 2; nodes = 6; frames = 8; room = 64; handles = 16; turns = 0 }

abbrev input : List ℕ
input = codes "carbink 1 k=2 r=2 nodes=6 frames=8 room=64 handles=16 turns=0\n3 compact\n3 leave\n"

abbrev script : Script
script = record { config = small; lines = lane_line 3 2 Compact ∷ lane_line 3 3 Leave ∷ [] }

accepted : IsAccepted small
accepted K = (omega arith, omega arith)
accepted R = (omega arith, omega arith)
accepted Nodes = (omega arith, omega arith)
accepted Frames = (omega arith, omega arith)
accepted Room = (omega arith, omega arith)
accepted Handles = (omega arith, omega arith)
accepted Turns = omega arith

spelled : Spells input modes.Seq script
unfolding header_line digits
spelled = record {
  short = omega arith;
  form = record {
    config = accepted;
    few = omega arith;
    lines = (
      record { lane = record { low = omega arith; first = λ e. absurd (omega (arith, e)) }; line = refl; request = tt; known = tt },
      (record { lane = record { low = omega arith; first = λ e. absurd (omega (arith, e)) }; line = refl; request = tt; known = tt }, tt),
    );
  };
  allowed = (tt, (tt, tt));
  text = refl;
}

-- the header is no line, and the lane counts once
text_of_it : check_text script ≡ codes "script ok lines 2 lanes 1\n"
unfolding digits
text_of_it = refl

abbrev ending : Ending
ending = record { config = Some small; answers = []; losses = []; world = None; seal = None }

checked : IsChecked script ending
checked = record { config = refl; no_answers = refl; no_losses = refl; no_world = refl; no_seal = refl }

no_config : IsChecked script (record { config = None; answers = []; losses = []; world = None; seal = None }) → ⊥
no_config is = absurd (let e : None ≡ Some small = is.config in cc)

an_answer : (a : Answer) → IsChecked script (record { config = Some small; answers = a ∷ []; losses = []; world = None; seal = None }) → ⊥
an_answer a is = absurd (let e : a ∷ [] ≡ [] = is.no_answers in cc)

a_loss : (end : Ending) → length end.losses ≡ 1 → IsChecked script end → ⊥
a_loss end one is = omega (arith, sym one ∙ ap length is.no_losses)

-- a seal is left
a_seal : (end : Ending) → (s : Seal) → end.seal ≡ Some s → IsChecked script end → ⊥
a_seal end s there is = absurd (let both : None ≡ Some s = sym is.no_seal ∙ there in cc)

-- a world is left
a_world : (end : Ending) → (w : WorldState) → end.world ≡ Some w → IsChecked script end → ⊥
a_world end w there is = absurd (let both : None ≡ Some w = sym is.no_world ∙ there in cc)

-- ---- what the commands do

yielded : (old : Ending) → Yields Check input old ending (codes "script ok lines 2 lanes 1\n")
yielded old = (script, spelled, checked, sym text_of_it)

-- the header is counted
header_counted : (old : Ending)
    → Yields Check input old ending (codes "script ok lines 3 lanes 1\n") → ⊥
header_counted old is =
    let same : is.0 ≡ script = script_unique input modes.Seq is.0 script is.1 spelled in
    differ (codes "script ok lines 3 lanes 1\n") (codes "script ok lines 2 lanes 1\n") (is.3 ∙ ap check_text same ∙ text_of_it) refl

-- another script is spelled
another_script : Spells input modes.Seq (record { config = small; lines = [] }) → ⊥
another_script is = absurd (let e = is.text in cc)

-- `threads` want a runtime closed
nothing_closed : (old : Ending) (text : List ℕ) → Yields Threads input old ending text → ⊥
nothing_closed old text is = absurd (let e : None ≡ Some is.2.told.seal = is.2.seal in cc)

-- `seq` wants its lines answered
nothing_answered : (old : Ending) (text : List ℕ) → Yields Seq input old ending text → ⊥
nothing_answered old text is =
    let same : is.0 ≡ script = script_unique input modes.Seq is.0 script is.1 spelled in
    absurd (let e = rw same at is.2.lines in cc)

check_accepts : Accepts Check input
check_accepts = (script, spelled)

seq_accepts : Accepts Seq input
seq_accepts = (script, spelled)

local_accepts : Accepts Local input
local_accepts = (script, spelled)

threads_accept : Accepts Threads input
threads_accept = (
  script,
  record { short = spelled.short; form = spelled.form; allowed = (λ is. is, (λ is. is, tt)); text = spelled.text },
)

-- where steps stand, `seq` accepts and `threads` do not
abbrev stepped : List ℕ
stepped = codes "carbink 1 k=2 r=2 nodes=6 frames=8 room=64 handles=16 turns=0\n3 begin\n"

abbrev step_script : Script
step_script = record { config = small; lines = lane_line 3 2 Begin ∷ [] }

step_spelled : Spells stepped modes.Seq step_script
unfolding header_line digits
step_spelled = record {
  short = omega arith;
  form = record {
    config = accepted;
    few = omega arith;
    lines = (
      record { lane = record { low = omega arith; first = λ e. absurd (omega (arith, e)) }; line = refl; request = tt; known = tt },
      tt,
    );
  };
  allowed = (tt, tt);
  text = refl;
}

fits_seq : (p : Phrase) → FitsMode p modes.Seq
fits_seq (Phrase.Making name hex) = tt
fits_seq (Phrase.Writing name at hex) = tt
fits_seq (Phrase.Naming verb name) = tt
fits_seq (Phrase.Facing verb node) = tt
fits_seq (Phrase.Alone verb) = tt

any_in_seq : (lines : List Line) → AreInMode modes.Seq lines
any_in_seq [] = tt
any_in_seq (l ∷ lines) = (fits_seq (phrase_of l.request), any_in_seq lines)

seq_accepts_steps : Accepts Seq stepped
seq_accepts_steps = (step_script, step_spelled)

threads_accept_no_steps : Accepts Threads stepped → ⊥
threads_accept_no_steps is =
    let by_seq : Spells stepped modes.Seq is.0 = record {
      short = is.1.short;
      form = is.1.form;
      allowed = any_in_seq is.0.lines;
      text = is.1.text;
    } in
    let same : is.0 ≡ step_script = script_unique stepped modes.Seq is.0 step_script by_seq step_spelled in
    (subst (λ (s : Script). AreInMode modes.Threads s.lines) same is.1.allowed).0 tt

-- an input without a header is refused at line 1
seq_refuses : Refuses Seq [] (codes "script line 1 reason 2 header\n")
unfolding digits
seq_refuses = (1, Header, empty_input, refl)

threads_refuse : Refuses Threads [] (codes "script line 1 reason 2 header\n")
unfolding digits
threads_refuse = (1, Header, empty_input, refl)

local_refuses : Refuses Local [] (codes "script line 1 reason 2 header\n")
local_refuses = seq_refuses

another_line : (text : List ℕ) → text ≡ codes "script line 2 reason 2 header\n"
    → text ≡ fault_text 1 Header → ⊥
unfolding digits
another_line text is told =
    differ (codes "script line 2 reason 2 header\n") (codes "script line 1 reason 2 header\n") (sym is ∙ told) refl

-- what is accepted is refused
check_refuses_not : (text : List ℕ) → Refuses Check input text → ⊥
check_refuses_not text is = not_both Check input text check_accepts is

seq_refuses_not : (text : List ℕ) → Refuses Seq input text → ⊥
seq_refuses_not text is = not_both Seq input text seq_accepts is

seq_accepts_not : Accepts Seq [] → ⊥
seq_accepts_not is = not_both Seq [] (codes "script line 1 reason 2 header\n") is seq_refuses

threads_refuse_not : (text : List ℕ) → Refuses Threads input text → ⊥
threads_refuse_not text is = not_both Threads input text threads_accept is

threads_accept_not : Accepts Threads [] → ⊥
threads_accept_not is = not_both Threads [] (codes "script line 1 reason 2 header\n") is threads_refuse

local_refuses_not : (text : List ℕ) → Refuses Local input text → ⊥
local_refuses_not text is = not_both Local input text local_accepts is

local_accepts_not : Accepts Local [] → ⊥
local_accepts_not is = not_both Local [] (codes "script line 1 reason 2 header\n") is local_refuses

-- what is done with leaves its ending, and what is refused the one before
verdict_of_check : (old : Ending) → IsVerdict Check input old ending (Done (codes "script ok lines 2 lanes 1\n"))
verdict_of_check old = (check_accepts, yielded old)

verdict_of_seq : (old : Ending) → IsVerdict Seq [] old old (Refused (codes "script line 1 reason 2 header\n"))
verdict_of_seq old = (seq_refuses, refl)

seq_is_not_done : (old new : Ending) (text : List ℕ) → IsVerdict Seq [] old new (Done text) → ⊥
seq_is_not_done old new text is = seq_accepts_not is.0

ending_left : (text : List ℕ)
    → IsVerdict Seq [] (record { config = None; answers = []; losses = []; world = None; seal = None }) ending (Refused text) → ⊥
ending_left text is =
    absurd (let e : Some small ≡ None = ap (λ (end : Ending). end.config) is.1 in cc)

-- ---- the run

all_taken : AreBytesTaken (Some input) (Some []) input
all_taken = record { front = refl; few = omega arith; whole = inl refl }

none_taken : AreBytesTaken (Some []) (Some []) []
none_taken = record { front = refl; few = omega arith; whole = inl refl }

done : (w : String Global) (old : Ending) → string_bytes w ≡ codes "check"
    → IsDone (w ∷ []) (Some input) (Some []) old ending (codes "script ok lines 2 lanes 1\n")
done w old is = record { command = Check; words_are = check_named w is; bytes = input; taken = all_taken; yields = yielded old }

done_without_words : (old : Ending)
    → IsDone [] (Some input) (Some []) old ending (codes "script ok lines 2 lanes 1\n") → ⊥
done_without_words old is = no_word (Run is.command) is.words_are

words_refused : AreWordsRefused [] (Some input) (Some input)
words_refused = record { words_are_not = no_word; nothing_taken = refl }

named_words : (w : String Global) → string_bytes w ≡ codes "check"
    → AreWordsRefused (w ∷ []) (Some input) (Some input) → ⊥
named_words w is refused = refused.words_are_not (Run Check) (check_named w is)

input_taken : AreWordsRefused [] (Some (1 ∷ [])) (Some []) → ⊥
input_taken refused = absurd (let e : Some [] ≡ Some (1 ∷ []) = refused.nothing_taken in cc)

refused_by_seq : (w : String Global) → string_bytes w ≡ codes "seq"
    → IsScriptRefused (w ∷ []) (Some []) (Some []) (codes "script line 1 reason 2 header\n")
refused_by_seq w is = record { command = Seq; words_are = seq_named w is; bytes = []; taken = none_taken; refused = seq_refuses }

refused_without_words : (text : List ℕ) → IsScriptRefused [] (Some input) (Some []) text → ⊥
refused_without_words text is = no_word (Run is.command) is.words_are

-- ---- what is decided

decided : IsDecided Check (Some input) (Ok dues.Done)
decided = record {
  accepted = λ all told accepts. inl refl;
  refused = λ all text told refuses.
      let same : input ≡ all = (let e : Some input ≡ Some all = told in cc) in
      absurd (check_refuses_not text (rw (← same) at refuses));
}

-- what is accepted is refused
accepted_and_refused : IsDecided Check (Some input) (Ok dues.ScriptRefused) → ⊥
accepted_and_refused is = elim (is.accepted input refl check_accepts) [
  | inl e ↦ absurd cc
  | inr e ↦ absurd (true≢false (sym e))
]

-- what is refused is done with
refused_and_done : IsDecided Seq (Some []) (Ok dues.Done) → ⊥
refused_and_done is = elim (is.refused [] (codes "script line 1 reason 2 header\n") refl seq_refuses) [
  | inl e ↦ absurd cc
  | inr e ↦ absurd (true≢false (sym e))
]

-- a count of faults rises where reading or writing failed, and there alone
read_fault : RoseOnRead (Err Read) 1 2
read_fault = inl (omega arith)

no_fault_after_all : RoseOnRead (Err Read) 1 1 → ⊥
no_fault_after_all (inl e) = omega (arith, e)
no_fault_after_all (inr e) = omega (arith, e.1)

fault_of_writing : RoseOnRead (Ok dues.Done) 1 2 → ⊥
fault_of_writing e = omega (arith, e)

written : RoseOnWrite (Err Read) 1 2 → ⊥
written e = omega (arith, e)
