-- How runs end, by what was judged and put.
use Rattle.std.proofs.Common.{ℕ, List, Option, Ok, Err, refl, subst, inl, inr, String, Global, Result}
use Rattle.std.specs.Io.KnownBytes.{Appends}
use Rattle.cb_cli.specs.declared.outcome.Due.{Due}
use Rattle.cb_cli.specs.declared.outcome.Due.TheVariants as dues
use Rattle.cb_cli.specs.declared.outcome.Failure.{Failure}
use Rattle.cb_cli.specs.declared.outcome.Failure.TheVariants.{Write}
use Rattle.cb_cli.specs.declared.words.Command.{Command}
use Rattle.cb_cli.specs.declared.words.Asked.TheVariants.{Run}
use Rattle.cb_cli.specs.declared.words.Plan.{Plan}
use Rattle.cb_cli.specs.Words.{AskFor, Name, NameNone}
use Rattle.cb_cli.specs.Taken.{AreBytesTaken, taken_of}
use Rattle.cb_cli.specs.Fronts.{GetsFront}
use Rattle.cb_cli.specs.Texts.{words_refused}
use Rattle.cb_cli.proofs.Laws.{no_command_draws, one_command, taken_is}
use Rattle.cb_cli.specs.declared.verdict.Verdict.{Verdict}
use Rattle.cb_cli.specs.declared.verdict.Verdict.TheVariants.{Done, Refused}
use Rattle.cb_app.specs.declared.ending.Ending.{Ending}
use Rattle.cb_app.specs.Modes.{Accepts, Refuses, IsVerdict}
use Rattle.cb_app.specs.Outcome.{IsScriptRefused, IsDone, IsDrawn, IsDecided, RunEnds}
use Rattle.cb_app.specs.Outcome.IsDue.{WhereDone, WhereDrawn, WhereWordsRefused, WhereScriptRefused}
use Rattle.cb_app.specs.Scripts.{IsSummed}
use Rattle.cb_app.proofs.Modes.{not_both}

-- bytes were taken, and this is the command's verdict on them
abbrev pub IsJudged : Command → (before after : Option (List ℕ)) → (old new : Ending) → Verdict → Type 0
IsJudged command before after old new verdict =
    (bytes : List ℕ) × AreBytesTaken before after bytes × IsVerdict command bytes old new verdict

module _ (command : Command) (before after : Option (List ℕ)) (old new : Ending) (text : List ℕ) where
  is_done : (words : List (String Global)) → Name words command
      → IsJudged command before after old new (Done text)
      → IsDone words before after old new text
  is_done words named judged = record {
    command = command;
    words_are = named;
    bytes = judged.0;
    taken = judged.1;
    yields = judged.2.1;
  }

  is_refused : (words : List (String Global)) → Name words command
      → IsJudged command before after old new (Refused text)
      → IsScriptRefused words before after text
  is_refused words named judged = record {
    command = command;
    words_are = named;
    bytes = judged.0;
    taken = judged.1;
    refused = judged.2.0;
  }

  pub ends_done : (held holds : Option (List ℕ)) → IsJudged command before after old new (Done text)
      → Appends held holds text → (words : List (String Global)) → Name words command
      → RunEnds words before after held holds old new (Ok dues.Done)
  ends_done held holds judged put words named = inl (text, is_done words named judged, put)

  pub ends_refused : (held holds : Option (List ℕ))
      → IsJudged command before after old new (Refused text)
      → Appends held holds text → (words : List (String Global)) → Name words command
      → RunEnds words before after held holds old new (Ok dues.ScriptRefused)
  ends_refused held holds judged put words named =
      ((text, is_refused words named judged, put), judged.2.1)

  pub done_cut : (held holds : Option (List ℕ)) → IsJudged command before after old new (Done text)
      → GetsFront held holds text → (words : List (String Global)) → Name words command
      → RunEnds words before after held holds old new (Err Write)
  done_cut held holds judged front words named =
      (text, WhereDone (is_done words named judged), front)

  pub refused_cut : (held holds : Option (List ℕ))
      → IsJudged command before after old new (Refused text)
      → GetsFront held holds text → (words : List (String Global)) → Name words command
      → RunEnds words before after held holds old new (Err Write)
  refused_cut held holds judged front words named =
      (text, WhereScriptRefused (is_refused words named judged) judged.2.1, front)

  -- what was done with was accepted, and so is not refused
  pub decided_done : IsJudged command before after old new (Done text)
      → IsDecided command before (Ok dues.Done)
  decided_done judged = record {
    accepted = λ all told accepted. inl refl;
    refused = λ all other told refuses.
        let same = taken_is before after all judged.0 told judged.1 in
        absurd (not_both command (taken_of all) other (subst (Accepts command) same judged.2.0) refuses);
  }

  -- what was refused is not accepted
  pub decided_refused : IsJudged command before after old new (Refused text)
      → IsDecided command before (Ok dues.ScriptRefused)
  decided_refused judged = record {
    accepted = λ all told accepts.
        let same = taken_is before after all judged.0 told judged.1 in
        absurd (not_both command (taken_of all) text accepts (subst (λ (bytes : List ℕ). Refuses command bytes text) same judged.2.0));
    refused = λ all other told refuses. inl refl;
  }

-- a script was drawn, and its summary is put, or cut short
module _ (plan : Plan) (old new : Ending) (text : List ℕ) (summed : IsSummed plan new text) where
  is_drawn : (words : List (String Global)) → AskFor words plan → (source : Option (List ℕ))
      → IsDrawn words source source new text
  is_drawn words asks source =
      record { plan = plan; words_are = asks; nothing_taken = refl; summed = summed }

  pub ends_drawn : (held holds : Option (List ℕ)) → Appends held holds text
      → (words : List (String Global)) → AskFor words plan → (source : Option (List ℕ))
      → RunEnds words source source held holds old new (Ok dues.Done)
  ends_drawn held holds put words asks source = inr (text, is_drawn words asks source, put)

  pub drawn_cut : (held holds : Option (List ℕ)) → GetsFront held holds text
      → (words : List (String Global)) → AskFor words plan → (source : Option (List ℕ))
      → RunEnds words source source held holds old new (Err Write)
  drawn_cut held holds front words asks source =
      (text, WhereDrawn (is_drawn words asks source), front)

-- words that ask for a drawn script are of no command
pub drawn_decided : (words : List (String Global)) (plan : Plan) (before : Option (List ℕ)) (outcome : Result Due Failure)
    → AskFor words plan → (command : Command) → Name words command → IsDecided command before outcome
drawn_decided words plan before outcome asks command named =
    absurd (no_command_draws words plan command asks named)

-- the words are refused, and the text that tells it is put, or cut short
pub words_cut : (words : List (String Global)) (before held holds : Option (List ℕ)) (end : Ending)
    → NameNone words → GetsFront held holds words_refused
    → RunEnds words before before held holds end end (Err Write)
words_cut words before held holds end none front =
    (words_refused, WhereWordsRefused (record { words_are_not = none; nothing_taken = refl }) refl refl, front)

-- words that name none are of no command
pub none_decided : (words : List (String Global)) (before : Option (List ℕ)) (outcome : Result Due Failure)
    → NameNone words → (command : Command) → Name words command → IsDecided command before outcome
none_decided words before outcome none command named = absurd (none (Run command) named)

-- the command that words name is the one that was found
pub found_decided : (words : List (String Global)) (before : Option (List ℕ)) (outcome : Result Due Failure) (found : Command)
    → Name words found → IsDecided found before outcome
    → (command : Command) → Name words command → IsDecided command before outcome
found_decided words before outcome found finds decided command named =
    subst (λ (c : Command). IsDecided c before outcome) (one_command words found command finds named) decided
