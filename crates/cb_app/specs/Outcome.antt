-- What a run took, what it leaves, and the text that is due. Each is a fact about the words, the
-- bytes taken, the endings before and after, and the text alone.
use Rattle.std.specs.Prelude.{◌≡◌, ℕ, ◌⊎◌, List, Option, Some, String, Result, Ok, Err, IsErr}
use Rattle.std.specs.Io.KnownBytes.{Appends}
use Rattle.std.specs.declared.alloc.Global.{Global}
use Rattle.cb_types.specs.Faults.{Rose}
use Rattle.cb_cli.specs.declared.outcome.Due.{Due}
use Rattle.cb_cli.specs.declared.outcome.Due.TheVariants.{Done, WordsRefused, ScriptRefused}
use Rattle.cb_cli.specs.declared.outcome.Failure.{Failure}
use Rattle.cb_cli.specs.declared.outcome.Failure.TheVariants.{Read, Write, NoMemory}
use Rattle.cb_cli.specs.declared.words.Command.{Command}
use Rattle.cb_cli.specs.declared.words.Plan.{Plan}
use Rattle.cb_cli.specs.Words.{AskFor, Name, NameNone}
use Rattle.cb_cli.specs.Taken.{AreBytesTaken, taken_of}
use Rattle.cb_cli.specs.Fronts.{GetsFront}
use Rattle.cb_cli.specs.Texts.{words_refused}
use Rattle.cb_app.specs.declared.ending.Ending.{Ending}
use Rattle.cb_app.specs.Modes.{Yields, Refuses, Accepts}
use Rattle.cb_app.specs.Scripts.{IsSummed}

-- The words name a command, and this is what it yields for the bytes that were taken.
pub record IsDone (words : List (String Global)) (before after : Option (List ℕ)) (old new : Ending)
    (text : List ℕ) : Type 0 where
  pub command : Command
  pub words_are : Name words command
  pub bytes : List ℕ
  pub taken : AreBytesTaken before after bytes
  pub yields : Yields command bytes old new text

-- The words ask for a drawn script, whose lines are answered, and this is the summary of the
-- answers. Nothing was taken.
pub record IsDrawn (words : List (String Global)) (before after : Option (List ℕ)) (new : Ending)
    (text : List ℕ) : Type 0 where
  pub plan : Plan
  pub words_are : AskFor words plan
  pub nothing_taken : after ≡ before
  pub summed : IsSummed plan new text

-- The words ask for nothing, and nothing was taken.
pub record AreWordsRefused (words : List (String Global)) (before after : Option (List ℕ))
    : Type 0 where
  pub words_are_not : NameNone words
  pub nothing_taken : after ≡ before

-- The words name a command, and it refuses the bytes that were taken, by this text.
pub record IsScriptRefused (words : List (String Global)) (before after : Option (List ℕ))
    (text : List ℕ) : Type 0 where
  pub command : Command
  pub words_are : Name words command
  pub bytes : List ℕ
  pub taken : AreBytesTaken before after bytes
  pub refused : Refuses command bytes text

-- The text that is due, and the ending with it. `old` and `new` are the ending before and after.
pub data IsDue (words : List (String Global)) (before after : Option (List ℕ)) (old new : Ending)
    (text : List ℕ) : Type 0 where
  WhereDone : IsDone words before after old new text → IsDue words before after old new text
  WhereDrawn : IsDrawn words before after new text → IsDue words before after old new text
  WhereWordsRefused : AreWordsRefused words before after → new ≡ old → text ≡ words_refused
      → IsDue words before after old new text
  WhereScriptRefused : IsScriptRefused words before after text → new ≡ old
      → IsDue words before after old new text

-- The bytes taken are refused, and the text that tells it is put.
abbrev pub RefusesScript : List (String Global)
    → (before after held_before held_after : Option (List ℕ))
    → Type 0
RefusesScript words before after held_before held_after =
    (text : List ℕ) × IsScriptRefused words before after text × Appends held_before held_after text

-- The bytes taken are done with, and the text that is due is put.
abbrev pub TellsScript : List (String Global)
    → (before after held_before held_after : Option (List ℕ)) → (old new : Ending)
    → Type 0
TellsScript words before after held_before held_after old new =
    (text : List ℕ) × IsDone words before after old new text × Appends held_before held_after text

-- A script was drawn, and the summary that is due is put.
abbrev pub TellsSummary : List (String Global)
    → (before after held_before held_after : Option (List ℕ)) → (new : Ending)
    → Type 0
TellsSummary words before after held_before held_after new =
    (text : List ℕ) × IsDrawn words before after new text × Appends held_before held_after text

-- what was due was cut short
abbrev pub IsCut : List (String Global) → (before after held_before held_after : Option (List ℕ))
    → (old new : Ending)
    → Type 0
IsCut words before after held_before held_after old new =
    (text : List ℕ) × IsDue words before after old new text × GetsFront held_before held_after text

-- What holds of a run that ends so: what it took and put, and the ending that it leaves.
abbrev pub RunEnds : List (String Global) → (before after held_before held_after : Option (List ℕ))
    → (old new : Ending) → Result Due Failure
    → Type 0
RunEnds words before after held_before held_after old new (Ok Done) =
    TellsScript words before after held_before held_after old new
    ⊎ TellsSummary words before after held_before held_after new
RunEnds words before after held_before held_after old new (Ok WordsRefused) =
    AreWordsRefused words before after × Appends held_before held_after words_refused × (new ≡ old)
RunEnds words before after held_before held_after old new (Ok ScriptRefused) =
    RefusesScript words before after held_before held_after × (new ≡ old)
RunEnds words before after held_before held_after old new (Err Read) = new ≡ old
RunEnds words before after held_before held_after old new (Err Write) =
    IsCut words before after held_before held_after old new
RunEnds words before after held_before held_after old new (Err NoMemory) = new ≡ old

-- the count of faults of reading rose exactly where the run failed so
abbrev pub RoseOnRead : Result Due Failure → (before after : ℕ) → Type 0
RoseOnRead (Err Read) before after = Rose before after
RoseOnRead _ before after = after ≡ before

-- and so for writing
abbrev pub RoseOnWrite : Result Due Failure → (before after : ℕ) → Type 0
RoseOnWrite (Err Write) before after = Rose before after
RoseOnWrite _ before after = after ≡ before

-- Of an input that the source tells, what the command accepts is done with, and what it refuses is
-- refused, unless the run fails.
pub record IsDecided (command : Command) (before : Option (List ℕ)) (outcome : Result Due Failure)
    : Type 0 where
  pub accepted : (all : List ℕ) → before ≡ Some all → Accepts command (taken_of all)
      → (outcome ≡ Ok Done) ⊎ IsErr outcome
  pub refused : (all text : List ℕ) → before ≡ Some all → Refuses command (taken_of all) text
      → (outcome ≡ Ok ScriptRefused) ⊎ IsErr outcome
