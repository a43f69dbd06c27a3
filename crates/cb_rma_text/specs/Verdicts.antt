-- What is made of bytes.
use Rattle.std.specs.Prelude.{◌≡◌, ℕ, List}
use Rattle.cb_cli.specs.declared.verdict.Verdict.{Verdict}
use Rattle.cb_cli.specs.declared.verdict.Verdict.TheVariants.{Done, Refused}
use Rattle.cb_rma.specs.Schedule.{start, replies}
use Rattle.cb_rma.specs.declared.step.Step.{Step}
use Rattle.cb_rma_text.specs.First.{First}
use Rattle.cb_rma_text.specs.Form.{Spells}
use Rattle.cb_rma_text.specs.Texts.{said_text, refusal_text}

-- the text is what is said to the schedule that the bytes spell, a line for each event
pub record Yields (bytes text : List ℕ) : Type 0 where
  pub window : ℕ
  pub events : List Step
  pub spelled : Spells bytes window events
  pub text_is : text ≡ said_text (replies (start window) events)

-- the text tells the first line that is outside the form
pub record Refuses (bytes text : List ℕ) : Type 0 where
  pub line : ℕ
  pub first : First bytes line
  pub text_is : text ≡ refusal_text line

-- the bytes spell a schedule
pub record Accepts (bytes : List ℕ) : Type 0 where
  pub window : ℕ
  pub events : List Step
  pub spelled : Spells bytes window events

-- a schedule is run, and other bytes are refused
abbrev pub IsVerdict : List ℕ → Verdict → Type 0
IsVerdict bytes (Done text) = Yields bytes text
IsVerdict bytes (Refused text) = Refuses bytes text
