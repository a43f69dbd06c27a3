-- What is read of a text so far.
use Rattle.std.proofs.Common.{◌≡◌, ℕ, ◌≤◌, List, ◌++◌, length, map}
use Rattle.std.specs.List.{AllByRecursion}
use Rattle.cb_script.specs.Spelling.{lines_of}
use Rattle.cb_rma.specs.declared.step.Step.{Step}
use Rattle.cb_rma_text.specs.Form.{IsInForm}
use Rattle.cb_rma_text.specs.Spelling.{step_line}

-- the events are read, and the rest of the text is left
pub record FrontIsRead (text : List ℕ) (events : List Step) (rest : List ℕ) : Type 0 where
  pub few : length events ≤ 20000
  pub form : AllByRecursion IsInForm events
  pub read : lines_of text ≡ map step_line events ++ lines_of rest
