-- What the parts of the reader answer.
use Rattle.std.specs.Prelude.{◌≡◌, ℕ, ◌+◌, ◌%◌, ◌<◌, ◌≤◌, ◌⊎◌, Bool, true, false, List, [], ◌∷◌, ◌++◌, length, map}
use Rattle.std.specs.List.{AllByRecursion}
use Rattle.cb_rma.specs.declared.step.Step.{Step}
use Rattle.cb_rma_text.specs.First.{IsNoEvent}
use Rattle.cb_rma_text.specs.Form.{IsInForm}
use Rattle.cb_rma_text.specs.Spelling.{step_line}
use Rattle.cb_rma_text.specs.declared.read.Fault.{Fault}
use Rattle.cb_rma_text.specs.declared.read.Fault.TheVariants.{Line, NoMemory}

-- two digits for each of 1 to 4,096 bytes
pub record HasRowLength (text : List ℕ) : Type 0 where
  pub some : 0 < length text
  pub few : length text ≤ 8192
  pub even : length text % 2 ≡ 0

-- the event has this text
pub record IsEventText (text : List ℕ) (event : Step) : Type 0 where
  pub form : IsInForm event
  pub spelled : text ≡ step_line event

-- an event of this text is added, or there is none
abbrev pub IsPushed : List Step → List Step → List ℕ → Bool → Type 0
IsPushed old new text true =
    (event : Step) × IsEventText text event × (new ≡ old ++ event ∷ [])
IsPushed old new text false = IsNoEvent text

-- these texts are the events
pub record AreTheEvents (texts : List (List ℕ)) (events : List Step) : Type 0 where
  pub few : length events ≤ 20000
  pub form : AllByRecursion IsInForm events
  pub read : map step_line events ≡ texts

-- a text among these that is one too many, or no event's, after those before it
pub record HasBadLine (texts : List (List ℕ)) (line : ℕ) : Type 0 where
  pub before : List Step
  pub few : length before ≤ 20000
  pub form : AllByRecursion IsInForm before
  pub text : List ℕ
  pub after : List (List ℕ)
  pub read : texts ≡ map step_line before ++ text ∷ after
  pub number : line ≡ length before + 2
  pub bad : (length before ≡ 20000) ⊎ IsNoEvent text

-- the fault is that of a line, unless memory was wanting
abbrev pub FaultIs : Fault → (ℕ → Type 0) → Type 0
FaultIs (Line line) faults = faults line
FaultIs NoMemory faults = Unit {0}
