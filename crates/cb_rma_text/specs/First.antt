-- The first line of an input that is outside the form.
use Rattle.std.specs.Prelude.{◌≡◌, ℕ, ◌+◌, ◌<◌, ◌≤◌, ◌⊎◌, List, ◌∷◌, ◌++◌, length, map}
use Rattle.std.specs.List.{AllByRecursion}
use Rattle.cb_script.specs.Spelling.{lines_of}
use Rattle.cb_rma.specs.declared.step.Step.{Step}
use Rattle.cb_rma_text.specs.Form.{IsWindow, IsInForm}
use Rattle.cb_rma_text.specs.Spelling.{window_line, step_line}

-- line 1 is the header of this window
pub record HasWindow (bytes : List ℕ) (window : ℕ) : Type 0 where
  pub window_is : IsWindow window
  pub others : List (List ℕ)
  pub text : lines_of bytes ≡ window_line window ∷ others

-- no event in form has this line
abbrev pub IsNoEvent : List ℕ → Type 0
IsNoEvent text = (event : Step) → IsInForm event → text ≡ step_line event → ⊥

-- The lines before this one are a schedule's, and it is one too many or no event's.
pub record IsBadLine (bytes : List ℕ) (line : ℕ) : Type 0 where
  pub window : ℕ
  pub window_is : IsWindow window
  pub before : List Step
  pub few : length before ≤ 20000
  pub form : AllByRecursion IsInForm before
  pub text : List ℕ
  pub after : List (List ℕ)
  pub lines : lines_of bytes ≡ window_line window ∷ (map step_line before ++ text ∷ after)
  pub number : line ≡ length before + 2
  pub bad : (length before ≡ 20000) ⊎ IsNoEvent text

-- The first line outside the form: 0 where there are too many bytes, then 1 where it is not the
-- header, and then the first line after the header that is one too many or no event's.
pub data First (bytes : List ℕ) (line : ℕ) : Type 0 where
  TooLong : line ≡ 0 → 1048576 < length bytes → First bytes line
  NoHeader : line ≡ 1 → length bytes ≤ 1048576 → ((window : ℕ) → HasWindow bytes window → ⊥)
      → First bytes line
  AtLine : length bytes ≤ 1048576 → IsBadLine bytes line → First bytes line
