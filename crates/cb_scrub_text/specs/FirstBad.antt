-- The first line that is outside the form.
use Rattle.std.specs.Prelude.{◌≡◌, ℕ, ◌+◌, ◌<◌, ◌≤◌, ◌⊎◌, List, [], ◌∷◌, ◌++◌, length}
use Rattle.cb_script.specs.Spelling.{lines_of}
use Rattle.cb_scrub_text.specs.declared.asked.Asked.{Asked}
use Rattle.cb_scrub_text.specs.Form.{IsAsked, asked_lines}

-- the lines are the first ones of something that may be asked
pub record Begin (lines : List (List ℕ)) : Type 0 where
  pub asked : Asked
  pub form : IsAsked asked
  pub others : List (List ℕ)
  pub are : asked_lines asked ≡ lines ++ others

-- the lines are all lines of something that may be asked
pub record AreAsked (lines : List (List ℕ)) : Type 0 where
  pub asked : Asked
  pub form : IsAsked asked
  pub are : asked_lines asked ≡ lines

-- After these lines one is missing, or nothing that may be asked goes on with the next.
abbrev pub StopBefore : List (List ℕ) → List (List ℕ) → Type 0
StopBefore before [] = AreAsked before → ⊥
StopBefore before (line ∷ after) = Begin (before ++ line ∷ []) → ⊥

-- The lines before this one are the first ones of something that may be asked, and with it they are
-- not. Where a line is missing, it is the one after the last.
pub record IsBadLine (bytes : List ℕ) (line : ℕ) : Type 0 where
  pub before : List (List ℕ)
  pub after : List (List ℕ)
  pub lines : lines_of bytes ≡ before ++ after
  pub begin : Begin before
  pub stop : StopBefore before after
  pub number : line ≡ length before + 1

-- The first line that is outside the form, and 0 where there are too many bytes.
abbrev pub IsFirstBad : List ℕ → ℕ → Type 0
IsFirstBad bytes line =
    ((line ≡ 0) × (1048576 < length bytes)) ⊎ ((length bytes ≤ 1048576) × IsBadLine bytes line)
