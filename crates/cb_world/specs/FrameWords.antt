-- The words of a frame, or of a run of frames, read or stored one after another.
use Rattle.std.specs.Prelude.{◌≡◌, ℕ, ◌+◌, ◌*◌, ◌^◌, ◌<◌, ◌≤◌, List, [], ◌∷◌, length, All}
use Rattle.cb_world.specs.declared.access.Access.{Access}
use Rattle.cb_world.specs.declared.access.Access.TheVariants.{Loaded, Stored}
use Rattle.cb_world.specs.declared.shown.Shown.{Shown}
use Rattle.cb_world.specs.Shown.{Owns}
use Rattle.cb_world.specs.RowWords.{row_of}

-- these words were read, at the place p and those after it
abbrev pub loads_from : ℕ → List ℕ → List Access
loads_from p [] = []
loads_from p (w ∷ ws) = Loaded p w ∷ loads_from (p + 1) ws

-- these words were stored, at the place p and those after it
abbrev pub stores_from : ℕ → List ℕ → List Access
stores_from p [] = []
stores_from p (w ∷ ws) = Stored p w ∷ stores_from (p + 1) ws

-- the caller owns all words of the frame
abbrev pub OwnsWords : Shown → ℕ → Type 0
OwnsWords s f = (p : ℕ) → 512 * f ≤ p → p < 512 * f + 512 → Owns s p

-- the word lies in the run of so many frames from this one on
abbrev pub LiesInRun : ℕ → ℕ → ℕ → Type 0
LiesInRun f pages p = (512 * f ≤ p) × (p < 512 * (f + pages))

-- the caller owns all words of the run
abbrev pub OwnsRun : Shown → ℕ → ℕ → Type 0
OwnsRun s f pages = (p : ℕ) → LiesInRun f pages p → Owns s p

-- the words of the frame were read, each once, and make the row
pub record ReadsFrame (runs : List Access → Type 0) (f : ℕ) (row : List ℕ) : Type 0 where
  pub words : List ℕ
  pub count : length words ≡ 512
  pub small : All (λ w. w < 2 ^ 64) words
  pub made : row ≡ row_of words
  pub ran : runs (loads_from (512 * f) words)

-- the words of the run were read, each once, and make the row
pub record ReadsRun (runs : List Access → Type 0) (f pages : ℕ) (row : List ℕ) : Type 0 where
  pub words : List ℕ
  pub count : length words ≡ 512 * pages
  pub small : All (λ w. w < 2 ^ 64) words
  pub made : row ≡ row_of words
  pub ran : runs (loads_from (512 * f) words)
