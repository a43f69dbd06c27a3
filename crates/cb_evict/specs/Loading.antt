-- The words of spans that are read into rows.
use Rattle.std.specs.Prelude.{◌≡◌, ℕ, ◌*◌, ◌^◌, ◌<◌, List, [], ◌∷◌, Option, Some, length, slice_get, All}
use Rattle.std.specs.List.{Contains}
use Rattle.cb_gf256.specs.Rows.{row_at}
use Rattle.cb_span.specs.Contents.{Contents}
use Rattle.cb_world.specs.declared.access.Access.{Access}
use Rattle.cb_world.specs.declared.access.Access.TheVariants.{Loaded}
use Rattle.cb_world.specs.declared.shown.Shown.{Shown}
use Rattle.cb_world.specs.FarState.{pages_at}
use Rattle.cb_world.specs.FrameWords.{LiesInRun, OwnsRun}
use Rattle.cb_world.specs.Memory.{window}
use Rattle.cb_world.specs.RowWords.{row_of}

-- the spans in these frames have so many pages each
abbrev pub AreOfLength : List (Option Contents) → ℕ → List ℕ → Type 0
AreOfLength spans pages frames = All (λ f. pages_at spans f ≡ pages) frames

-- the word p lies in the run of so many frames from one of these on
abbrev pub LiesInRuns : ℕ → List ℕ → ℕ → Type 0
LiesInRuns pages frames p = (f : ℕ) × Contains frames f × LiesInRun f pages p

-- the word p lies in the span in one of these frames
abbrev pub LiesInOne : List (Option Contents) → List ℕ → ℕ → Type 0
LiesInOne spans frames p = (f : ℕ) × Contains frames f × LiesInRun f (pages_at spans f) p

-- each event reads a word at one of these places
abbrev pub OnlyLoads : (ℕ → Type 0) → List Access → Type 0
OnlyLoads places [] = Unit {0}
OnlyLoads places (Loaded p x ∷ es) = places p × OnlyLoads places es
OnlyLoads places (e ∷ es) = ⊥

-- the row is made of the words of the run, which the desk shows where the caller owns them
pub record IsRowOfRun (shows : Shown → Type 0) (f pages : ℕ) (row : List ℕ) : Type 0 where
  pub words : List ℕ
  pub count : length words ≡ 512 * pages
  pub small : All (λ w. w < 2 ^ 64) words
  pub made : row ≡ row_of words
  pub contents : (s : Shown) → shows s → OwnsRun s f pages
      → words ≡ window s.memory (512 * f) (512 * pages)

-- each word of the run is read once, into a row
pub record LoadsRun (runs : List Access → Type 0) (shows : Shown → Type 0) (f pages : ℕ)
    (row : List ℕ) : Type 0 where
  pub events : List Access
  pub ran : runs events
  pub loads : OnlyLoads (LiesInRun f pages) events
  pub made : IsRowOfRun shows f pages row

-- so of each run of so many frames, into the row at its place
pub record LoadsRuns (runs : List Access → Type 0) (shows : Shown → Type 0) (pages : ℕ)
    (frames : List ℕ) (rows : List (List ℕ)) : Type 0 where
  pub events : List Access
  pub ran : runs events
  pub loads : OnlyLoads (LiesInRuns pages frames) events
  pub made : (p f : ℕ) → slice_get frames p ≡ Some f → IsRowOfRun shows f pages (row_at rows p)
