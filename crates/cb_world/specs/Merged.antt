-- The merged word of two sets: b's rows at the taken positions, a's rows at the other data
-- positions, and parities made of a's by deltas.
use Rattle.std.specs.Prelude.{◌≡◌, ℕ, ◌<◌, ◌==◌, Bool, true, false, List, [], ◌∷◌, slice_index, if◌then◌else◌}
use Rattle.cb_gf256.specs.Row.{row_sum, scaled_row}
use Rattle.cb_gf256.specs.Rows.{row_at}
use Rattle.cb_world.specs.SetWord.{IsSpanWord}

-- whether the position is one of those that are taken
abbrev pub takes : List ℕ → ℕ → Bool
takes [] i = false
takes (q ∷ taken) i = if q == i then true else takes taken i

-- a parity with the deltas of the taken positions added, one after another
abbrev pub patched : List ℕ → List (List ℕ) → List (List ℕ) → List ℕ → List ℕ → List ℕ
patched factors a b row [] = row
patched factors a b row (i ∷ taken) =
    patched factors a b
    (row_sum row (scaled_row (slice_index factors i) (row_sum (row_at a i) (row_at b i)))) taken

-- the taken positions are data positions, and none stands twice
abbrev pub AreTaken : ℕ → List ℕ → Type 0
AreTaken k [] = Unit {0}
AreTaken k (i ∷ taken) = (i < k) × (takes taken i ≡ false) × AreTaken k taken

-- m is the word whose data are b's rows at the taken positions and a's rows elsewhere
pub record IsMergedWord (pages k r : ℕ) (taken : List ℕ) (a b m : List (List ℕ)) : Type 0 where
  pub word : IsSpanWord pages k r m
  pub chosen : (i : ℕ) → i < k → row_at m i ≡ (if takes taken i then row_at b i else row_at a i)
