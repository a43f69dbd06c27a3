use Rattle.std.specs.Prelude.{◌≡◌, ℕ, ◌<◌, List, length, slice_index}

-- v has n lanes, and lane l is f l
pub record AreLanes (n : ℕ) (v : List ℕ) (f : ℕ → ℕ) : Type 0 where
  pub count : length v ≡ n
  pub each : (l : ℕ) → l < n → slice_index v l ≡ f l

-- the same of a block
abbrev pub HasLanes : List ℕ → (ℕ → ℕ) → Type 0
HasLanes v f = AreLanes 64 v f
