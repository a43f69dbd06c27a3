use Rattle.std.specs.Prelude.{◌≡◌, ℕ, ◌<◌, List, length, All}
use Rattle.std.specs.List.Sorted.{IsStrictlyIncreasing}

-- these are k different positions below n, in ascending order
pub record ArePositions (n k : ℕ) (positions : List ℕ) : Type 0 where
  pub count : length positions ≡ k
  pub ascend : IsStrictlyIncreasing positions
  pub below : All (λ p. p < n) positions
