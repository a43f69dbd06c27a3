use Rattle.std.specs.Prelude.{◌≡◌, ◌≢◌, ℕ, ◌+◌, ◌<◌, ◌⊎◌}
use Rattle.cb_gf256.specs.Sum.{◌⊕◌, sum_over}

-- each position below n is one of the k present ones or one of the r lost ones, and none is both
-- or stands twice
pub record Splits (n k r : ℕ) (present lost : ℕ → ℕ) : Type 0 where
  pub count : k + r ≡ n
  pub present_below : (i : ℕ) → i < k → present i < n
  pub lost_below : (e : ℕ) → e < r → lost e < n
  pub lost_ascend : (d e : ℕ) → d < e → e < r → lost d < lost e
  pub apart : (i e : ℕ) → i < k → e < r → present i ≢ lost e
  pub covers : (p : ℕ) → p < n
      → ((i : ℕ) × (i < k) × (present i ≡ p)) ⊎ ((e : ℕ) × (e < r) × (lost e ≡ p))
  pub sums : (f : ℕ → ℕ)
      → sum_over n f ≡ sum_over k (λ i. f (present i)) ⊕ sum_over r (λ e. f (lost e))
