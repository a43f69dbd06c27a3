use Rattle.std.specs.Prelude.{◌≡◌, ℕ, ◌*◌, ◌<◌}
use Rattle.cb_gf256.specs.Sum.{sum_over}
use Rattle.cb_gf256.specs.Product.{◌⊗◌}
use Rattle.cb_gf256.specs.Power.{power}

-- c is one column of a code word: n bytes whose syndromes of the powers below r are 0
pub record IsCodeColumn (n r : ℕ) (c : ℕ → ℕ) : Type 0 where
  pub bytes : (p : ℕ) → p < n → c p < 256
  pub syndromes_zero : (j : ℕ) → j < r → sum_over n (λ p. power 2 (p * j) ⊗ c p) ≡ 0
