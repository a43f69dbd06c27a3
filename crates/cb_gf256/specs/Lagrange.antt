use Rattle.std.specs.Prelude.{◌≡◌, ℕ, zero, suc, ◌<◌, ◌==◌, if◌then◌else◌}
use Rattle.cb_gf256.specs.Sum.{◌⊕◌}
use Rattle.cb_gf256.specs.Product.{◌⊗◌}
use Rattle.cb_gf256.specs.Power.{power}

-- the product of f i over the positions i below n
abbrev pub product_over : ℕ → (ℕ → ℕ) → ℕ
product_over zero f = 1
product_over (suc n) f = product_over n f ⊗ f n

-- the product of x less the points, over all points but the one at e
abbrev pub differences : ℕ → (ℕ → ℕ) → ℕ → ℕ → ℕ
differences count point e x = product_over count (λ m. if m == e then 1 else (x ⊕ point m))

-- the points of the lost positions: 2 to the power of each
abbrev pub points : (ℕ → ℕ) → ℕ → ℕ
points lost m = power 2 (lost m)

-- f is the value at position p of Lagrange's polynomial for the lost position at e, which is 1
-- there and 0 at the other lost positions
pub record IsLagrangeFactor (count : ℕ) (lost : ℕ → ℕ) (e p f : ℕ) : Type 0 where
  pub byte : f < 256
  pub quotient : differences count (points lost) e (power 2 (lost e)) ⊗ f
      ≡ differences count (points lost) e (power 2 p)

-- w e i is Lagrange's factor of the present position at i for the lost position at e
pub record AreFactors (k r : ℕ) (present lost : ℕ → ℕ) (w : ℕ → ℕ → ℕ) : Type 0 where
  pub factor : (e i : ℕ) → e < r → i < k → IsLagrangeFactor r lost e (present i) (w e i)
