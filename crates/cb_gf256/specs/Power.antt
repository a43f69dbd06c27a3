use Rattle.std.specs.Prelude.{ℕ, zero, suc}
use Rattle.cb_gf256.specs.Product.{◌⊗◌}

-- a to the power n is the product of n factors a, and 1 where there is none
unfoldable pub power : ℕ → ℕ → ℕ
power a zero = 1
power a (suc n) = a ⊗ power a n
