use Rattle.std.specs.Prelude.{ℕ, List, [], ◌∷◌}
use Rattle.cb_gf256.specs.Sum.{◌⊕◌}
use Rattle.cb_gf256.specs.Product.{◌⊗◌}

-- the value at x of the polynomial with these coefficients, that of the power 0 first (Horner)
abbrev pub evaluated : List ℕ → ℕ → ℕ
evaluated [] x = 0
evaluated (a ∷ cs) x = a ⊕ x ⊗ evaluated cs x
