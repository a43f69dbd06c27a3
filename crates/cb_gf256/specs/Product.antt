use Rattle.std.specs.Prelude.{ℕ, ◌-◌, ◌*◌, ◌^◌, [], ◌∷◌, fold}
use Rattle.std.specs.Int.{bit_at}
use Rattle.cb_gf256.specs.Sum.{◌⊕◌, sum_over}

-- the plain product of two polynomials over GF(2): the sum, over the bits i that are set in b, of
-- a shifted left by i
abbrev pub plain_product : ℕ → ℕ → ℕ
plain_product a b = sum_over 8 (λ i. bit_at b i * (a * 2 ^ i))

-- p with the field's polynomial x^8+x^4+x^3+x^2+1, shifted left by i - 8, added where bit i is set
abbrev pub bit_reduced : ℕ → ℕ → ℕ
bit_reduced p i = p ⊕ bit_at p i * (0x11D * 2 ^ (i - 8))

-- p reduced from bit 14 down to bit 8
abbrev pub reduced : ℕ → ℕ
reduced p = fold bit_reduced p (14 ∷ 13 ∷ 12 ∷ 11 ∷ 10 ∷ 9 ∷ 8 ∷ [])

-- the product of two bytes is their plain product, reduced
infixl 70 ◌⊗◌
unfoldable pub ◌⊗◌ : ℕ → ℕ → ℕ
a ⊗ b = reduced (plain_product a b)
