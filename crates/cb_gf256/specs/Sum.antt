use Rattle.std.specs.Prelude.{ℕ, zero, suc, bit_xor}

-- the sum of two bytes is their exclusive or
infixl 65 ◌⊕◌
abbrev pub ◌⊕◌ : ℕ → ℕ → ℕ
a ⊕ b = bit_xor a b

-- the sum of f i over the positions i below n
abbrev pub sum_over : ℕ → (ℕ → ℕ) → ℕ
sum_over zero f = 0
sum_over (suc n) f = sum_over n f ⊕ f n
