-- A parity at worked values: 02 times 80 is 1D.
use Rattle.std.proofs.Common.{◌≡◌, zero, suc, [], ◌∷◌, refl, arith}
use Rattle.cb_gf256.specs.Product.{◌⊗◌}
use Rattle.cb_gf256.specs.Combination.{combination}
use Rattle.cb_delta.specs.Parity.{IsParity}

product : combination (0x02 ∷ []) ((0x80 ∷ []) ∷ []) 0 ≡ 0x1D
unfolding ◌⊗◌
product = refl

pub parity_1D : IsParity (0x02 ∷ []) ((0x80 ∷ []) ∷ []) (0x1D ∷ [])
unfolding ◌⊗◌
parity_1D zero h = refl
parity_1D (suc column) h = absurd (omega arith)

pub no_other_parity : IsParity (0x02 ∷ []) ((0x80 ∷ []) ∷ []) (0x1C ∷ []) → ⊥
no_other_parity h = absurd (omega (arith, h 0 (omega arith), product))
