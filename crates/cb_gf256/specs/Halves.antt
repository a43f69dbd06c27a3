use Rattle.std.specs.Prelude.{◌≡◌, ℕ, ◌-◌, ◌*◌, ◌<◌, nat_lt, if◌then◌else◌, List, map}
use Rattle.std.specs.List.{range_with_len}
use Rattle.cb_gf256.specs.Product.{◌⊗◌}

-- the values of a byte's halves one after another: 0 to 15, and then 0 to 240 by steps of 16
abbrev pub half_at : ℕ → ℕ
half_at l = if nat_lt l 16 then l else 16 * (l - 16)

-- c times each value of a byte's halves
unfoldable pub half_products : ℕ → List ℕ
half_products c = map (λ l. c ⊗ half_at l) (range_with_len 0 32)

-- these are the products of a byte c with the values of a byte's halves
pub record AreHalfProducts (c : ℕ) (halves : List ℕ) : Type 0 where
  pub byte : c < 256
  pub products : halves ≡ half_products c
