-- An order for deltas, and the parities that it makes.
use Rattle.std.specs.Prelude.{◌≡◌, ℕ, ◌<◌, All, List, length, slice_index}
use Rattle.std.specs.List.Sorted.{IsStrictlyIncreasing}
use Rattle.cb_gf256.specs.InRange.{IsInRange}
use Rattle.cb_gf256.specs.Product.{◌⊗◌}
use Rattle.cb_gf256.specs.Rows.{HaveLength, byte_at, row_at}
use Rattle.cb_gf256.specs.Sum.{◌⊕◌, sum_over}
use Rattle.cb_code.specs.Coefficients.{AreCoefficients}
use Rattle.cb_local.specs.declared.order.DeltaOrder.{DeltaOrder}

-- how many bytes each row of the order has
abbrev pub width : DeltaOrder → ℕ
width order = length (row_at order.parities 0)

-- k and r are those of a code, the taken positions ascend below k, there are an old and a new row
-- for each of them and r parities, and all rows have one length
pub record IsOrder (order : DeltaOrder) : Type 0 where
  pub range : IsInRange order.k order.r
  pub ascend : IsStrictlyIncreasing order.taken
  pub below : All (λ p. p < order.k) order.taken
  pub old_count : length order.old ≡ length order.taken
  pub new_count : length order.new ≡ length order.taken
  pub parity_count : length order.parities ≡ order.r
  pub old_wide : HaveLength (width order) order.old
  pub new_wide : HaveLength (width order) order.new
  pub parities_wide : HaveLength (width order) order.parities

-- the byte of parity j at a column that the first n taken positions add: for each the coefficient
-- of the position in the parity times the sum of the old and the new byte
abbrev pub added_byte : List (List ℕ) → DeltaOrder → ℕ → ℕ → ℕ → ℕ
added_byte table order n j column = sum_over n (λ i. byte_at table j (slice_index order.taken i)
    ⊗ (byte_at order.old i column ⊕ byte_at order.new i column))

-- the rows are the order's parities, to which all taken positions are added by this table of
-- coefficients
pub record ArePatched (table : List (List ℕ)) (order : DeltaOrder) (rows : List (List ℕ)) : Type 0
  where
    pub count : length rows ≡ order.r
    pub wide : HaveLength (width order) rows
    pub bytes : (j column : ℕ) → j < order.r → column < width order → byte_at rows j column
        ≡ byte_at order.parities j column ⊕ added_byte table order (length order.taken) j column

-- they are so by the coefficients of the order's code
abbrev pub HasItsParities : DeltaOrder → List (List ℕ) → Type 0
HasItsParities order rows = (table : List (List ℕ)) → AreCoefficients order.k order.r table
    → ArePatched table order rows

-- an order that was run, and the patched parities
pub record DoneState : Type 0 where
  pub order : DeltaOrder
  pub parities : List (List ℕ)
