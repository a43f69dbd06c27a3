use Rattle.std.proofs.Common.{◌≡◌, ℕ, ◌<◌, List, length, slice_index}
use Rattle.cb_gf256.specs.Rows.{byte_at, HaveLength}
use Rattle.cb_gf256.specs.Lagrange.{IsLagrangeFactor}
use Rattle.cb_code.proofs.coeffs.coefficients.Given as goal

-- the rows below row j hold their factors
pub record Filled (k j : ℕ) (lost : List ℕ) (table : List (List ℕ)) : Type 0 where
  pub height : length table ≡ 4
  pub width : HaveLength 16 table
  pub factors : (m i : ℕ) → m < j → i < k → IsLagrangeFactor (length lost) (λ x. slice_index lost x) m i (byte_at table m i)

abbrev pub invariant-loop-j : goal.invariant-loop-j
invariant-loop-j l = Filled l.k l.j l.lost l.table
