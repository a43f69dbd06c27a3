use Rattle.std.proofs.Common.{◌≡◌, ℕ, ◌+◌, ◌<◌, ◌≤◌, List, [], length, get_or, set, take, map, subst, sym, arith, ◌∙◌}
use Rattle.std.proofs.lemmas.List.{get_or-take, length-take-le, length-set}
use Rattle.std.proofs.lemmas.List.Elements.{All-set}
use Rattle.cb_gf256.specs.InRange.{IsInRange}
use Rattle.cb_gf256.specs.Lagrange.{IsLagrangeFactor}
use Rattle.cb_code.specs.Coefficients.{AreCoefficients}
use Rattle.cb_gf256.proofs.PublicLaws.{below_more_set}
use Rattle.cb_code.proofs.Tables.{coefficients_of, is_code}
use Rattle.cb_code.proofs.coeffs.coefficients.Invariants.{Filled}
use Rattle.cb_code.proofs.coeffs.coefficients.Goals as goal

filled_more : (k j : ℕ) (lost : List ℕ) (table : List (List ℕ)) (row : List ℕ) → j < 4 → Filled k j lost table → length row ≡ 16 → ((i : ℕ) → i < k → IsLagrangeFactor (length lost) (λ x. get_or lost x 0) j i (get_or row i 0)) → Filled k (j + 1) lost (set table j row)
filled_more k j lost table row l h size factors = record {
  height = length-set table j row ∙ h.height;
  width = All-set (λ x. length x ≡ 16) table j row size h.width;
  factors = λ m i q t.
      below_more_set (λ e x. (y : ℕ) → y < k → IsLagrangeFactor (length lost) (λ z. get_or lost z 0) e y (get_or x y 0)) table j row [] (omega (arith, h.height)) (λ e p y s. h.factors e y p s) factors m q i t;
}

pub loop-j-preserved : goal.loop-j-preserved
loop-j-preserved c =
    filled_more c.args.k c.loop-j.j (take c.args.r c.parity_positions-parities.result) c.loop-j.table c.coefficient_row.result (omega arith) c.loop-j.invariant c.coefficient_row.ensures.size c.coefficient_row.ensures.factors

all_filled : (k r j : ℕ) (parities : List ℕ) (table : List (List ℕ)) → IsInRange k r → length parities ≡ 4 → ((e : ℕ) → e < r → get_or parities e 0 ≡ k + e) → r ≤ j → Filled k j (take r parities) table → AreCoefficients k r (map (take k) (take r table))
all_filled k r j parities table range size at done h =
    let inside : r ≤ length parities = omega (arith, range.parities_most) in
    coefficients_of k r (take r parities) table range (length-take-le r parities inside) (λ e l. get_or-take r parities e 0 l ∙ at e l) h.height h.width (λ m i l q. h.factors m i (omega arith) q)

pub returns : goal.returns
returns c =
    subst (AreCoefficients c.args.k c.args.r) (sym c.of_table-factors.ensures)
    (all_filled c.args.k c.args.r c.loop-j.j c.parity_positions-parities.result c.loop-j.table c.requires c.parity_positions-parities.ensures.size c.parity_positions-parities.ensures.positions c.loop-j-test.false c.loop-j.invariant)

pub invariant_of-result : goal.invariant_of-result
invariant_of-result c =
    is_code c.args.k c.args.r c.of_table-factors.result c.requires
    (subst (AreCoefficients c.args.k c.args.r) (sym c.of_table-factors.ensures)
    (all_filled c.args.k c.args.r c.loop-j.j c.parity_positions-parities.result c.loop-j.table c.requires c.parity_positions-parities.ensures.size c.parity_positions-parities.ensures.positions c.loop-j-test.false c.loop-j.invariant))
