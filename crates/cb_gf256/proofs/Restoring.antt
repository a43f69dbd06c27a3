-- Columns of code words over a split of the positions: the lost bytes are fixed by the present ones.
use Rattle.std.proofs.Common.{◌≡◌, ◌≢◌, ℕ, ◌*◌, ◌<◌, ◌≤◌, sym, ap, ap₂, subst, ◌∙◌, ⊎_elim, arith}
use Rattle.std.proofs.lemmas.Bool.{cases_order}
use lib.Bits.{xor_self}
use Rattle.cb_gf256.specs.Sum.{◌⊕◌, sum_over}
use Rattle.cb_gf256.specs.Product.{◌⊗◌}
use Rattle.cb_gf256.specs.Power.{power}
use Rattle.cb_gf256.specs.Lagrange.{points, AreFactors}
use Rattle.cb_gf256.proofs.CodeColumn.{IsCodeColumn}
use Rattle.cb_gf256.specs.Split.{Splits}
use Rattle.cb_gf256.proofs.Linear.{sum_over-same}
use Rattle.cb_gf256.proofs.FieldLaws.{zero-product, product_assoc, same_from_zero_sum}
use Rattle.cb_gf256.proofs.PowerLaws.{power-lt, power-mul, one-product}
use Rattle.cb_gf256.proofs.TableLemmas.{powers_differ}
use Rattle.cb_gf256.proofs.SumLaws.{product-sum_over, sum_over-product, sum_over-swap, sum_over-one_term}
use Rattle.cb_gf256.proofs.Polynomials.{IsPolynomial-lt}
use Rattle.cb_gf256.proofs.LagrangeLemmas.{IsBasis, basis_of, interpolates, polynomial_vanishes}

two_power-lt : (m : ℕ) → power 2 m < 256
two_power-lt m = power-lt 2 m (omega arith)

points_differ : (n k r : ℕ) (present lost : ℕ → ℕ) → n ≤ 255 → Splits n k r present lost → (d e : ℕ) → d < r → e < r → d ≢ e → points lost d ≢ points lost e
points_differ n k r present lost small split d e l m h same =
    let equal : lost d ≡ lost e = powers_differ (lost d) (lost e) (omega (arith, split.lost_below d l)) (omega (arith, split.lost_below e m)) same in
    ⊎_elim h (⊎_elim (λ below. omega (arith, split.lost_ascend d e below m)) (λ above. omega (arith, split.lost_ascend e d above l))) (cases_order d e)

-- ---- over any Lagrange polynomials
restored : (n k r : ℕ) (present lost : ℕ → ℕ) (g : ℕ → ℕ → ℕ) (c : ℕ → ℕ) → Splits n k r present lost → IsBasis r (points lost) g → IsCodeColumn n r c → (e : ℕ) → e < r → c (lost e) ≡ sum_over k (λ i. g e (power 2 (present i)) ⊗ c (present i))
restored n k r present lost g c split basis column e l =
    let term : (p : ℕ) → ℕ = λ p. g e (power 2 p) ⊗ c p in
    let own : sum_over r (λ m. term (lost m)) ≡ c (lost e) =
    sum_over-one_term r e (λ m. term (lost m)) l
    (λ m k n. ap (λ v. v ⊗ c (lost m)) (basis.zero e m l k n) ∙ zero-product (c (lost m)))
    ∙ ap (λ v. v ⊗ c (lost e)) (basis.one e l) ∙ one-product (c (lost e)) (column.bytes (lost e) (split.lost_below e l)) in
    sym
    (same_from_zero_sum (sum_over k (λ i. term (present i))) (c (lost e))
    (ap (λ v. sum_over k (λ i. term (present i)) ⊕ v) (sym own)
    ∙ sym (split.sums term)
    ∙ polynomial_vanishes n r c (g e) column.bytes (basis.polynomial e l) column.syndromes_zero))

made : (n k r : ℕ) (present lost : ℕ → ℕ) (g : ℕ → ℕ → ℕ) (c : ℕ → ℕ) → n ≤ 255 → Splits n k r present lost → IsBasis r (points lost) g → ((p : ℕ) → p < n → c p < 256) → ((e : ℕ) → e < r → c (lost e) ≡ sum_over k (λ i. g e (power 2 (present i)) ⊗ c (present i))) → (j : ℕ) → j < r → sum_over n (λ p. power 2 (p * j) ⊗ c p) ≡ 0
made n k r present lost g c small split basis bytes h j l =
    let x : (i : ℕ) → ℕ = λ i. power 2 (present i) in
    let y : (e : ℕ) → ℕ = λ e. power 2 (lost e) in
    let byte_g : (e i : ℕ) → e < r → g e (x i) < 256 = λ e i q. IsPolynomial-lt r (g e) (basis.polynomial e q) (x i) (two_power-lt (present i)) in
    let turned : (p : ℕ) → power 2 (p * j) ≡ power (power 2 p) j = λ p. power-mul 2 p j (omega arith) in
    let lost_part : sum_over r (λ e. power 2 (lost e * j) ⊗ c (lost e)) ≡ sum_over k (λ i. power 2 (present i * j) ⊗ c (present i)) =
    sum_over-same r (λ e. power 2 (lost e * j) ⊗ c (lost e)) (λ e. sum_over k (λ i. (power (y e) j ⊗ g e (x i)) ⊗ c (present i)))
    (λ e q.
    ap₂ ◌⊗◌ (turned (lost e)) (h e q)
    ∙ product-sum_over (power (y e) j) k (λ i. g e (x i) ⊗ c (present i))
    ∙ sum_over-same k (λ i. power (y e) j ⊗ (g e (x i) ⊗ c (present i))) (λ i. (power (y e) j ⊗ g e (x i)) ⊗ c (present i))
    (λ i m. sym (product_assoc (power (y e) j) (g e (x i)) (c (present i)) (power-lt (y e) j (two_power-lt (lost e))) (byte_g e i q) (bytes (present i) (split.present_below i m)))))
    ∙ sum_over-swap r k (λ e i. (power (y e) j ⊗ g e (x i)) ⊗ c (present i))
    ∙ sum_over-same k (λ i. sum_over r (λ e. (power (y e) j ⊗ g e (x i)) ⊗ c (present i))) (λ i. power 2 (present i * j) ⊗ c (present i))
    (λ i m.
    sym (sum_over-product r (λ e. power (y e) j ⊗ g e (x i)) (c (present i)))
    ∙ ap (λ v. v ⊗ c (present i))
    (sym (interpolates r (points lost) g basis (λ m _. two_power-lt (lost m)) (λ d e p q. points_differ n k r present lost small split d e (omega arith) q (omega arith)) j l (x i) (two_power-lt (present i)))
    ∙ sym (turned (present i)))) in
    split.sums (λ p. power 2 (p * j) ⊗ c p)
    ∙ ap (λ v. sum_over k (λ i. power 2 (present i * j) ⊗ c (present i)) ⊕ v) lost_part
    ∙ xor_self (sum_over k (λ i. power 2 (present i * j) ⊗ c (present i)))

-- ---- over the factors of a split
-- a column of a code word has at each lost position the sum of the present bytes, each times its factor
pub column_restored : (n k r : ℕ) (present lost : ℕ → ℕ) (w : ℕ → ℕ → ℕ) (c : ℕ → ℕ) → n ≤ 255 → Splits n k r present lost → AreFactors k r present lost w → IsCodeColumn n r c → (e : ℕ) → e < r → c (lost e) ≡ sum_over k (λ i. w e i ⊗ c (present i))
column_restored n k r present lost w c small split factors column e l =
    let basis = basis_of r (points lost) (λ m _. two_power-lt (lost m)) (points_differ n k r present lost small split) in
    restored n k r present lost basis.0 c split basis.1 column e l
    ∙ sum_over-same k (λ i. basis.0 e (power 2 (present i)) ⊗ c (present i)) (λ i. w e i ⊗ c (present i))
    (λ i q. ap (λ v. v ⊗ c (present i)) (sym (basis.2 e (power 2 (present i)) (w e i) l (two_power-lt (present i)) ((factors.factor e i l q).byte) ((factors.factor e i l q).quotient))))

-- and such bytes at the lost positions make a column of a code word
pub column_made : (n k r : ℕ) (present lost : ℕ → ℕ) (w : ℕ → ℕ → ℕ) (c : ℕ → ℕ) → n ≤ 255 → Splits n k r present lost → AreFactors k r present lost w → ((p : ℕ) → p < n → c p < 256) → ((e : ℕ) → e < r → c (lost e) ≡ sum_over k (λ i. w e i ⊗ c (present i))) → IsCodeColumn n r c
column_made n k r present lost w c small split factors bytes h =
    let basis = basis_of r (points lost) (λ m _. two_power-lt (lost m)) (points_differ n k r present lost small split) in
    record {
      bytes = bytes;
      syndromes_zero = made n k r present lost basis.0 c small split basis.1 bytes
          (λ e l. h e l
          ∙ sum_over-same k (λ i. w e i ⊗ c (present i)) (λ i. basis.0 e (power 2 (present i)) ⊗ c (present i))
          (λ i q. ap (λ v. v ⊗ c (present i)) (basis.2 e (power 2 (present i)) (w e i) l (two_power-lt (present i)) ((factors.factor e i l q).byte) ((factors.factor e i l q).quotient))));
    }

-- two columns of code words that agree at the present positions agree at each position
pub columns_agree : (n k r : ℕ) (present lost : ℕ → ℕ) (a b : ℕ → ℕ) → n ≤ 255 → Splits n k r present lost → IsCodeColumn n r a → IsCodeColumn n r b → ((i : ℕ) → i < k → a (present i) ≡ b (present i)) → (p : ℕ) → p < n → a p ≡ b p
columns_agree n k r present lost a b small split at bt same p l =
    let basis = basis_of r (points lost) (λ m _. two_power-lt (lost m)) (points_differ n k r present lost small split) in
    ⊎_elim
    (λ (i, q, e). subst (λ s. a s ≡ b s) e (same i q))
    (λ (m, q, e). subst (λ s. a s ≡ b s) e
    (restored n k r present lost basis.0 a split basis.1 at m q
    ∙ sum_over-same k (λ i. basis.0 m (power 2 (present i)) ⊗ a (present i)) (λ i. basis.0 m (power 2 (present i)) ⊗ b (present i)) (λ i t. ap (λ v. basis.0 m (power 2 (present i)) ⊗ v) (same i t))
    ∙ sym (restored n k r present lost basis.0 b split basis.1 bt m q)))
    (split.covers p l)
