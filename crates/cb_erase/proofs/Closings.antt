-- All rows of a code word add up to 0, so the last lost row is the sum of all others.
use Rattle.std.proofs.Common.{◌≡◌, ◌≢◌, ℕ, ◌+◌, ◌<◌, ◌≤◌, List, [], length, sym, ap, subst, ◌∙◌, ⊎_elim, arith, add-one}
use Rattle.std.proofs.lemmas.Bool.{cases_order}
use Rattle.cb_gf256.specs.Sum.{◌⊕◌, sum_over}
use Rattle.cb_gf256.specs.Product.{◌⊗◌}
use Rattle.cb_gf256.specs.Power.{power}
use Rattle.cb_gf256.specs.Rows.{row_at, byte_at, HaveLength, AreRows}
use Rattle.cb_gf256.specs.Corner.{corner}
use Rattle.cb_gf256.specs.InRange.{IsInRange}
use Rattle.cb_gf256.specs.Lagrange.{points, AreFactors}
use Rattle.cb_gf256.specs.Split.{Splits}
use Rattle.cb_gf256.proofs.PublicLaws.{sum_commutes, sum_associates, sum_with_zero, sum_with_itself, sum_over_same, sum_over_swaps, sum_over_with_product, one_with_product, power_is_byte, power_of_none, powers_of_two_differ, corner_count, corner_byte, corner_lengths, basis_of, interpolates}
use Rattle.cb_erase.specs.Closing.{sum_by, Closes}

power_byte : (m : ℕ) → power 2 m < 256
power_byte m = power_is_byte 2 m (omega arith)

points_differ : (n k r : ℕ) (present lost : ℕ → ℕ) → n ≤ 255 → Splits n k r present lost → (d e : ℕ) → d < r → e < r → d ≢ e → points lost d ≢ points lost e
points_differ n k r present lost small split d e l m h same =
    let equal : lost d ≡ lost e = powers_of_two_differ (lost d) (lost e) (omega (arith, split.lost_below d l)) (omega (arith, split.lost_below e m)) same in
    ⊎_elim h (⊎_elim (λ below. omega (arith, split.lost_ascend d e below m)) (λ above. omega (arith, split.lost_ascend e d above l))) (cases_order d e)

-- the factors of a present row in all lost rows add up to 1
factors_sum : (n k r : ℕ) (present lost : ℕ → ℕ) (w : ℕ → ℕ → ℕ) → n ≤ 255 → 0 < r → Splits n k r present lost → AreFactors k r present lost w → (i : ℕ) → i < k → sum_over r (λ e. w e i) ≡ 1
factors_sum n k r present lost w small some split factors i h =
    let differ = points_differ n k r present lost small split in
    let basis = basis_of r (points lost) (λ m _. power_byte (lost m)) differ in
    let x = power 2 (present i) in
    let own : (e : ℕ) → e < r → w e i ≡ basis.0 e x = λ e q. basis.2 e x (w e i) q (power_byte (present i)) ((factors.factor e i q h).byte) ((factors.factor e i q h).quotient) in
    sum_over_same r (λ e. w e i) (λ e. power (points lost e) 0 ⊗ basis.0 e x)
    (λ e q.
    own e q
    ∙ sym (ap (λ p. p ⊗ basis.0 e x) (power_of_none (points lost e)) ∙ one_with_product (basis.0 e x) (omega (arith, own e q, (factors.factor e i q h).byte))))
    ∙ sym (interpolates r (points lost) basis.0 basis.1 (λ m _. power_byte (lost m)) (λ d e p q. differ d e (omega arith) q (omega arith)) 0 some x (power_byte (present i)))
    ∙ power_of_none x

-- so all lost rows add up to the sum of the present ones
lost_sum : (n k r : ℕ) (present lost : ℕ → ℕ) (w : ℕ → ℕ → ℕ) (x : ℕ → ℕ) → n ≤ 255 → 0 < r → Splits n k r present lost → AreFactors k r present lost w → ((i : ℕ) → i < k → x i < 256)
    → sum_over r (λ e. sum_over k (λ i. w e i ⊗ x i)) ≡ sum_over k x
lost_sum n k r present lost w x small some split factors bytes =
    sum_over_swaps r k (λ e i. w e i ⊗ x i)
    ∙ sum_over_same k (λ i. sum_over r (λ e. w e i ⊗ x i)) x
    (λ i h. sym (sum_over_with_product r (λ e. w e i) (x i)) ∙ ap (λ s. s ⊗ x i) (factors_sum n k r present lost w small some split factors i h) ∙ one_with_product (x i) (bytes i h))

-- the last of some terms, by their sum
last_term : (m s : ℕ) (f : ℕ → ℕ) → sum_over (m + 1) f ≡ s → f m ≡ s ⊕ sum_over m f
last_term m s f e =
    let before = sum_over m f in
    let whole : before ⊕ f m ≡ s = sym (ap (λ n. sum_over n f) (add-one m)) ∙ e in
    sym
    (ap (λ x. x ⊕ before) (sym whole ∙ sum_commutes before (f m))
    ∙ sum_associates (f m) before before
    ∙ ap (λ x. f m ⊕ x) (sum_with_itself before)
    ∙ sum_with_zero (f m))

pub corner_closes : (k r m len : ℕ) (present lost : ℕ → ℕ) (table products shown : List (List ℕ)) → r ≡ m + 1 → IsInRange k r → Splits (k + r) k r present lost → AreFactors k r present lost (byte_at table)
    → length table ≡ 4 → HaveLength 16 table → ((j i : ℕ) → j < m → i < k → byte_at products j i ≡ byte_at table j i)
    → length shown ≡ k → AreRows shown → HaveLength len shown → Closes m k len products shown (corner k r table)
corner_closes k r m len present lost table products shown last range split factors height wide same count rows lengths =
    let inside : r ≤ length table = omega (arith, range.parities_most) in
    let long : length (corner k r table) ≡ r = corner_count k r table inside in
    let widths : HaveLength k (corner k r table) = corner_lengths k r 16 table range.data_most inside wide in
    let width : (j : ℕ) → j < r → length (row_at (corner k r table) j) ≡ k = λ j l. widths j [] (omega arith) in
    record {
      width = λ j l. width j (omega arith);
      factors = λ j i l h. corner_byte k r table j i (omega arith) h ∙ sym (same j i l h);
      closing = λ c h.
          let x = λ (i : ℕ). byte_at shown i c in
          let f = λ (e : ℕ). sum_over k (λ i. byte_at table e i ⊗ x i) in
          let bytes : (i : ℕ) → i < k → x i < 256 = λ i l. rows.bytes i [] (omega arith) c 0 (omega (arith, lengths i [] (omega arith))) in
          ap (λ n. sum_over n (λ i. byte_at (corner k r table) m i ⊗ x i)) (width m (omega arith))
          ∙ sum_over_same k (λ i. byte_at (corner k r table) m i ⊗ x i) (λ i. byte_at table m i ⊗ x i) (λ i l. ap (λ v. v ⊗ x i) (corner_byte k r table m i (omega arith) l))
          ∙ last_term m (sum_over k x) f
          (subst (λ n. sum_over n f ≡ sum_over k x) last (lost_sum (k + r) k r present lost (byte_at table) x (omega (arith, range.data_most, range.parities_most)) (omega (arith, range.parities_least)) split factors bytes))
          ∙ ap (λ v. sum_over k x ⊕ v) (sum_over_same m f (λ j. sum_by k products shown j c) (λ j l. sum_over_same k (λ i. byte_at table j i ⊗ x i) (λ i. byte_at products j i ⊗ x i) (λ i h. ap (λ v. v ⊗ x i) (sym (same j i l h)))));
    }
