-- Lagrange's polynomials for the lost positions: with them the lost rows of a code word are sums of the present ones.
use Rattle.std.proofs.Common.{◌≡◌, ◌≢◌, ℕ, zero, suc, ◌+◌, ◌*◌, ◌<◌, ◌≤◌, cond, eqb, List, [], ◌∷◌, length, get_or, All, add-one, sym, ap, ap₂, subst, ◌∙◌, ⊎_elim, arith}
use Rattle.std.proofs.Math.Nat.{add-zero, mul-zero, mul-suc}
use Rattle.std.specs.List.Sorted.{IsStrictlyIncreasing}
use Rattle.std.proofs.lemmas.Bool.{cases_lt, cases_eq, cases_order, eq-eqb, ne_eqb}
use lib.Bits.{xor_self}
use Rattle.cb_gf256.specs.Sum.{◌⊕◌, sum_over}
use Rattle.cb_gf256.specs.Product.{◌⊗◌}
use Rattle.cb_gf256.specs.Power.{power}
use Rattle.cb_gf256.specs.Polynomial.{evaluated}
use Rattle.cb_gf256.specs.Lagrange.{differences, points}
use Rattle.cb_gf256.proofs.Linear.{product-left, product-right, sum_over-same, sum_over-sum}
use Rattle.cb_gf256.proofs.FieldLaws.{product-zero, zero-product, product-one, product_comm, product_assoc, product-lt, sum-lt, same_from_zero_sum}
use Rattle.cb_gf256.proofs.PowerLaws.{power-zero, power-lt, power-add, one-product}
use Rattle.cb_gf256.proofs.TableLemmas.{product_nonzero, product_cancel, inverse, powers_differ}
use Rattle.cb_gf256.proofs.SumLaws.{sum_over-zero, product-sum_over, sum_over-one_term}
use Rattle.cb_gf256.proofs.Polynomials.{AreBytes, evaluated-lt, product_swap, differ_nonzero, IsPolynomial, IsPolynomial-same, IsPolynomial-sum, IsPolynomial-scaled, IsPolynomial-one, IsPolynomial-linear, IsPolynomial-power, IsPolynomial-sum_over, IsPolynomial-roots}

-- ---- the product of differences
-- the difference at one point, or 1 at the point that is left out
abbrev pub difference : (ℕ → ℕ) → ℕ → ℕ → ℕ → ℕ
difference point e x m = cond (eqb m e) 1 (x ⊕ point m)

difference_own : (point : ℕ → ℕ) (e x m : ℕ) → m ≡ e → difference point e x m ≡ 1
difference_own point e x m h = ap (λ b. cond b 1 (x ⊕ point m)) (eq-eqb m e h)

difference_other : (point : ℕ → ℕ) (e x m : ℕ) → m ≢ e → difference point e x m ≡ x ⊕ point m
difference_other point e x m h = ap (λ b. cond b 1 (x ⊕ point m)) (ne_eqb m e h)

difference-lt : (point : ℕ → ℕ) (e x m : ℕ) → x < 256 → point m < 256 → difference point e x m < 256
difference-lt point e x m h k =
    ⊎_elim (λ same. omega (arith, difference_own point e x m same)) (λ other. omega (arith, difference_other point e x m other, sum-lt x (point m) h k)) (cases_eq m e)

pub differences-lt : (n : ℕ) (point : ℕ → ℕ) (e x : ℕ) → x < 256 → ((m : ℕ) → m < n → point m < 256) → differences n point e x < 256
differences-lt zero point e x h b = omega arith
differences-lt (suc n) point e x h b =
    product-lt (differences n point e x) (difference point e x n) (differences-lt n point e x h (λ m k. b m (omega arith))) (difference-lt point e x n h (b n (omega arith)))

-- before the point that is left out there is one coefficient more than there are points
differences_before : (n : ℕ) (point : ℕ → ℕ) (e : ℕ) → n ≤ e → ((m : ℕ) → m < n → point m < 256) → IsPolynomial (suc n) (differences n point e)
differences_before zero point e h b = IsPolynomial-one
differences_before (suc n) point e h b =
    IsPolynomial-same (suc (suc n)) (λ x. differences n point e x ⊗ (x ⊕ point n)) (differences (suc n) point e)
    (IsPolynomial-linear (suc n) (point n) (differences n point e) (b n (omega arith)) (differences_before n point e (omega arith) (λ m k. b m (omega arith))))
    (λ x l. ap (λ v. differences n point e x ⊗ v) (difference_other point e x n (omega arith)))

differences_past : (n : ℕ) (point : ℕ → ℕ) (e : ℕ) → e < n → ((m : ℕ) → m < n → point m < 256) → IsPolynomial n (differences n point e)
differences_past zero point e h b = absurd (omega arith)
differences_past (suc n) point e h b =
    let below : (m : ℕ) → m < n → point m < 256 = λ m k. b m (omega arith) in
    ⊎_elim
    (λ same.
    IsPolynomial-same (suc n) (differences n point e) (differences (suc n) point e)
    (differences_before n point e (omega arith) below)
    (λ x l. ap (λ v. differences n point e x ⊗ v) (difference_own point e x n same) ∙ product-one (differences n point e x) (differences-lt n point e x l below)))
    (λ other.
    IsPolynomial-same (suc n) (λ x. differences n point e x ⊗ (x ⊕ point n)) (differences (suc n) point e)
    (IsPolynomial-linear n (point n) (differences n point e) (b n (omega arith)) (differences_past n point e (omega arith) below))
    (λ x l. ap (λ v. differences n point e x ⊗ v) (difference_other point e x n other)))
    (cases_eq n e)

-- 0 at the other points
differences_other : (n : ℕ) (point : ℕ → ℕ) (e m : ℕ) → m < n → m ≢ e → differences n point e (point m) ≡ 0
differences_other zero point e m h d = absurd (omega arith)
differences_other (suc n) point e m h d =
    ⊎_elim
    (λ same.
    ap (λ v. differences n point e (point m) ⊗ v)
    (difference_other point e (point m) n (λ k. d (same ∙ k)) ∙ ap (λ j. point m ⊕ point j) (sym same) ∙ xor_self (point m))
    ∙ product-zero (differences n point e (point m)))
    (λ other.
    ap (λ v. v ⊗ difference point e (point m) n) (differences_other n point e m (omega arith) d)
    ∙ zero-product (difference point e (point m) n))
    (cases_eq m n)

-- not 0 at its own point
pub differences_own : (n : ℕ) (point : ℕ → ℕ) (e x : ℕ) → x < 256 → ((m : ℕ) → m < n → point m < 256) → ((m : ℕ) → m < n → m ≢ e → x ≢ point m) → 0 < differences n point e x
differences_own zero point e x h b d = omega arith
differences_own (suc n) point e x h b d =
    let below : (m : ℕ) → m < n → point m < 256 = λ m k. b m (omega arith) in
    product_nonzero (differences n point e x) (difference point e x n)
    (differences_own n point e x h below (λ m k. d m (omega arith))) (differences-lt n point e x h below)
    (⊎_elim (λ same. omega (arith, difference_own point e x n same)) (λ other. omega (arith, difference_other point e x n other, differ_nonzero x (point n) (d n (omega arith) other))) (cases_eq n e))
    (difference-lt point e x n h (b n (omega arith)))

-- ---- Lagrange's polynomials
-- each g e has r coefficients, and is 1 at the point e and 0 at the other points
pub record IsBasis (r : ℕ) (point : ℕ → ℕ) (g : ℕ → ℕ → ℕ) : Type 0 where
  pub polynomial : (e : ℕ) → e < r → IsPolynomial r (g e)
  pub one : (e : ℕ) → e < r → g e (point e) ≡ 1
  pub zero : (e m : ℕ) → e < r → m < r → m ≢ e → g e (point m) ≡ 0

-- the sum of the g e, each times a power of its point, is that power
pub interpolates : (r : ℕ) (point : ℕ → ℕ) (g : ℕ → ℕ → ℕ) → IsBasis r point g → ((m : ℕ) → m < r → point m < 256) → ((d e : ℕ) → d < e → e < r → point d ≢ point e) → (j : ℕ) → j < r → (x : ℕ) → x < 256 → power x j ≡ sum_over r (λ e. power (point e) j ⊗ g e x)
interpolates r point g basis b d j h x l =
    same_from_zero_sum (power x j) (sum_over r (λ e. power (point e) j ⊗ g e x))
    (IsPolynomial-roots r (λ y. power y j ⊕ sum_over r (λ e. power (point e) j ⊗ g e y)) point
    (IsPolynomial-sum r (λ y. power y j) (λ y. sum_over r (λ e. power (point e) j ⊗ g e y)) (IsPolynomial-power r j h)
    (IsPolynomial-sum_over r r (λ e y. power (point e) j ⊗ g e y) (λ e k. IsPolynomial-scaled r (power (point e) j) (g e) (power-lt (point e) j (b e k)) (basis.polynomial e k))))
    b d
    (λ m k.
    ap (λ v. power (point m) j ⊕ v)
    (sum_over-one_term r m (λ e. power (point e) j ⊗ g e (point m)) k
    (λ e i n. ap (λ v. power (point e) j ⊗ v) (basis.zero e m i k (λ s. n (sym s))) ∙ product-zero (power (point e) j))
    ∙ ap (λ v. power (point m) j ⊗ v) (basis.one m k) ∙ product-one (power (point m) j) (power-lt (point m) j (b m k)))
    ∙ xor_self (power (point m) j))
    x l)

-- ---- a polynomial over a code word
-- the sum over the positions of a polynomial's value there times the byte there is 0, where the syndromes are
vanishes : (n : ℕ) (c : ℕ → ℕ) → ((p : ℕ) → p < n → c p < 256) → (cs : List ℕ) (j : ℕ) → AreBytes cs → ((i : ℕ) → i < length cs → sum_over n (λ p. power 2 (p * (j + i)) ⊗ c p) ≡ 0) → sum_over n (λ p. (power 2 (p * j) ⊗ evaluated cs (power 2 p)) ⊗ c p) ≡ 0
vanishes n c b [] j h z =
    sum_over-zero n (λ p. (power 2 (p * j) ⊗ 0) ⊗ c p) (λ p k. ap (λ v. v ⊗ c p) (product-zero (power 2 (p * j))) ∙ zero-product (c p))
vanishes n c b (a ∷ cs) j h z =
    let two : (m : ℕ) → power 2 m < 256 = λ m. power-lt 2 m (omega arith) in
    let rest : sum_over n (λ p. (power 2 (p * suc j) ⊗ evaluated cs (power 2 p)) ⊗ c p) ≡ 0 =
    vanishes n c b cs (suc j) h.1 (λ i k. sum_over-same n (λ p. power 2 (p * (suc j + i)) ⊗ c p) (λ p. power 2 (p * (j + suc i)) ⊗ c p) (λ p l. ap (λ m. power 2 (p * m) ⊗ c p) (omega arith)) ∙ z (suc i) (omega arith)) in
    let first : sum_over n (λ p. power 2 (p * j) ⊗ c p) ≡ 0 =
    sum_over-same n (λ p. power 2 (p * j) ⊗ c p) (λ p. power 2 (p * (j + 0)) ⊗ c p) (λ p l. ap (λ m. power 2 (p * m) ⊗ c p) (sym (add-zero j))) ∙ z 0 (omega arith) in
    let term : (p : ℕ) → p < n → (power 2 (p * j) ⊗ evaluated (a ∷ cs) (power 2 p)) ⊗ c p ≡ (a ⊗ (power 2 (p * j) ⊗ c p)) ⊕ ((power 2 (p * suc j) ⊗ evaluated cs (power 2 p)) ⊗ c p) = λ p k.
    let w = power 2 (p * j) in
    let x = power 2 p in
    let v = evaluated cs x in
    let byte_v : v < 256 = evaluated-lt cs x h.1 (two p) in
    ap (λ s. s ⊗ c p) (product-right w a (x ⊗ v))
    ∙ product-left (w ⊗ a) (w ⊗ (x ⊗ v)) (c p)
    ∙ ap₂ ◌⊕◌
    (ap (λ s. s ⊗ c p) (product_comm w a (two (p * j)) h.0) ∙ product_assoc a w (c p) h.0 (two (p * j)) (b p k))
    (ap (λ s. s ⊗ c p)
    (sym (product_assoc w x v (two (p * j)) (two p) byte_v)
    ∙ ap (λ s. s ⊗ v) (sym (ap (power 2) (mul-suc p j) ∙ power-add 2 (p * j) p (omega arith))))) in
    sum_over-same n (λ p. (power 2 (p * j) ⊗ evaluated (a ∷ cs) (power 2 p)) ⊗ c p) (λ p. (a ⊗ (power 2 (p * j) ⊗ c p)) ⊕ ((power 2 (p * suc j) ⊗ evaluated cs (power 2 p)) ⊗ c p)) term
    ∙ sum_over-sum n (λ p. a ⊗ (power 2 (p * j) ⊗ c p)) (λ p. (power 2 (p * suc j) ⊗ evaluated cs (power 2 p)) ⊗ c p)
    ∙ ap₂ ◌⊕◌ (sym (product-sum_over a n (λ p. power 2 (p * j) ⊗ c p)) ∙ ap (λ s. a ⊗ s) first ∙ product-zero a) rest

pub polynomial_vanishes : (n r : ℕ) (c g : ℕ → ℕ) → ((p : ℕ) → p < n → c p < 256) → IsPolynomial r g → ((j : ℕ) → j < r → sum_over n (λ p. power 2 (p * j) ⊗ c p) ≡ 0) → sum_over n (λ p. g (power 2 p) ⊗ c p) ≡ 0
polynomial_vanishes n r c g b h z =
    let two : (m : ℕ) → power 2 m < 256 = λ m. power-lt 2 m (omega arith) in
    sum_over-same n (λ p. g (power 2 p) ⊗ c p) (λ p. (power 2 (p * 0) ⊗ evaluated h.coefficients (power 2 p)) ⊗ c p)
    (λ p k. ap (λ s. s ⊗ c p)
    (h.value (power 2 p) (two p)
    ∙ sym (ap (λ s. s ⊗ evaluated h.coefficients (power 2 p)) (ap (power 2) (mul-zero p) ∙ power-zero 2)
    ∙ one-product (evaluated h.coefficients (power 2 p)) (evaluated-lt h.coefficients (power 2 p) h.bytes (two p)))))
    ∙ vanishes n c b h.coefficients 0 h.bytes
    (λ i k. sum_over-same n (λ p. power 2 (p * (0 + i)) ⊗ c p) (λ p. power 2 (p * i) ⊗ c p) (λ p l. ap (λ m. power 2 (p * m) ⊗ c p) (omega arith)) ∙ z i (omega (arith, h.counted)))

-- ---- the factors of a split
-- Lagrange's polynomials for r distinct points
pub basis_of : (r : ℕ) (point : ℕ → ℕ) → ((m : ℕ) → m < r → point m < 256) → ((d e : ℕ) → d < r → e < r → d ≢ e → point d ≢ point e) → (g : ℕ → ℕ → ℕ) × IsBasis r point g × ((e x f : ℕ) → e < r → x < 256 → f < 256 → differences r point e (point e) ⊗ f ≡ differences r point e x → f ≡ g e x)
basis_of r point b d =
    let own : (e : ℕ) → ℕ = λ e. differences r point e (point e) in
    let own_byte : (e : ℕ) → e < r → own e < 256 = λ e k. differences-lt r point e (point e) (b e k) b in
    let own_some : (e : ℕ) → e < r → 0 < own e = λ e k. differences_own r point e (point e) (b e k) b (λ m l n. d e m k l (λ s. n (sym s))) in
    let turned : (e : ℕ) → (i : ℕ) × (e < r → (i < 256) × (own e ⊗ i ≡ 1)) = λ e. inverse_or_zero r own own_byte own_some e in
    let g : ℕ → ℕ → ℕ = λ e x. (turned e).0 ⊗ differences r point e x in
    let back : (e x : ℕ) → e < r → x < 256 → own e ⊗ g e x ≡ differences r point e x = λ e x k l.
    let i = (turned e).1 k in
    sym (product_assoc (own e) (turned e).0 (differences r point e x) (own_byte e k) i.0 (differences-lt r point e x l b))
    ∙ ap (λ v. v ⊗ differences r point e x) i.1 ∙ one-product (differences r point e x) (differences-lt r point e x l b) in
    let byte_g : (e x : ℕ) → e < r → x < 256 → g e x < 256 = λ e x k l. product-lt (turned e).0 (differences r point e x) ((turned e).1 k).0 (differences-lt r point e x l b) in (
      g,
      record {
        polynomial = λ e k. IsPolynomial-scaled r (turned e).0 (differences r point e) ((turned e).1 k).0 (differences_past r point e k b);
        one = λ e k. product_cancel (own e) (g e (point e)) 1 (own_some e k) (own_byte e k) (byte_g e (point e) k (b e k)) (omega arith) (back e (point e) k (b e k) ∙ sym (product-one (own e) (own_byte e k)));
        zero = λ e m k l n. ap (λ v. (turned e).0 ⊗ v) (differences_other r point e m l n) ∙ product-zero (turned e).0;
      },
      λ e x f k l q h. product_cancel (own e) f (g e x) (own_some e k) (own_byte e k) q (byte_g e x k l) (h ∙ sym (back e x k l)),
    )
  where
    inverse_or_zero : (r : ℕ) (own : ℕ → ℕ) → ((e : ℕ) → e < r → own e < 256) → ((e : ℕ) → e < r → 0 < own e) → (e : ℕ) → (i : ℕ) × (e < r → (i < 256) × (own e ⊗ i ≡ 1))
    inverse_or_zero r own byte some e =
        ⊎_elim (λ k. let i = inverse (own e) (some e k) (byte e k) in (i.0, λ _. (i.1, i.2))) (λ k. (0, λ l. absurd (omega arith))) (cases_lt e r)

-- ---- the loop over the lost positions
pub differences-more_other : (n : ℕ) (point : ℕ → ℕ) (e x : ℕ) → n ≢ e → differences (n + 1) point e x ≡ differences n point e x ⊗ (x ⊕ point n)
differences-more_other n point e x h = ap (λ k. differences k point e x) (add-one n) ∙ ap (λ v. differences n point e x ⊗ v) (difference_other point e x n h)

pub differences-more_own : (n : ℕ) (point : ℕ → ℕ) (e x : ℕ) → n ≡ e → x < 256 → ((m : ℕ) → m < n → point m < 256) → differences (n + 1) point e x ≡ differences n point e x
differences-more_own n point e x h k b =
    ap (λ k. differences k point e x) (add-one n) ∙ ap (λ v. differences n point e x ⊗ v) (difference_own point e x n h)
    ∙ product-one (differences n point e x) (differences-lt n point e x k b)

-- ascending numbers, some places apart
pub ascending_apart : (xs : List ℕ) → IsStrictlyIncreasing xs → (i j : ℕ) → i < j → j < length xs → get_or xs i 0 < get_or xs j 0
ascending_apart xs h i zero k l = absurd (omega arith)
ascending_apart xs h i (suc j) k l =
    let step : get_or xs j 0 < get_or xs (suc j) 0 = subst (λ n. get_or xs j 0 < get_or xs n 0) (add-one j) (h j (omega arith)) in
    ⊎_elim (λ below. omega (arith, ascending_apart xs h i j below (omega arith))) (λ here. let same : i ≡ j = omega arith in omega (arith, ap (λ n. get_or xs n 0) same)) (cases_lt i j)

pub own_differences : (lost : List ℕ) (e : ℕ) → IsStrictlyIncreasing lost → All (λ m. m < 255) lost → e < length lost → 0 < differences (length lost) (points (λ m. get_or lost m 0)) e (power 2 (get_or lost e 0))
own_differences lost e h b l =
    differences_own (length lost) (points (λ m. get_or lost m 0)) e (power 2 (get_or lost e 0)) (power-lt 2 (get_or lost e 0) (omega arith))
    (λ m _. power-lt 2 (get_or lost m 0) (omega arith))
    (λ m k n same.
    let equal : get_or lost e 0 ≡ get_or lost m 0 = powers_differ (get_or lost e 0) (get_or lost m 0) (b e 0 l) (b m 0 k) same in
    ⊎_elim n (⊎_elim (λ below. omega (arith, ascending_apart lost h m e below l)) (λ above. omega (arith, ascending_apart lost h e m above k))) (cases_order m e))

-- own times the quotient is the dividend
pub quotient_times : (own here turned : ℕ) → own < 256 → here < 256 → turned < 256 → own ⊗ turned ≡ 1 → own ⊗ (here ⊗ turned) ≡ here
quotient_times own here turned p q r h = product_swap own here turned p q r ∙ ap (λ v. here ⊗ v) h ∙ product-one here q
