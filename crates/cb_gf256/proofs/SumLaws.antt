-- Sums over positions.
use Rattle.std.proofs.Common.{◌≡◌, ℕ, zero, suc, ◌+◌, ◌<◌, refl, sym, ap, ap₂, ◌∙◌, ◌≢◌, ⊎_elim, arith}
use Rattle.std.proofs.Math.Nat.{add-zero, add-suc}
use Rattle.std.proofs.lemmas.Bool.{cases_eq}
use lib.Bits.{xor_zero_r, xor_assoc}
use Rattle.cb_gf256.specs.Sum.{◌⊕◌, sum_over}
use Rattle.cb_gf256.specs.Product.{◌⊗◌}
use Rattle.cb_gf256.proofs.Linear.{product-left, product-right, sum_over-sum}
use Rattle.cb_gf256.proofs.FieldLaws.{product-zero, zero-product, sum-lt}

pub sum_over-lt : (n : ℕ) (f : ℕ → ℕ) → ((i : ℕ) → i < n → f i < 256) → sum_over n f < 256
sum_over-lt zero f h = omega arith
sum_over-lt (suc n) f h = sum-lt (sum_over n f) (f n) (sum_over-lt n f (λ i k. h i (omega arith))) (h n (omega arith))

pub sum_over-zero : (n : ℕ) (f : ℕ → ℕ) → ((i : ℕ) → i < n → f i ≡ 0) → sum_over n f ≡ 0
sum_over-zero zero f h = refl
sum_over-zero (suc n) f h = ap₂ ◌⊕◌ (sum_over-zero n f (λ i k. h i (omega arith))) (h n (omega arith))

pub product-sum_over : (a n : ℕ) (f : ℕ → ℕ) → a ⊗ sum_over n f ≡ sum_over n (λ i. a ⊗ f i)
product-sum_over a zero f = product-zero a
product-sum_over a (suc n) f = product-right a (sum_over n f) (f n) ∙ ap (λ x. x ⊕ (a ⊗ f n)) (product-sum_over a n f)

pub sum_over-product : (n : ℕ) (f : ℕ → ℕ) (b : ℕ) → sum_over n f ⊗ b ≡ sum_over n (λ i. f i ⊗ b)
sum_over-product zero f b = zero-product b
sum_over-product (suc n) f b = product-left (sum_over n f) (f n) b ∙ ap (λ x. x ⊕ (f n ⊗ b)) (sum_over-product n f b)

pub sum_over-swap : (m n : ℕ) (f : ℕ → ℕ → ℕ) → sum_over m (λ i. sum_over n (f i)) ≡ sum_over n (λ j. sum_over m (λ i. f i j))
sum_over-swap zero n f = sym (sum_over-zero n (λ j. 0) (λ j h. refl))
sum_over-swap (suc m) n f =
    ap (λ x. x ⊕ sum_over n (f m)) (sum_over-swap m n f) ∙ sym (sum_over-sum n (λ j. sum_over m (λ i. f i j)) (f m))

pub sum_over-add : (m n : ℕ) (f : ℕ → ℕ) → sum_over (m + n) f ≡ sum_over m f ⊕ sum_over n (λ i. f (m + i))
sum_over-add m zero f = ap (λ k. sum_over k f) (add-zero m) ∙ sym (xor_zero_r (sum_over m f))
sum_over-add m (suc n) f =
    ap (λ k. sum_over k f) (add-suc m n) ∙ ap (λ x. x ⊕ f (m + n)) (sum_over-add m n f)
    ∙ xor_assoc (sum_over m f) (sum_over n (λ i. f (m + i))) (f (m + n))

-- a sum with one term that is not 0 is that term
pub sum_over-one_term : (n i : ℕ) (f : ℕ → ℕ) → i < n → ((j : ℕ) → j < n → j ≢ i → f j ≡ 0) → sum_over n f ≡ f i
sum_over-one_term zero i f h z = absurd (omega arith)
sum_over-one_term (suc n) i f h z =
    ⊎_elim
    (λ same.
    ap (λ x. x ⊕ f n) (sum_over-zero n f (λ j k. z j (omega arith) (omega arith))) ∙ ap f (sym same))
    (λ other.
    ap₂ ◌⊕◌ (sum_over-one_term n i f (omega arith) (λ j k e. z j (omega arith) e)) (z n (omega arith) (λ e. other (sym e)))
    ∙ xor_zero_r (f i))
    (cases_eq i n)
