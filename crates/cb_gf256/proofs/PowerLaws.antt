-- The laws of powers.
use Rattle.std.proofs.Common.{◌≡◌, ℕ, zero, suc, ◌+◌, ◌*◌, ◌<◌, refl, sym, ap, ap₂, ◌∙◌, arith, add-one}
use Rattle.std.proofs.Math.Nat.{zero-add, suc-add, mul-zero, mul-suc, add_comm}
use Rattle.cb_gf256.specs.Product.{◌⊗◌}
use Rattle.cb_gf256.specs.Power.{power}
use Rattle.cb_gf256.proofs.FieldLaws.{product-lt, product-one, product_comm, product_assoc, zero-product}

pub power-zero : (a : ℕ) → power a 0 ≡ 1
unfolding power
power-zero a = refl

pub power-suc : (a n : ℕ) → power a (suc n) ≡ a ⊗ power a n
unfolding power
power-suc a n = refl

pub power-add-one : (a n : ℕ) → power a (n + 1) ≡ a ⊗ power a n
power-add-one a n = ap (power a) (add-one n) ∙ power-suc a n

pub power-lt : (a n : ℕ) → a < 256 → power a n < 256
unfolding power
power-lt a zero h = omega arith
power-lt a (suc n) h = product-lt a (power a n) h (power-lt a n h)

pub one-product : (a : ℕ) → a < 256 → 1 ⊗ a ≡ a
one-product a h = product_comm 1 a (omega arith) h ∙ product-one a h

-- four factors, the inner two exchanged
pub product_exchange : (a b c d : ℕ) → a < 256 → b < 256 → c < 256 → d < 256 → (a ⊗ b) ⊗ (c ⊗ d) ≡ (a ⊗ c) ⊗ (b ⊗ d)
product_exchange a b c d p q r s =
    product_assoc a b (c ⊗ d) p q (product-lt c d r s)
    ∙ ap (λ x. a ⊗ x) (sym (product_assoc b c d q r s) ∙ ap (λ x. x ⊗ d) (product_comm b c q r) ∙ product_assoc c b d r q s)
    ∙ sym (product_assoc a c (b ⊗ d) p r (product-lt b d q s))

pub power-add : (a m n : ℕ) → a < 256 → power a (m + n) ≡ power a m ⊗ power a n
power-add a zero n h = ap (power a) (zero-add n) ∙ sym (ap (λ x. x ⊗ power a n) (power-zero a) ∙ one-product (power a n) (power-lt a n h))
power-add a (suc m) n h =
    ap (power a) (suc-add m n) ∙ power-suc a (m + n) ∙ ap (λ x. a ⊗ x) (power-add a m n h)
    ∙ sym (product_assoc a (power a m) (power a n) h (power-lt a m h) (power-lt a n h))
    ∙ ap (λ x. x ⊗ power a n) (sym (power-suc a m))

pub power-product : (a b n : ℕ) → a < 256 → b < 256 → power (a ⊗ b) n ≡ power a n ⊗ power b n
power-product a b zero p q =
    power-zero (a ⊗ b) ∙ sym (ap₂ ◌⊗◌ (power-zero a) (power-zero b) ∙ product-one 1 (omega arith))
power-product a b (suc n) p q =
    power-suc (a ⊗ b) n ∙ ap (λ x. (a ⊗ b) ⊗ x) (power-product a b n p q)
    ∙ product_exchange a b (power a n) (power b n) p q (power-lt a n p) (power-lt b n q)
    ∙ sym (ap₂ ◌⊗◌ (power-suc a n) (power-suc b n))

pub power-mul : (a m n : ℕ) → a < 256 → power a (m * n) ≡ power (power a m) n
power-mul a m zero h = ap (power a) (mul-zero m) ∙ power-zero a ∙ sym (power-zero (power a m))
power-mul a m (suc n) h =
    ap (power a) (mul-suc m n ∙ add_comm (m * n) m) ∙ power-add a m (m * n) h ∙ ap (λ x. power a m ⊗ x) (power-mul a m n h) ∙ sym (power-suc (power a m) n)

pub one-power : (n : ℕ) → power 1 n ≡ 1
one-power zero = power-zero 1
one-power (suc n) = power-suc 1 n ∙ ap (λ x. 1 ⊗ x) (one-power n) ∙ product-one 1 (omega arith)

pub zero-power : (n : ℕ) → 0 < n → power 0 n ≡ 0
zero-power zero h = absurd (omega arith)
zero-power (suc n) h = power-suc 0 n ∙ zero-product (power 0 n)
