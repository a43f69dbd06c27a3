-- A function that takes sums to sums is known by its values at the powers of 2.
use Rattle.std.proofs.Common.{◌≡◌, ℕ, zero, suc, ◌+◌, ◌-◌, ◌*◌, ◌%◌, ◌^◌, ◌<◌, ◌≤◌, refl, sym, ap, ap₂, ◌∙◌, ⊎_elim, arith, [], ◌∷◌, List, fold}
use Rattle.std.specs.Int.{bit_at}
use Rattle.std.proofs.lemmas.Bool.{cases_lt}
use Rattle.std.proofs.lemmas.Nat.Bits.{bit_at-lt, bit_at_xor}
use Rattle.std.proofs.lemmas.Nat.{xor_block}
use Rattle.std.proofs.lemmas.Nat.{pow_pos}
use Rattle.std.proofs.Math.Nat.{pow-suc, zero-mul, one-mul, add-zero}
use lib.Bits.{xor_shifted, xor_self, xor_assoc, xor_comm, xor_zero_r}
use Rattle.cb_gf256.specs.Sum.{◌⊕◌, sum_over}
use Rattle.cb_gf256.specs.Product.{◌⊗◌, plain_product, bit_reduced, reduced}

-- f of a sum is the sum of its values
pub record IsLinear (f : ℕ → ℕ) : Type 0 where
  pub adds : (a b : ℕ) → f (a ⊕ b) ≡ f a ⊕ f b

pub linear_at_zero : (f : ℕ → ℕ) → IsLinear f → f 0 ≡ 0
linear_at_zero f h = h.adds 0 0 ∙ xor_self (f 0)

-- the highest bit and the rest
top_bit : (n a : ℕ) → a < 2 ^ suc n → 2 ^ n ≤ a → (b : ℕ) × (b < 2 ^ n) × (a ≡ 2 ^ n ⊕ b)
top_bit n a h k =
    let double : 2 ^ suc n ≡ 2 ^ n * 2 = pow-suc 2 n in
    let low : a - 2 ^ n < 2 ^ n = omega arith in
    let one : 1 * 2 ^ n ≡ 2 ^ n = omega arith in
    (a - 2 ^ n, low, sym (ap (λ p. p ⊕ (a - 2 ^ n)) (sym one) ∙ xor_shifted 1 n (a - 2 ^ n) low ∙ omega arith))

-- two linear functions that agree at the powers of 2 below 2 ^ n agree at each number below 2 ^ n
pub same_from_powers : (f g : ℕ → ℕ) → IsLinear f → IsLinear g → (n : ℕ) → ((i : ℕ) → i < n → f (2 ^ i) ≡ g (2 ^ i)) → (a : ℕ) → a < 2 ^ n → f a ≡ g a
same_from_powers f g hf hg zero e a h =
    let z : a ≡ 0 = omega arith in
    ap f z ∙ linear_at_zero f hf ∙ sym (linear_at_zero g hg) ∙ ap g (sym z)
same_from_powers f g hf hg (suc n) e a h =
    let below = same_from_powers f g hf hg n (λ i k. e i (omega arith)) in
    ⊎_elim (λ k. below a k)
    (λ k.
    let t = top_bit n a h k in
    ap f t.2 ∙ hf.adds (2 ^ n) t.0 ∙ ap₂ ◌⊕◌ (e n (omega arith)) (below t.0 t.1) ∙ sym (hg.adds (2 ^ n) t.0) ∙ ap g (sym t.2))
    (cases_lt a (2 ^ n))

-- four terms, the inner two exchanged
pub sum_exchange : (a b c d : ℕ) → (a ⊕ b) ⊕ (c ⊕ d) ≡ (a ⊕ c) ⊕ (b ⊕ d)
sum_exchange a b c d =
    xor_assoc a b (c ⊕ d)
    ∙ ap (λ x. a ⊕ x) (sym (xor_assoc b c d) ∙ ap (λ x. x ⊕ d) (xor_comm b c) ∙ xor_assoc c b d)
    ∙ sym (xor_assoc a c (b ⊕ d))

pub sum_over-sum : (n : ℕ) (f g : ℕ → ℕ) → sum_over n (λ i. f i ⊕ g i) ≡ sum_over n f ⊕ sum_over n g
sum_over-sum zero f g = refl
sum_over-sum (suc n) f g =
    ap (λ x. x ⊕ (f n ⊕ g n)) (sum_over-sum n f g) ∙ sum_exchange (sum_over n f) (sum_over n g) (f n) (g n)

pub sum_over-same : (n : ℕ) (f g : ℕ → ℕ) → ((i : ℕ) → i < n → f i ≡ g i) → sum_over n f ≡ sum_over n g
sum_over-same zero f g h = refl
sum_over-same (suc n) f g h = ap₂ ◌⊕◌ (sum_over-same n f g (λ i k. h i (omega arith))) (h n (omega arith))

-- one bit, times a number, is linear in the bit
bit_times : (x y m : ℕ) → x < 2 → y < 2 → (x + y) % 2 * m ≡ x * m ⊕ y * m
bit_times zero zero m p q = zero-mul m ∙ sym (ap₂ ◌⊕◌ (zero-mul m) (zero-mul m))
bit_times zero (suc zero) m p q = sym (ap (λ x. x ⊕ 1 * m) (zero-mul m))
bit_times (suc zero) zero m p q = sym (ap (λ x. 1 * m ⊕ x) (zero-mul m) ∙ xor_zero_r (1 * m))
bit_times (suc zero) (suc zero) m p q = zero-mul m ∙ sym (xor_self (1 * m))
bit_times x (suc (suc y)) m p q = absurd (omega arith)
bit_times (suc (suc x)) y m p q = absurd (omega arith)

pub bit_at-sum : (a b i m : ℕ) → bit_at (a ⊕ b) i * m ≡ bit_at a i * m ⊕ bit_at b i * m
bit_at-sum a b i m = ap (λ x. x * m) (bit_at_xor a b i) ∙ bit_times (bit_at a i) (bit_at b i) m (bit_at-lt a i) (bit_at-lt b i)

pub shifted-sum : (a b i : ℕ) → (a ⊕ b) * 2 ^ i ≡ a * 2 ^ i ⊕ b * 2 ^ i
shifted-sum a b i = sym (ap₂ ◌⊕◌ (sym (add-zero (a * 2 ^ i))) (sym (add-zero (b * 2 ^ i))) ∙ xor_block i a b 0 0 (pow_pos i) (pow_pos i) ∙ add-zero ((a ⊕ b) * 2 ^ i))

times_bit : (x m n : ℕ) → x < 2 → x * (m ⊕ n) ≡ x * m ⊕ x * n
times_bit zero m n h = zero-mul (m ⊕ n) ∙ sym (ap₂ ◌⊕◌ (zero-mul m) (zero-mul n))
times_bit (suc zero) m n h = one-mul (m ⊕ n) ∙ sym (ap₂ ◌⊕◌ (one-mul m) (one-mul n))
times_bit (suc (suc x)) m n h = absurd (omega arith)

-- the plain product is linear in each factor
plain-left : (a b c : ℕ) → plain_product (a ⊕ b) c ≡ plain_product a c ⊕ plain_product b c
plain-left a b c =
    sum_over-same 8 (λ i. bit_at c i * ((a ⊕ b) * 2 ^ i)) (λ i. bit_at c i * (a * 2 ^ i) ⊕ bit_at c i * (b * 2 ^ i))
    (λ i _. ap (λ x. bit_at c i * x) (shifted-sum a b i) ∙ times_bit (bit_at c i) (a * 2 ^ i) (b * 2 ^ i) (bit_at-lt c i))
    ∙ sum_over-sum 8 (λ i. bit_at c i * (a * 2 ^ i)) (λ i. bit_at c i * (b * 2 ^ i))

plain-right : (a b c : ℕ) → plain_product a (b ⊕ c) ≡ plain_product a b ⊕ plain_product a c
plain-right a b c =
    sum_over-same 8 (λ i. bit_at (b ⊕ c) i * (a * 2 ^ i)) (λ i. bit_at b i * (a * 2 ^ i) ⊕ bit_at c i * (a * 2 ^ i))
    (λ i _. bit_at-sum b c i (a * 2 ^ i))
    ∙ sum_over-sum 8 (λ i. bit_at b i * (a * 2 ^ i)) (λ i. bit_at c i * (a * 2 ^ i))

-- to reduce a bit is linear, and so is to reduce several, one after another
bit_reduced-sum : (p q i : ℕ) → bit_reduced (p ⊕ q) i ≡ bit_reduced p i ⊕ bit_reduced q i
bit_reduced-sum p q i =
    let m = 0x11D * 2 ^ (i - 8) in
    ap (λ x. (p ⊕ q) ⊕ x) (bit_at-sum p q i m) ∙ sum_exchange p q (bit_at p i * m) (bit_at q i * m)

bits_reduced-sum : (is : List ℕ) (p q : ℕ) → fold bit_reduced (p ⊕ q) is ≡ fold bit_reduced p is ⊕ fold bit_reduced q is
bits_reduced-sum [] p q = refl
bits_reduced-sum (i ∷ is) p q =
    ap (λ x. fold bit_reduced x is) (bit_reduced-sum p q i) ∙ bits_reduced-sum is (bit_reduced p i) (bit_reduced q i)

reduced-sum : (p q : ℕ) → reduced (p ⊕ q) ≡ reduced p ⊕ reduced q
reduced-sum = bits_reduced-sum (14 ∷ 13 ∷ 12 ∷ 11 ∷ 10 ∷ 9 ∷ 8 ∷ [])

-- the product is linear in each factor
pub product-left : (a b c : ℕ) → (a ⊕ b) ⊗ c ≡ (a ⊗ c) ⊕ (b ⊗ c)
unfolding ◌⊗◌
product-left a b c = ap reduced (plain-left a b c) ∙ reduced-sum (plain_product a c) (plain_product b c)

pub product-right : (a b c : ℕ) → a ⊗ (b ⊕ c) ≡ (a ⊗ b) ⊕ (a ⊗ c)
unfolding ◌⊗◌
product-right a b c = ap reduced (plain-right a b c) ∙ reduced-sum (plain_product a b) (plain_product a c)
