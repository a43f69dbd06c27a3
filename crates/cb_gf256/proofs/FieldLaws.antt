-- The laws of the field. Each is a fact on linear functions, so it is enough to compute it at the powers of 2.
use Rattle.std.proofs.Common.{◌≡◌, ℕ, zero, suc, ◌/◌, ◌^◌, ◌<◌, Bool, true, ◌&&◌, eqb, refl, sym, ap, ◌∙◌, ⊎_elim, arith}
use lib.Bits.{xor_self, xor_assoc, xor_zero_r}
use Rattle.std.proofs.lemmas.Bool.{and_parts, eqb-true, cases_order}
use Rattle.std.proofs.lemmas.Nat.{xor_shr, xor_lt}
use Rattle.cb_gf256.specs.Sum.{◌⊕◌}
use Rattle.cb_gf256.specs.Product.{◌⊗◌}
use Rattle.cb_gf256.proofs.Linear.{IsLinear, linear_at_zero, same_from_powers, product-left, product-right}

-- p passes at each number below n; at a written-out n it computes
abbrev pub each_below : ℕ → (ℕ → Bool) → Bool
each_below zero p = true
each_below (suc n) p = p n && each_below n p

pub each_below_at : (n : ℕ) (p : ℕ → Bool) → each_below n p ≡ true → (i : ℕ) → i < n → p i ≡ true
each_below_at zero p h i k = absurd (omega arith)
each_below_at (suc n) p h i k =
    let both = and_parts (p n) (each_below n p) h in
    ⊎_elim (λ e. ap p e ∙ both.0) (⊎_elim (λ l. each_below_at n p both.1 i l) (λ g. absurd (omega arith))) (cases_order i n)

pub left_is_linear : (b : ℕ) → IsLinear (λ a. a ⊗ b)
left_is_linear b = record { adds = λ x y. product-left x y b }

pub right_is_linear : (a : ℕ) → IsLinear (λ b. a ⊗ b)
right_is_linear a = record { adds = λ x y. product-right a x y }

-- two functions that are linear in both arguments agree on bytes where they agree at the powers of 2
same_from_pairs : (f g : ℕ → ℕ → ℕ) → ((b : ℕ) → IsLinear (λ a. f a b)) → ((a : ℕ) → IsLinear (f a)) → ((b : ℕ) → IsLinear (λ a. g a b)) → ((a : ℕ) → IsLinear (g a)) → ((i j : ℕ) → i < 8 → j < 8 → f (2 ^ i) (2 ^ j) ≡ g (2 ^ i) (2 ^ j)) → (a b : ℕ) → a < 256 → b < 256 → f a b ≡ g a b
same_from_pairs f g fl fr gl gr e a b p q =
    same_from_powers (f a) (g a) (fr a) (gr a) 8
    (λ j k. same_from_powers (λ x. f x (2 ^ j)) (λ x. g x (2 ^ j)) (fl (2 ^ j)) (gl (2 ^ j)) 8 (λ i l. e i j l k) a p)
    b q

pub product-zero : (a : ℕ) → a ⊗ 0 ≡ 0
product-zero a = linear_at_zero (λ b. a ⊗ b) (right_is_linear a)

pub zero-product : (b : ℕ) → 0 ⊗ b ≡ 0
zero-product b = linear_at_zero (λ a. a ⊗ b) (left_is_linear b)

id_is_linear : IsLinear (λ a. a)
id_is_linear = record { adds = λ x y. refl }

zero_is_linear : IsLinear (λ a. 0)
zero_is_linear = record { adds = λ x y. refl }

ones : each_below 8 (λ i. eqb (2 ^ i ⊗ 1) (2 ^ i)) ≡ true
unfolding ◌⊗◌
ones = refl

pub product-one : (a : ℕ) → a < 256 → a ⊗ 1 ≡ a
product-one a h =
    same_from_powers (λ x. x ⊗ 1) (λ x. x) (left_is_linear 1) id_is_linear 8
    (λ i k. eqb-true (2 ^ i ⊗ 1) (2 ^ i) (each_below_at 8 (λ j. eqb (2 ^ j ⊗ 1) (2 ^ j)) ones i k)) a h

turned : each_below 8 (λ i. each_below 8 (λ j. eqb (2 ^ i ⊗ 2 ^ j) (2 ^ j ⊗ 2 ^ i))) ≡ true
unfolding ◌⊗◌
turned = refl

pub product_comm : (a b : ℕ) → a < 256 → b < 256 → a ⊗ b ≡ b ⊗ a
product_comm =
    same_from_pairs (λ a b. a ⊗ b) (λ a b. b ⊗ a) left_is_linear right_is_linear right_is_linear left_is_linear
    (λ i j k l. eqb-true (2 ^ i ⊗ 2 ^ j) (2 ^ j ⊗ 2 ^ i)
    (each_below_at 8 (λ y. eqb (2 ^ i ⊗ 2 ^ y) (2 ^ y ⊗ 2 ^ i))
    (each_below_at 8 (λ x. each_below 8 (λ y. eqb (2 ^ x ⊗ 2 ^ y) (2 ^ y ⊗ 2 ^ x))) turned i k) j l))

regrouped : each_below 8 (λ i. each_below 8 (λ j. each_below 8 (λ k. eqb ((2 ^ i ⊗ 2 ^ j) ⊗ 2 ^ k) (2 ^ i ⊗ (2 ^ j ⊗ 2 ^ k))))) ≡ true
unfolding ◌⊗◌
regrouped = refl

regrouped_at : (i j k : ℕ) → i < 8 → j < 8 → k < 8 → (2 ^ i ⊗ 2 ^ j) ⊗ 2 ^ k ≡ 2 ^ i ⊗ (2 ^ j ⊗ 2 ^ k)
regrouped_at i j k p q r =
    eqb-true ((2 ^ i ⊗ 2 ^ j) ⊗ 2 ^ k) (2 ^ i ⊗ (2 ^ j ⊗ 2 ^ k))
    (each_below_at 8 (λ z. eqb ((2 ^ i ⊗ 2 ^ j) ⊗ 2 ^ z) (2 ^ i ⊗ (2 ^ j ⊗ 2 ^ z)))
    (each_below_at 8 (λ y. each_below 8 (λ z. eqb ((2 ^ i ⊗ 2 ^ y) ⊗ 2 ^ z) (2 ^ i ⊗ (2 ^ y ⊗ 2 ^ z))))
    (each_below_at 8 (λ x. each_below 8 (λ y. each_below 8 (λ z. eqb ((2 ^ x ⊗ 2 ^ y) ⊗ 2 ^ z) (2 ^ x ⊗ (2 ^ y ⊗ 2 ^ z))))) regrouped i p) j q) k r)

-- a linear function of a linear function
after_is_linear : (f g : ℕ → ℕ) → IsLinear f → IsLinear g → IsLinear (λ a. f (g a))
after_is_linear f g hf hg = record { adds = λ x y. ap f (hg.adds x y) ∙ hf.adds (g x) (g y) }

pub product_assoc : (a b c : ℕ) → a < 256 → b < 256 → c < 256 → (a ⊗ b) ⊗ c ≡ a ⊗ (b ⊗ c)
product_assoc a b c p q r =
    same_from_powers (λ z. (a ⊗ b) ⊗ z) (λ z. a ⊗ (b ⊗ z)) (right_is_linear (a ⊗ b))
    (after_is_linear (λ z. a ⊗ z) (λ z. b ⊗ z) (right_is_linear a) (right_is_linear b)) 8
    (λ k l. same_from_pairs (λ x y. (x ⊗ y) ⊗ 2 ^ k) (λ x y. x ⊗ (y ⊗ 2 ^ k))
    (λ y. after_is_linear (λ z. z ⊗ 2 ^ k) (λ x. x ⊗ y) (left_is_linear (2 ^ k)) (left_is_linear y))
    (λ x. after_is_linear (λ z. z ⊗ 2 ^ k) (λ y. x ⊗ y) (left_is_linear (2 ^ k)) (right_is_linear x))
    (λ y. left_is_linear (y ⊗ 2 ^ k))
    (λ x. after_is_linear (λ z. x ⊗ z) (λ y. y ⊗ 2 ^ k) (right_is_linear x) (left_is_linear (2 ^ k)))
    (λ i j m n. regrouped_at i j k m n l) a b p q)
    c r

-- what is left of a product above its eight low bits is linear too, and 0 at the powers of 2
high_is_linear : IsLinear (λ p. p / 2 ^ 8)
high_is_linear = record { adds = λ x y. xor_shr x y 8 }

narrow : each_below 8 (λ i. each_below 8 (λ j. eqb (2 ^ i ⊗ 2 ^ j / 2 ^ 8) 0)) ≡ true
unfolding ◌⊗◌
narrow = refl

pub product-lt : (a b : ℕ) → a < 256 → b < 256 → a ⊗ b < 256
product-lt a b p q =
    let high : (a ⊗ b) / 2 ^ 8 ≡ 0 =
    same_from_pairs (λ x y. x ⊗ y / 2 ^ 8) (λ x y. 0)
    (λ y. after_is_linear (λ p. p / 2 ^ 8) (λ x. x ⊗ y) high_is_linear (left_is_linear y))
    (λ x. after_is_linear (λ p. p / 2 ^ 8) (λ y. x ⊗ y) high_is_linear (right_is_linear x))
    (λ y. zero_is_linear) (λ x. zero_is_linear)
    (λ i j k l. eqb-true (2 ^ i ⊗ 2 ^ j / 2 ^ 8) 0
    (each_below_at 8 (λ y. eqb (2 ^ i ⊗ 2 ^ y / 2 ^ 8) 0)
    (each_below_at 8 (λ x. each_below 8 (λ y. eqb (2 ^ x ⊗ 2 ^ y / 2 ^ 8) 0)) narrow i k) j l))
    a b p q in
    omega arith

pub sum-lt : (a b : ℕ) → a < 256 → b < 256 → a ⊕ b < 256
sum-lt a b p q = xor_lt 8 a b p q

pub same_from_zero_sum : (a b : ℕ) → a ⊕ b ≡ 0 → a ≡ b
same_from_zero_sum a b h =
    sym (xor_zero_r a) ∙ ap (λ x. a ⊕ x) (sym (xor_self b)) ∙ sym (xor_assoc a b b) ∙ ap (λ x. x ⊕ b) h
