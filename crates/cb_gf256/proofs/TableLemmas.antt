-- What each entry of the tables is, and what follows of the powers of 2.
use Rattle.std.proofs.Common.{◌≡◌, ℕ, zero, suc, ◌+◌, ◌-◌, ◌*◌, ◌/◌, ◌%◌, ◌<◌, Bool, true, ◌&&◌, eqb, ltb, refl, sym, ap, ◌∙◌, subst, inl, inr, arith, get_or}
use Rattle.std.proofs.lemmas.Bool.{and_parts, eqb-true, ltb-true, cases_eq}
use Rattle.cb_gf256.specs.Product.{◌⊗◌}
use Rattle.cb_gf256.specs.Power.{power}
use Rattle.cb_gf256.specs.declared.tables.TheConstants.{EXP, LOG}
use Rattle.cb_gf256.proofs.FieldLaws.{each_below, each_below_at, product_assoc, product_comm, product-zero}
use Rattle.cb_gf256.proofs.PowerLaws.{power-zero, power-suc, power-lt, power-add, power-mul, one-power, one-product}

doubled : each_below 509 (λ i. eqb (get_or EXP (suc i) 0) (2 ⊗ get_or EXP i 0)) ≡ true
unfolding ◌⊗◌
doubled = refl

pub exp_is : (i : ℕ) → i < 510 → get_or EXP i 0 ≡ power 2 i
exp_is zero h = sym (power-zero 2)
exp_is (suc i) h =
    eqb-true (get_or EXP (suc i) 0) (2 ⊗ get_or EXP i 0) (each_below_at 509 (λ i. eqb (get_or EXP (suc i) 0) (2 ⊗ get_or EXP i 0)) doubled i (omega arith))
    ∙ ap (λ x. 2 ⊗ x) (exp_is i (omega arith)) ∙ sym (power-suc 2 i)

-- the logarithm of a + 1 is below 255, and the power at that place is a + 1
abbrev logarithm_ok : ℕ → Bool
logarithm_ok a = ltb (get_or LOG (suc a) 0) 255 && eqb (get_or EXP (get_or LOG (suc a) 0) 0) (suc a)

logarithms : each_below 255 logarithm_ok ≡ true
logarithms = refl

logarithm_parts : (a : ℕ) → 0 < a → a < 256 → (get_or LOG a 0 < 255) × (get_or EXP (get_or LOG a 0) 0 ≡ a)
logarithm_parts zero p q = absurd (omega arith)
logarithm_parts (suc a) p q =
    let both = and_parts (ltb (get_or LOG (suc a) 0) 255) (eqb (get_or EXP (get_or LOG (suc a) 0) 0) (suc a)) (each_below_at 255 logarithm_ok logarithms a (omega arith)) in
    (ltb-true (get_or LOG (suc a) 0) 255 both.0, eqb-true (get_or EXP (get_or LOG (suc a) 0) 0) (suc a) both.1)

pub log-lt : (a : ℕ) → 0 < a → a < 256 → get_or LOG a 0 < 255
log-lt a p q = (logarithm_parts a p q).0

pub power-log : (a : ℕ) → 0 < a → a < 256 → power 2 (get_or LOG a 0) ≡ a
power-log a p q =
    let parts = logarithm_parts a p q in
    sym (exp_is (get_or LOG a 0) (omega (arith, parts.0))) ∙ parts.1

powers_apart : each_below 255 (λ i. eqb (get_or LOG (get_or EXP i 0) 0) i) ≡ true
powers_apart = refl

log-power : (i : ℕ) → i < 255 → get_or LOG (power 2 i) 0 ≡ i
log-power i h =
    ap (λ x. get_or LOG x 0) (sym (exp_is i (omega arith)))
    ∙ eqb-true (get_or LOG (get_or EXP i 0) 0) i (each_below_at 255 (λ i. eqb (get_or LOG (get_or EXP i 0) 0) i) powers_apart i h)

-- ---- a product with a power of 2
log_of_zero : get_or LOG 0 0 ≡ 510
log_of_zero = refl

zeros : each_below 255 (λ i. eqb (get_or EXP (510 + i) 0) 0) ≡ true
zeros = refl

pub power_times_is : (i x : ℕ) → i < 255 → x < 256 → get_or EXP (i + get_or LOG x 0) 0 ≡ power 2 i ⊗ x
power_times_is i zero h k =
    let place : i + get_or LOG 0 0 ≡ 510 + i = omega (arith, log_of_zero) in
    ap (λ n. get_or EXP n 0) place
    ∙ eqb-true (get_or EXP (510 + i) 0) 0 (each_below_at 255 (λ i. eqb (get_or EXP (510 + i) 0) 0) zeros i h)
    ∙ sym (product-zero (power 2 i))
power_times_is i (suc x) h k =
    let l = get_or LOG (suc x) 0 in
    exp_is (i + l) (omega (arith, log-lt (suc x) (omega arith) k)) ∙ power-add 2 i l (omega arith)
    ∙ ap (λ y. power 2 i ⊗ y) (power-log (suc x) (omega arith) k)

pub power_times_within : (i x : ℕ) → i < 255 → x < 256 → i + get_or LOG x 0 < 765
power_times_within i zero h k = omega (arith, log_of_zero)
power_times_within i (suc x) h k = omega (arith, log-lt (suc x) (omega arith) k)

-- ---- the powers of 2
pub power_two_255 : power 2 255 ≡ 1
power_two_255 = sym (exp_is 255 (omega arith))

pub powers_differ : (i j : ℕ) → i < 255 → j < 255 → power 2 i ≡ power 2 j → i ≡ j
powers_differ i j p q e = sym (log-power i p) ∙ ap (λ x. get_or LOG x 0) e ∙ log-power j q

pub generated : (a : ℕ) → 0 < a → a < 256 → (i : ℕ) × (i < 255) × (power 2 i ≡ a)
generated a p q = (get_or LOG a 0, log-lt a p q, power-log a p q)

pub power_two-mod : (n : ℕ) → power 2 n ≡ power 2 (n % 255)
power_two-mod n =
    let split : n ≡ 255 * (n / 255) + n % 255 = omega arith in
    ap (power 2) split ∙ power-add 2 (255 * (n / 255)) (n % 255) (omega arith)
    ∙ ap (λ x. x ⊗ power 2 (n % 255)) (power-mul 2 255 (n / 255) (omega arith) ∙ ap (λ x. power x (n / 255)) power_two_255 ∙ one-power (n / 255))
    ∙ one-product (power 2 (n % 255)) (power-lt 2 (n % 255) (omega arith))

-- ---- inverses
pub inverse_from_power : (a i : ℕ) → i < 255 → power 2 i ≡ a → a ⊗ power 2 (255 - i) ≡ 1
inverse_from_power a i h e =
    let whole : i + (255 - i) ≡ 255 = omega arith in
    ap (λ x. x ⊗ power 2 (255 - i)) (sym e) ∙ sym (power-add 2 i (255 - i) (omega arith)) ∙ ap (power 2) whole ∙ power_two_255

pub inverse : (a : ℕ) → 0 < a → a < 256 → (b : ℕ) × (b < 256) × (a ⊗ b ≡ 1)
inverse a p q =
    let g = generated a p q in
    (power 2 (255 - g.0), power-lt 2 (255 - g.0) (omega arith), inverse_from_power a g.0 g.1 g.2)

-- a factor that has an inverse can be undone
pub product_cancel : (a b c : ℕ) → 0 < a → a < 256 → b < 256 → c < 256 → a ⊗ b ≡ a ⊗ c → b ≡ c
product_cancel a b c p q r s e =
    let i = inverse a p q in
    let back : (x : ℕ) → x < 256 → i.0 ⊗ (a ⊗ x) ≡ x =
    λ x k. sym (product_assoc i.0 a x i.1 q k) ∙ ap (λ y. y ⊗ x) (product_comm i.0 a i.1 q ∙ i.2) ∙ one-product x k in
    sym (back b r) ∙ ap (λ x. i.0 ⊗ x) e ∙ back c s

pub product_nonzero : (a b : ℕ) → 0 < a → a < 256 → 0 < b → b < 256 → 0 < a ⊗ b
product_nonzero a b p q r s =
    elim (cases_eq (a ⊗ b) 0) [
      | inl z ↦ absurd (omega (arith, product_cancel a b 0 p q s (omega arith) (z ∙ sym (product-zero a))))
      | inr n ↦ omega arith
    ]

pub power_nonzero : (a n : ℕ) → 0 < a → a < 256 → 0 < power a n
power_nonzero a zero p q = omega (arith, power-zero a)
power_nonzero a (suc n) p q =
    subst (λ x. 0 < x) (sym (power-suc a n)) (product_nonzero a (power a n) p q (power_nonzero a n p q) (power-lt a n q))
