-- A syndrome by Horner's rule, from the last row to the first.
use Rattle.std.proofs.Common.{◌≡◌, ℕ, zero, suc, ◌+◌, ◌-◌, ◌*◌, ◌<◌, ◌≤◌, List, [], ◌∷◌, length, get_or, refl, sym, ap, ap₂, ◌∙◌, arith}
use Rattle.std.proofs.Math.Nat.{mul_comm}
use Rattle.cb_gf256.specs.Sum.{◌⊕◌, sum_over}
use Rattle.cb_gf256.specs.Product.{◌⊗◌}
use Rattle.cb_gf256.specs.Power.{power}
use Rattle.cb_gf256.specs.Rows.{byte_at, HaveLength, HoldBytes}
use Rattle.cb_gf256.specs.Lanes.{HasLanes}
use Rattle.cb_gf256.specs.CodeWord.{syndrome}
use Rattle.cb_gf256.proofs.PublicLaws.{sum_over_same, sum_over_splits, product_with_sum_over, product_associates, one_with_product, power_is_byte, power_of_none, power_of_one_more, power_at_product, sum_commutes, sum_with_zero}

zero_xor : (a : ℕ) → 0 ⊕ a ≡ a
zero_xor a = sum_commutes 0 a ∙ sum_with_zero a

-- the sum over the last i rows, each times its power of c
abbrev pub sum_of_last : ℕ → ℕ → List (List ℕ) → ℕ → ℕ
sum_of_last i c rows column = sum_over i (λ m. power c m ⊗ byte_at rows (length rows - i + m) column)

-- one row more: the sum so far times c, and the row
pub sum_of_last_more : (i c : ℕ) (rows : List (List ℕ)) (column : ℕ) → c < 256 → i < length rows → ((p : ℕ) → p < length rows → byte_at rows p column < 256)
    → (c ⊗ sum_of_last i c rows column) ⊕ byte_at rows (length rows - 1 - i) column ≡ sum_of_last (i + 1) c rows column
sum_of_last_more i c rows column small within bytes =
    let n = length rows in
    let one_more : 1 + i ≡ i + 1 = omega arith in
    let f = λ (m : ℕ). power c m ⊗ byte_at rows (n - (i + 1) + m) column in
    let here : n - 1 - i ≡ n - (i + 1) + 0 = omega arith in
    let first : byte_at rows (n - 1 - i) column ≡ f 0 =
    sym (one_with_product (byte_at rows (n - 1 - i) column) (bytes (n - 1 - i) (omega arith)))
    ∙ ap₂ ◌⊗◌ (sym (power_of_none c)) (ap (λ p. byte_at rows p column) here) in
    let rest : c ⊗ sum_of_last i c rows column ≡ sum_over i (λ m. f (1 + m)) =
    product_with_sum_over c i (λ m. power c m ⊗ byte_at rows (n - i + m) column)
    ∙ sum_over_same i (λ m. c ⊗ (power c m ⊗ byte_at rows (n - i + m) column)) (λ m. f (1 + m)) (λ m h.
    sym (product_associates c (power c m) (byte_at rows (n - i + m) column) small (power_is_byte c m small) (bytes (n - i + m) (omega arith)))
    ∙ (let next : m + 1 ≡ 1 + m = omega arith in
    let place : n - i + m ≡ n - (i + 1) + (1 + m) = omega arith in
    ap₂ ◌⊗◌ (sym (power_of_one_more c m) ∙ ap (power c) next) (ap (λ p. byte_at rows p column) place))) in
    sum_commutes (c ⊗ sum_of_last i c rows column) (byte_at rows (n - 1 - i) column)
    ∙ ap₂ ◌⊕◌ first rest
    ∙ ap (λ x. x ⊕ sum_over i (λ m. f (1 + m))) (sym (zero_xor (f 0)))
    ∙ sym (sum_over_splits 1 i f)
    ∙ ap (λ k. sum_over k f) one_more

-- with all rows it is the syndrome of the power that c is
pub all_of_last : (n j c : ℕ) (rows : List (List ℕ)) (column : ℕ) → n ≡ length rows → c ≡ power 2 j → sum_of_last n c rows column ≡ syndrome j rows column
all_of_last n j c rows column all e =
    ap (λ i. sum_of_last i c rows column) all
    ∙ sum_over_same (length rows) (λ m. power c m ⊗ byte_at rows (length rows - length rows + m) column) (λ m. power 2 (m * j) ⊗ byte_at rows m column)
    (λ m h. ap₂ ◌⊗◌ (ap (λ x. power x m) e ∙ sym (power_at_product 2 j m (omega arith)) ∙ ap (power 2) (mul_comm j m)) (let place : length rows - length rows + m ≡ m = omega arith in ap (λ p. byte_at rows p column) place))

-- the powers of 2 of which a syndrome is taken
pub first_powers : (power 2 0 ≡ 1) × (power 2 1 ≡ 2) × (power 2 2 ≡ 4) × (power 2 3 ≡ 8)
unfolding ◌⊗◌ power
first_powers = (refl, refl, refl, refl)

pub powers_listed : (a b c d : ℕ) → a ≡ 1 → b ≡ 2 → c ≡ 4 → d ≡ 8 → (j : ℕ) → j < 4 → get_or (a ∷ b ∷ c ∷ d ∷ []) j 0 ≡ power 2 j
powers_listed a b c d pa pb pc pd zero h = pa ∙ sym first_powers.0
powers_listed a b c d pa pb pc pd (suc zero) h = pb ∙ sym first_powers.1
powers_listed a b c d pa pb pc pd (suc (suc zero)) h = pc ∙ sym first_powers.2
powers_listed a b c d pa pb pc pd (suc (suc (suc zero))) h = pd ∙ sym first_powers.3
powers_listed a b c d pa pb pc pd (suc (suc (suc (suc j)))) h = absurd (omega arith)

pub bytes_of_column : (len column : ℕ) (rows : List (List ℕ)) → HoldBytes rows → HaveLength len rows → column < len → (p : ℕ) → p < length rows → byte_at rows p column < 256
bytes_of_column len column rows bytes lengths inside p h = bytes p [] h column 0 (omega (arith, lengths p [] h))

-- the sum of a block so far, and one row more
pub block_more : (i c at len : ℕ) (rows : List (List ℕ)) (sum product block next : List ℕ) → c < 256 → i < length rows → HoldBytes rows → HaveLength len rows → at + 64 ≤ len
    → HasLanes sum (λ l. sum_of_last i c rows (at + l)) → HasLanes product (λ l. c ⊗ get_or sum l 0) → HasLanes block (λ l. byte_at rows (length rows - 1 - i) (at + l))
    → HasLanes next (λ l. get_or product l 0 ⊕ get_or block l 0) → HasLanes next (λ l. sum_of_last (i + 1) c rows (at + l))
block_more i c at len rows sum product block next small within bytes lengths inside s p b n = record {
  count = n.count;
  each = λ l h.
      n.each l h
      ∙ ap₂ ◌⊕◌ (p.each l h ∙ ap (λ x. c ⊗ x) (s.each l h)) (b.each l h)
      ∙ sum_of_last_more i c rows (at + l) small within (bytes_of_column len (at + l) rows bytes lengths (omega arith));
}
