-- The syndromes of rows that differ in one row, and the sum of all rows but one.
use Rattle.std.proofs.Common.{◌≡◌, ◌≢◌, ℕ, zero, suc, ◌+◌, ◌*◌, ◌<◌, Bool, true, false, cond, eqb, List, [], length, get_or, refl, sym, ap, ap₂, ◌∙◌, ⊎_elim, arith}
use Rattle.std.proofs.Math.Nat.{mul-zero}
use Rattle.std.specs.List.{range_with_len}
use Rattle.std.proofs.lemmas.Bool.{cases_eq, eq-eqb, ne_eqb}
use Rattle.std.proofs.lemmas.List.{length-set, length-map, get_or-set_same, get_or-set_other}
use Rattle.std.proofs.lemmas.List.FromFn.{get_or-map-range_with_len}
use Rattle.cb_gf256.specs.Sum.{◌⊕◌, sum_over}
use Rattle.cb_gf256.specs.Product.{◌⊗◌}
use Rattle.cb_gf256.specs.Power.{power}
use Rattle.cb_gf256.specs.Rows.{row_at, byte_at, AreRows}
use Rattle.cb_gf256.specs.CodeWord.{syndrome}
use Rattle.cb_gf256.proofs.PublicLaws.{sum_commutes, sum_associates, sum_with_zero, sum_with_itself, sum_over_same, sum_over_sums, sum_over_one_term, sum_over_is_byte, product_is_byte, product_distributes, one_with_product, power_is_byte, power_of_none}
use Rattle.cb_scrub.specs.Mended.{sum_of_others, row_of_others, mended}

pub byte_lt : (rows : List (List ℕ)) → AreRows rows → (i column : ℕ) → i < length rows → column < length (row_at rows 0) → byte_at rows i column < 256
byte_lt rows h i column l m = h.bytes i [] l column 0 (omega (arith, h.equal_lengths i [] l))

pub syndrome_lt : (j column : ℕ) (rows : List (List ℕ)) → AreRows rows → column < length (row_at rows 0) → syndrome j rows column < 256
syndrome_lt j column rows h inside =
    sum_over_is_byte (length rows) (λ i. power 2 (i * j) ⊗ byte_at rows i column)
    (λ i l. product_is_byte (power 2 (i * j)) (byte_at rows i column) (power_is_byte 2 (i * j) (omega arith)) (byte_lt rows h i column l inside))

-- the syndromes of rows that differ at one position alone
pub differ_at : (j p n column : ℕ) (a b : List (List ℕ)) → length a ≡ n → length b ≡ n → p < n → ((i : ℕ) → i < n → i ≢ p → byte_at a i column ≡ byte_at b i column)
    → syndrome j a column ⊕ syndrome j b column ≡ power 2 (p * j) ⊗ (byte_at a p column ⊕ byte_at b p column)
differ_at j p n column a b la lb inside same =
    let f = λ (i : ℕ). power 2 (i * j) ⊗ byte_at a i column in
    let g = λ (i : ℕ). power 2 (i * j) ⊗ byte_at b i column in
    ap₂ ◌⊕◌ (ap (λ m. sum_over m f) la) (ap (λ m. sum_over m g) lb)
    ∙ sym (sum_over_sums n f g)
    ∙ sum_over_one_term n p (λ i. f i ⊕ g i) inside
    (λ i h apart. ap (λ x. f i ⊕ (power 2 (i * j) ⊗ x)) (sym (same i h apart)) ∙ sum_with_itself (f i))
    ∙ sym (product_distributes (power 2 (p * j)) (byte_at a p column) (byte_at b p column))

-- the power 0 of a position is 1
pub times_first : (p x : ℕ) → x < 256 → power 2 (p * 0) ⊗ x ≡ x
times_first p x small = ap (λ m. power 2 m ⊗ x) (mul-zero p) ∙ ap (λ m. m ⊗ x) (power_of_none 2) ∙ one_with_product x small

-- what is added to a sum and gives the same is 0
pub nothing_added : (a b : ℕ) → a ⊕ b ≡ a → b ≡ 0
nothing_added a b e =
    sym (sum_with_zero b) ∙ sum_commutes b 0 ∙ ap (λ x. x ⊕ b) (sym (sum_with_itself a)) ∙ sum_associates a a b ∙ ap (λ x. a ⊕ x) e ∙ sum_with_itself a

-- each of two bytes is the other and their sum
pub other_of_sum : (a b s : ℕ) → a ⊕ b ≡ s → b ≡ a ⊕ s
other_of_sum a b s e =
    sym (sum_with_zero b) ∙ sum_commutes b 0 ∙ ap (λ x. x ⊕ b) (sym (sum_with_itself a)) ∙ sum_associates a a b ∙ ap (λ x. a ⊕ x) e

-- ---- the sum of all rows but one

in_two : (b : Bool) (x : ℕ) → cond b 0 x ⊕ cond b x 0 ≡ x
in_two true x = sum_commutes 0 x ∙ sum_with_zero x
in_two false x = sum_with_zero x

-- the sum of all rows is the sum of all others and the row
pub others_and_row : (rows : List (List ℕ)) (p column : ℕ) → AreRows rows → p < length rows → column < length (row_at rows 0) → sum_of_others rows p column ⊕ byte_at rows p column ≡ syndrome 0 rows column
others_and_row rows p column h inside within =
    let n = length rows in
    let f = λ (i : ℕ). cond (eqb i p) 0 (byte_at rows i column) in
    let g = λ (i : ℕ). cond (eqb i p) (byte_at rows i column) 0 in
    ap (λ x. sum_over n f ⊕ x)
    (sym (sum_over_one_term n p g inside (λ i l apart. ap (λ b. cond b (byte_at rows i column) 0) (ne_eqb i p apart)) ∙ ap (λ b. cond b (byte_at rows p column) 0) (eq-eqb p p refl)))
    ∙ sym (sum_over_sums n f g)
    ∙ sum_over_same n (λ i. f i ⊕ g i) (λ i. power 2 (i * 0) ⊗ byte_at rows i column)
    (λ i l. in_two (eqb i p) (byte_at rows i column) ∙ sym (times_first i (byte_at rows i column) (byte_lt rows h i column l within)))

pub others_lt : (rows : List (List ℕ)) (p column : ℕ) → AreRows rows → column < length (row_at rows 0) → sum_of_others rows p column < 256
others_lt rows p column h within =
    sum_over_is_byte (length rows) (λ i. cond (eqb i p) 0 (byte_at rows i column))
    (λ i l. flag (eqb i p) (byte_at rows i column) (byte_lt rows h i column l within))
  where
    flag : (b : Bool) (x : ℕ) → x < 256 → ◌<◌ (cond {A = ℕ} b 0 x) 256
    flag true x m = omega arith
    flag false x m = m

-- ---- the mended rows
length-range : (a n : ℕ) → length (range_with_len a n) ≡ n
length-range a zero = refl
length-range a (suc n) = ap suc (length-range (a + 1) n)

pub length-others : (rows : List (List ℕ)) (p : ℕ) → length (row_of_others rows p) ≡ length (row_at rows 0)
length-others rows p = length-map (range_with_len 0 (length (row_at rows 0))) (sum_of_others rows p) ∙ length-range 0 (length (row_at rows 0))

pub get_or-others : (rows : List (List ℕ)) (p column : ℕ) → column < length (row_at rows 0) → get_or (row_of_others rows p) column 0 ≡ sum_of_others rows p column
get_or-others rows p column h = get_or-map-range_with_len (sum_of_others rows p) 0 (length (row_at rows 0)) column column 0 h (omega arith)

pub length-mended : (rows : List (List ℕ)) (p : ℕ) → length (mended rows p) ≡ length rows
length-mended rows p = length-set rows p (row_of_others rows p)

pub mended_row : (rows : List (List ℕ)) (p : ℕ) → p < length rows → row_at (mended rows p) p ≡ row_of_others rows p
mended_row rows p inside = get_or-set_same rows p (row_of_others rows p) [] inside

pub other_row : (rows : List (List ℕ)) (p i : ℕ) → i ≢ p → row_at (mended rows p) i ≡ row_at rows i
other_row rows p i apart = get_or-set_other rows p i (row_of_others rows p) [] apart

pub mended_byte : (rows : List (List ℕ)) (p column : ℕ) → p < length rows → column < length (row_at rows 0) → byte_at (mended rows p) p column ≡ sum_of_others rows p column
mended_byte rows p column inside h = ap (λ row. get_or row column 0) (mended_row rows p inside) ∙ get_or-others rows p column h

pub mended_lengths : (rows : List (List ℕ)) (p : ℕ) → AreRows rows → p < length rows → (i : ℕ) → i < length rows → length (row_at (mended rows p) i) ≡ length (row_at rows 0)
mended_lengths rows p h inside i l =
    ⊎_elim
    (λ same. ap (λ m. length (row_at (mended rows p) m)) same ∙ ap length (mended_row rows p inside) ∙ length-others rows p)
    (λ apart. ap length (other_row rows p i apart) ∙ h.equal_lengths i [] l)
    (cases_eq i p)
