-- A sum of rows in which one row is replaced.
use Rattle.std.proofs.Common.{◌≡◌, ◌≢◌, ℕ, ◌<◌, List, [], length, get_or, set, sym, ap, ap₂, ext_get_or, ◌∙◌, arith}
use Rattle.std.proofs.lemmas.List.{get_or-set_same, get_or-set_other}
use Rattle.cb_gf256.specs.Sum.{◌⊕◌}
use Rattle.cb_gf256.specs.Product.{◌⊗◌}
use Rattle.cb_gf256.specs.Row.{row_sum, scaled_row}
use Rattle.cb_gf256.specs.Rows.{row_at, byte_at}
use Rattle.cb_gf256.specs.Combination.{combination, AreCombinations}
use Rattle.cb_gf256.proofs.PublicLaws.{sum_over_same, sum_over_sums, sum_over_one_term, sum_associates, sum_with_itself, sum_with_zero, sum_commutes, product_distributes, product_with_zero, row_sum_length, row_sum_by_byte, scaled_row_length, scaled_row_by_byte}
use Rattle.cb_delta.specs.Parity.{IsParity}

-- x and its difference to y make y
moved : (x y : ℕ) → x ⊕ (x ⊕ y) ≡ y
moved x y = sym (sum_associates x x y) ∙ ap (λ z. z ⊕ y) (sum_with_itself x) ∙ sum_commutes 0 y ∙ sum_with_zero y

-- the sum with row i replaced is the sum and the factor of row i times the difference
replaced : (factors : List ℕ) (rows : List (List ℕ)) (i : ℕ) (new : List ℕ) (column : ℕ) → i < length factors → i < length rows
    → combination factors rows column ⊕ (get_or factors i 0 ⊗ (byte_at rows i column ⊕ get_or new column 0)) ≡ combination factors (set rows i new) column
replaced factors rows i new column inside within =
    let n = length factors in
    let f = λ (m : ℕ). get_or factors m 0 ⊗ byte_at rows m column in
    let change = λ (m : ℕ). get_or factors m 0 ⊗ (byte_at rows m column ⊕ byte_at (set rows i new) m column) in
    let here : byte_at (set rows i new) i column ≡ get_or new column 0 = ap (λ row. get_or row column 0) (get_or-set_same rows i new [] within) in
    let others : (m : ℕ) → m < n → m ≢ i → change m ≡ 0 = λ m h apart.
    ap (λ x. get_or factors m 0 ⊗ (byte_at rows m column ⊕ x)) (ap (λ row. get_or row column 0) (get_or-set_other rows i m new [] apart))
    ∙ ap (λ x. get_or factors m 0 ⊗ x) (sum_with_itself (byte_at rows m column)) ∙ product_with_zero (get_or factors m 0) in
    ap (λ x. combination factors rows column ⊕ (get_or factors i 0 ⊗ (byte_at rows i column ⊕ x))) (sym here)
    ∙ ap (λ x. combination factors rows column ⊕ x) (sym (sum_over_one_term n i change inside others))
    ∙ sym (sum_over_sums n f change)
    ∙ sum_over_same n (λ m. f m ⊕ change m) (λ m. get_or factors m 0 ⊗ byte_at (set rows i new) m column)
    (λ m h.
    sym (product_distributes (get_or factors m 0) (byte_at rows m column) (byte_at rows m column ⊕ byte_at (set rows i new) m column))
    ∙ ap (λ x. get_or factors m 0 ⊗ x) (moved (byte_at rows m column) (byte_at (set rows i new) m column)))

pub patched : (factors : List ℕ) (rows : List (List ℕ)) (i c : ℕ) (old new delta parity : List ℕ) → IsParity factors rows parity → i < length factors → i < length rows
    → c ≡ get_or factors i 0 → length new ≡ length (row_at rows i) → delta ≡ row_sum (row_at rows i) new → length parity ≡ length delta → old ≡ row_sum parity (scaled_row c delta)
    → IsParity factors (set rows i new) old
patched factors rows i c old new delta parity h inside within factor size change room made column l =
    let same : length parity ≡ length (scaled_row c delta) = room ∙ sym (scaled_row_length c delta) in
    let short : column < length parity = omega (arith, ap length made, row_sum_length parity (scaled_row c delta) same) in
    ap (λ row. get_or row column 0) made
    ∙ row_sum_by_byte parity (scaled_row c delta) column same
    ∙ ap₂ ◌⊕◌ (h column short)
    (scaled_row_by_byte c delta column
    ∙ ap₂ ◌⊗◌ factor (ap (λ row. get_or row column 0) change ∙ row_sum_by_byte (row_at rows i) new column (sym size)))
    ∙ replaced factors rows i new column inside within

pub sums_are_parities : (table rows sums : List (List ℕ)) (j : ℕ) → AreCombinations table rows sums → j < length table → IsParity (row_at table j) rows (row_at sums j)
sums_are_parities table rows sums j h l column k = h.values j column l (omega (arith, h.equal_lengths j [] (omega (arith, h.count))))

pub one_parity : (factors : List ℕ) (rows : List (List ℕ)) (a b : List ℕ) → IsParity factors rows a → IsParity factors rows b → length a ≡ length b → a ≡ b
one_parity factors rows a b ha hb same = ext_get_or 0 a b same (λ column l. ha column l ∙ sym (hb column (omega arith)))
