-- A table is known by the sums that it makes of rows of which one is 1 and the others are 0.
use Rattle.std.proofs.Common.{◌≡◌, ℕ, zero, suc, ◌+◌, ◌<◌, Bool, true, false, List, [], ◌∷◌, length, get_or, map, cond, eqb, refl, sym, ap, ext_get_or, ◌∙◌, arith}
use Rattle.std.specs.List.{range_with_len}
use Rattle.std.proofs.lemmas.Bool.{eq-eqb, ne_eqb}
use Rattle.std.proofs.lemmas.List.{get_or-map, length-map}
use Rattle.std.proofs.lemmas.List.FromFn.{get_or-map-range_with_len}
use Rattle.cb_gf256.specs.Sum.{sum_over}
use Rattle.cb_gf256.specs.Product.{◌⊗◌}
use Rattle.cb_gf256.specs.Rows.{row_at, byte_at, HaveLength, HoldBytes, AreRows}
use Rattle.cb_gf256.specs.Combination.{AreCombinations}
use Rattle.cb_gf256.proofs.FieldLaws.{product-one, product-zero}
use Rattle.cb_gf256.proofs.SumLaws.{sum_over-one_term}
use Rattle.cb_gf256.proofs.CornerLemmas.{at_default}

-- k rows of one byte: 1 in row i, and 0 in the others
abbrev pub unit_rows : ℕ → ℕ → List (List ℕ)
unit_rows k i = map (λ m. cond (eqb m i) 1 0 ∷ []) (range_with_len 0 k)

-- column i of a table, as rows of one byte
abbrev pub column_rows : List (List ℕ) → ℕ → List (List ℕ)
column_rows table i = map (λ row. get_or row i 0 ∷ []) table

length-range : (a n : ℕ) → length (range_with_len a n) ≡ n
length-range a zero = refl
length-range a (suc n) = ap suc (length-range (a + 1) n)

pub length-unit_rows : (k i : ℕ) → length (unit_rows k i) ≡ k
length-unit_rows k i = length-map (range_with_len 0 k) (λ m. cond (eqb m i) 1 0 ∷ []) ∙ length-range 0 k

row_at-unit_rows : (k i m : ℕ) → m < k → row_at (unit_rows k i) m ≡ cond (eqb m i) 1 0 ∷ []
row_at-unit_rows k i m h = get_or-map-range_with_len (λ x. cond (eqb x i) 1 0 ∷ []) 0 k m m [] h (omega arith)

flag_lt : (t : Bool) → ◌<◌ (cond {A = ℕ} t 1 0) 256
flag_lt true = omega arith
flag_lt false = omega arith

bit_lt : (m i : ℕ) → cond (eqb m i) 1 0 < 256
bit_lt m i = flag_lt (eqb m i)

one_byte : (x column : ℕ) (z : ℕ) → column < length (x ∷ []) → get_or (x ∷ []) column z ≡ x
one_byte x zero z h = refl
one_byte x (suc column) z h = absurd (omega arith)

pub AreRows-unit_rows : (k i : ℕ) → AreRows (unit_rows k i)
AreRows-unit_rows k i = record {
  equal_lengths = λ m d h.
      let within : m < k = omega (arith, length-unit_rows k i) in
      ap length (at_default (unit_rows k i) m d [] h ∙ row_at-unit_rows k i m within) ∙ sym (ap length (row_at-unit_rows k i 0 (omega arith)));
  bytes = λ m d h column z l.
      let within : m < k = omega (arith, length-unit_rows k i) in
      let same = at_default (unit_rows k i) m d [] h ∙ row_at-unit_rows k i m within in
      omega (arith, ap (λ row. get_or row column z) same, one_byte (cond (eqb m i) 1 0) column z (omega (arith, ap length same)), bit_lt m i);
}

row_at-column_rows : (table : List (List ℕ)) (i j : ℕ) → j < length table → row_at (column_rows table i) j ≡ byte_at table j i ∷ []
row_at-column_rows table i j h = get_or-map (λ row. get_or row i 0 ∷ []) table j [] [] h

-- the table makes its column i of these rows
pub unit_combinations : (k i : ℕ) (table : List (List ℕ)) → i < k → HaveLength k table → HoldBytes table → AreCombinations table (unit_rows k i) (column_rows table i)
unit_combinations k i table inside width bytes =
    let first : length (row_at (unit_rows k i) 0) ≡ 1 = ap length (row_at-unit_rows k i 0 (omega arith)) in
    record {
      count = length-map table (λ row. get_or row i 0 ∷ []);
      equal_lengths = λ j d h.
          let within : j < length table = omega (arith, length-map table (λ row. get_or row i 0 ∷ [])) in
          ap length (at_default (column_rows table i) j d [] h ∙ row_at-column_rows table i j within) ∙ sym first;
      values = λ j column h l.
          let wide : length (row_at table j) ≡ k = width j [] h in
          let zero_column : column ≡ 0 = omega arith in
          let own : byte_at table j i < 256 = bytes j [] h i 0 (omega arith) in
          let unit : (m : ℕ) → m < k → byte_at (unit_rows k i) m column ≡ cond (eqb m i) 1 0 = λ m q.
          ap (λ row. get_or row column 0) (row_at-unit_rows k i m q) ∙ one_byte (cond (eqb m i) 1 0) column 0 (omega arith) in
          ap (λ row. get_or row column 0) (row_at-column_rows table i j h) ∙ one_byte (byte_at table j i) column 0 (omega arith)
          ∙ sym
          (ap (λ n. sum_over n (λ m. byte_at table j m ⊗ byte_at (unit_rows k i) m column)) wide
          ∙ sum_over-one_term k i (λ m. byte_at table j m ⊗ byte_at (unit_rows k i) m column) inside
          (λ m q apart. ap (λ x. byte_at table j m ⊗ x) (unit m q ∙ ap (λ t. cond t 1 0) (ne_eqb m i apart)) ∙ product-zero (byte_at table j m))
          ∙ ap (λ x. byte_at table j i ⊗ x) (unit i inside ∙ ap (λ t. cond t 1 0) (eq-eqb i i refl)) ∙ product-one (byte_at table j i) own);
    }

pub HoldBytes-column_rows : (k i : ℕ) (table : List (List ℕ)) → i < k → HaveLength k table → HoldBytes table → HoldBytes (column_rows table i)
HoldBytes-column_rows k i table inside width bytes j d h column z l =
    let within : j < length table = omega (arith, length-map table (λ row. get_or row i 0 ∷ [])) in
    let same = at_default (column_rows table i) j d [] h ∙ row_at-column_rows table i j within in
    omega (arith, ap (λ row. get_or row column z) same, one_byte (byte_at table j i) column z (omega (arith, ap length same)), bytes j [] within i 0 (omega (arith, width j [] within)))

-- tables with the same columns are equal
pub same_columns : (k : ℕ) (a b : List (List ℕ)) → length a ≡ length b → HaveLength k a → HaveLength k b → ((i : ℕ) → i < k → column_rows a i ≡ column_rows b i) → a ≡ b
same_columns k a b count wa wb same =
    ext_get_or [] a b count (λ j h.
    let in_b : j < length b = omega arith in
    ext_get_or 0 (row_at a j) (row_at b j) (wa j [] h ∙ sym (wb j [] in_b)) (λ i l.
    let inside : i < k = omega (arith, wa j [] h) in
    sym (ap (λ row. get_or row 0 0) (row_at-column_rows a i j h)) ∙ ap (λ rows. byte_at rows j 0) (same i inside) ∙ ap (λ row. get_or row 0 0) (row_at-column_rows b i j in_b)))
