-- A table of Lagrange's factors for the parities is the table of coefficients.
use Rattle.std.proofs.Common.{◌≡◌, ℕ, ◌+◌, ◌^◌, ◌<◌, ◌≤◌, List, [], ◌++◌, length, get_or, All, refl, sym, ap, ap₂, subst, ◌∙◌, arith}
use Rattle.std.proofs.lemmas.List.{get_or_append_left, get_or-append-add, length-append, append_cancel_left}
use Rattle.std.proofs.lemmas.List.Elements.{All-append}
use Rattle.cb_gf256.specs.Sum.{sum_over}
use Rattle.cb_gf256.specs.Product.{◌⊗◌}
use Rattle.cb_gf256.specs.Rows.{row_at, byte_at, HaveLength, HoldBytes, AreRows}
use Rattle.cb_gf256.specs.CodeWord.{IsCodeWord}
use Rattle.cb_gf256.specs.Corner.{corner}
use Rattle.cb_gf256.specs.InRange.{IsInRange}
use Rattle.cb_gf256.specs.Combination.{AreCombinations}
use Rattle.cb_gf256.specs.Lagrange.{IsLagrangeFactor, AreFactors}
use Rattle.cb_gf256.proofs.PublicLaws.{sum_over_same, split_of_same, parities_split, sums_make_a_word, sums_are_bytes, words_that_agree, corner_count, corner_byte, corner_lengths, corner_bytes, unit_rows, column_rows, unit_rows_count, unit_rows_are_rows, unit_combinations, column_rows_are_bytes, same_columns, all_rows}
use Rattle.cb_gf256.specs.Rows.{rows_at}
use Rattle.cb_code.specs.Coefficients.{AreCoefficients, IsCode}

-- ---- a code word of data rows and parities
byte_at-front : (rows sums : List (List ℕ)) (i column : ℕ) → i < length rows → byte_at (rows ++ sums) i column ≡ byte_at rows i column
byte_at-front rows sums i column l = ap (λ row. get_or row column 0) (get_or_append_left rows sums [] i l)

byte_at-back : (rows sums : List (List ℕ)) (e column : ℕ) → byte_at (rows ++ sums) (length rows + e) column ≡ byte_at sums e column
byte_at-back rows sums e column = ap (λ row. get_or row column 0) (get_or-append-add rows sums e [])

-- the factors of the lost parities make code words
words_made : (k r : ℕ) (lost : List ℕ) (table rows sums : List (List ℕ)) → IsInRange k r → ((e : ℕ) → e < r → get_or lost e 0 ≡ k + e) → length table ≡ r → HaveLength k table → AreFactors k r (λ i. i) (λ e. get_or lost e 0) (byte_at table) → length rows ≡ k → AreRows rows → AreCombinations table rows sums → IsCodeWord k r (rows ++ sums)
words_made k r lost table rows sums range at height width factors count h made =
    let len = length (row_at rows 0) in
    let word = rows ++ sums in
    sums_make_a_word k r len word (λ i. i) (λ e. get_or lost e 0) (byte_at table)
    (omega (arith, range.data_most, range.parities_most)) (omega (arith, range.data_least))
    (split_of_same (k + r) k r (λ i. i) (λ e. k + e) (λ e. get_or lost e 0) (parities_split k r) at)
    factors
    (length-append rows sums ∙ ap₂ ◌+◌ count (made.count ∙ height))
    (All-append (λ row. length row ≡ len) rows sums h.equal_lengths made.equal_lengths)
    (λ i column l m.
    let within : i < length rows = omega arith in
    omega (arith, byte_at-front rows sums i column within, h.bytes i [] within column 0 (omega (arith, h.equal_lengths i [] within))))
    (λ e column l m.
    let in_table : e < length table = omega arith in
    ap (λ p. byte_at word p column) (at e l ∙ ap (λ n. n + e) (sym count))
    ∙ byte_at-back rows sums e column
    ∙ made.values e column in_table m
    ∙ ap (λ n. sum_over n (λ i. byte_at table e i ⊗ byte_at rows i column)) (width e [] in_table)
    ∙ sum_over_same k (λ i. byte_at table e i ⊗ byte_at rows i column) (λ i. byte_at table e i ⊗ byte_at word i column)
    (λ i q. ap (λ v. byte_at table e i ⊗ v) (sym (byte_at-front rows sums i column (omega arith)))))

-- a table of arrays whose corner has these factors
pub coefficients_of : (k r : ℕ) (lost : List ℕ) (table : List (List ℕ)) → IsInRange k r → length lost ≡ r → ((e : ℕ) → e < r → get_or lost e 0 ≡ k + e) → length table ≡ 4 → HaveLength 16 table → ((m i : ℕ) → m < r → i < k → IsLagrangeFactor (length lost) (λ x. get_or lost x 0) m i (byte_at table m i)) → AreCoefficients k r (corner k r table)
coefficients_of k r lost table range count at height width factor =
    let inside : r ≤ length table = omega (arith, range.parities_most) in
    let lengths : HaveLength k (corner k r table) = corner_lengths k r 16 table range.data_most inside width in
    let same : (j i : ℕ) → j < r → i < k → byte_at (corner k r table) j i ≡ byte_at table j i = λ j i l m.
    corner_byte k r table j i (omega (arith, corner_count k r table inside)) m in
    let factors : AreFactors k r (λ i. i) (λ e. get_or lost e 0) (byte_at (corner k r table)) = record {
      factor = λ e i l m. subst (IsLagrangeFactor r (λ x. get_or lost x 0) e i) (sym (same e i l m)) (subst (λ n. IsLagrangeFactor n (λ x. get_or lost x 0) e i (byte_at table e i)) count (factor e i l m));
    } in
    record {
      parities = corner_count k r table inside;
      positions = lengths;
      bytes = corner_bytes k r 16 table range.data_most inside width (λ j i l m. (factor j i l m).byte);
      make_words = λ rows sums n h made. words_made k r lost (corner k r table) rows sums range at (corner_count k r table inside) lengths factors n h made;
    }

-- ---- the only parities
pub only_parities : (k r : ℕ) (rows sums others : List (List ℕ)) → IsInRange k r → length rows ≡ k → AreRows rows → HoldBytes sums → IsCodeWord k r (rows ++ sums) → HoldBytes others → IsCodeWord k r (rows ++ others) → others ≡ sums
only_parities k r rows sums others range count h bytes word other_bytes other =
    append_cancel_left rows others sums
    (words_that_agree k r (rows ++ others) (rows ++ sums) (λ i. i) (λ e. k + e)
    (omega (arith, range.data_most, range.parities_most)) (omega (arith, range.data_least)) (parities_split k r)
    other (All-append (All (λ x. x < 2 ^ 8)) rows others h.bytes other_bytes)
    word (All-append (All (λ x. x < 2 ^ 8)) rows sums h.bytes bytes)
    (λ i l. get_or_append_left rows others [] i (omega arith) ∙ sym (get_or_append_left rows sums [] i (omega arith))))

-- ---- the sums that a table of coefficients makes
-- a table with a coefficient for each of the rows is the table for as many rows
pub fits : (table rows : List (List ℕ)) → AreCoefficients (length (row_at table 0)) (length table) table → IsInRange (length (row_at table 0)) (length table) → HaveLength (length rows) table → AreCoefficients (length rows) (length table) table × IsInRange (length rows) (length table)
fits table rows h range width =
    let same : length (row_at table 0) ≡ length rows = width 0 [] (omega (arith, range.parities_least)) in
    (subst (λ k. AreCoefficients k (length table) table) same h, subst (λ k. IsInRange k (length table)) same range)

pub only_coded : (table rows sums others : List (List ℕ)) → AreCoefficients (length rows) (length table) table → IsInRange (length rows) (length table) → AreRows rows → AreCombinations table rows sums → HoldBytes others → IsCodeWord (length rows) (length table) (rows ++ others) → others ≡ sums
only_coded table rows sums others h range bytes made other_bytes other =
    only_parities (length rows) (length table) rows sums others range refl bytes (sums_are_bytes table rows sums h.bytes h.positions bytes made) (h.make_words rows sums refl bytes made) other_bytes other

-- the sums of all rows, in all rows
pub combinations_of_all : (table factors rows sums : List (List ℕ)) (targets sources : List ℕ) → table ≡ factors → length targets ≡ length sums → ((i : ℕ) → i < length sums → get_or targets i 0 ≡ i)
    → length sources ≡ length rows → ((i : ℕ) → i < length rows → get_or sources i 0 ≡ i) → AreCombinations factors (rows_at rows sources) (rows_at sums targets) → AreCombinations table rows sums
combinations_of_all table factors rows sums targets sources same tc ta sc sa h =
    subst (λ t. AreCombinations t rows sums) (sym same)
    (subst (λ shown. AreCombinations factors shown sums) (all_rows rows sources sc sa)
    (subst (λ made. AreCombinations factors (rows_at rows sources) made) (all_rows sums targets tc ta) h))

-- a table of coefficients is that of the code that its size tells
pub is_code : (k r : ℕ) (table : List (List ℕ)) → IsInRange k r → AreCoefficients k r table → IsCode table
is_code k r table range h =
    let width : length (row_at table 0) ≡ k = h.positions 0 [] (omega (arith, h.parities, range.parities_least)) in
    record {
      in_range = subst (λ n. IsInRange (length (row_at table 0)) n) (sym h.parities) (subst (λ n. IsInRange n r) (sym width) range);
      coefficients = subst (λ n. AreCoefficients (length (row_at table 0)) n table) (sym h.parities) (subst (λ n. AreCoefficients n r table) (sym width) h);
    }

-- ---- the one table
pub one_table : (k r : ℕ) (a b : List (List ℕ)) → IsInRange k r → AreCoefficients k r a → AreCoefficients k r b → a ≡ b
one_table k r a b range ha hb =
    same_columns k a b (ha.parities ∙ sym hb.parities) ha.positions hb.positions (λ i inside.
    let rows = unit_rows k i in
    let count : length rows ≡ k = unit_rows_count k i in
    let are_rows : AreRows rows = unit_rows_are_rows k i in
    let ma : AreCombinations a rows (column_rows a i) = unit_combinations k i a inside ha.positions ha.bytes in
    let mb : AreCombinations b rows (column_rows b i) = unit_combinations k i b inside hb.positions hb.bytes in
    only_parities k r rows (column_rows b i) (column_rows a i) range count are_rows
    (column_rows_are_bytes k i b inside hb.positions hb.bytes) (hb.make_words rows (column_rows b i) count are_rows mb)
    (column_rows_are_bytes k i a inside ha.positions ha.bytes) (ha.make_words rows (column_rows a i) count are_rows ma))
