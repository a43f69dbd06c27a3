-- Code words as lists of rows: made from the present rows, and fixed by them.
use Rattle.std.proofs.Common.{◌≡◌, ℕ, ◌+◌, ◌*◌, ◌<◌, ◌≤◌, List, [], length, get_or, All, refl, sym, ap, subst, ◌∙◌, ⊎_elim, arith}
use Rattle.std.proofs.lemmas.List.{same_lists, get_or_default}
use Rattle.std.proofs.lemmas.Grind.{same_number_lists}
use Rattle.cb_gf256.specs.Sum.{sum_over}
use Rattle.cb_gf256.specs.Product.{◌⊗◌}
use Rattle.cb_gf256.specs.Power.{power}
use Rattle.cb_gf256.specs.Rows.{row_at, byte_at, HaveLength, HoldBytes, AreRows}
use Rattle.cb_gf256.specs.CodeWord.{IsCodeWord}
use Rattle.cb_gf256.proofs.CodeColumn.{IsCodeColumn}
use Rattle.cb_gf256.specs.Positions.{ArePositions}
use Rattle.cb_gf256.specs.Combination.{combination, AreCombinations}
use Rattle.cb_gf256.specs.Lagrange.{AreFactors}
use Rattle.cb_gf256.specs.Split.{Splits}
use Rattle.cb_gf256.proofs.FieldLaws.{product-lt}
use Rattle.cb_gf256.proofs.SumLaws.{sum_over-lt}
use Rattle.cb_gf256.proofs.Restoring.{column_restored, column_made, columns_agree}
use Rattle.cb_gf256.proofs.Splitting.{splits_positions}

pub HoldBytes-byte_at : (rows : List (List ℕ)) → HoldBytes rows → (i column : ℕ) → i < length rows → column < length (row_at rows i) → byte_at rows i column < 256
HoldBytes-byte_at rows h i column k l = h i [] k column 0 l

pub HoldBytes-from_byte_at : (rows : List (List ℕ)) → ((i column : ℕ) → i < length rows → column < length (row_at rows i) → byte_at rows i column < 256) → HoldBytes rows
HoldBytes-from_byte_at rows h i d k column e l =
    let same : get_or rows i d ≡ row_at rows i = get_or_default rows i d [] k in
    let within : column < length (row_at rows i) = omega (arith, ap length same) in
    omega (arith, h i column k within, ap (λ row. get_or row column e) same, get_or_default (row_at rows i) column e 0 within)

-- rows of one length are equal where their bytes are
pub same_rows : (len : ℕ) (a b : List (List ℕ)) → length a ≡ length b → HaveLength len a → HaveLength len b → ((i column : ℕ) → i < length a → column < len → byte_at a i column ≡ byte_at b i column) → a ≡ b
same_rows len a b count h k same =
    same_lists a b count
    (λ i d l.
    let in_b : i < length b = omega arith in
    let len_a : length (row_at a i) ≡ len = h i [] l in
    let len_b : length (row_at b i) ≡ len = k i [] in_b in
    get_or_default a i d [] l
    ∙ same_number_lists (row_at a i) (row_at b i) (len_a ∙ sym len_b) (λ column m. same i column l (omega arith))
    ∙ sym (get_or_default b i d [] in_b))

pub column_of_word : (k r : ℕ) (word : List (List ℕ)) → IsCodeWord k r word → HoldBytes word → (column : ℕ) → column < length (row_at word 0) → IsCodeColumn (k + r) r (λ p. byte_at word p column)
column_of_word k r word h bytes column l = record {
  bytes = λ p m.
      let within : p < length word = omega (arith, h.count) in
      HoldBytes-byte_at word bytes p column within (omega (arith, h.equal_lengths p [] within));
  syndromes_zero = λ j m. ap (λ n. sum_over n (λ p. power 2 (p * j) ⊗ byte_at word p column)) (sym h.count) ∙ h.syndromes_zero j column m l;
}

pub word_of_columns : (k r : ℕ) (word : List (List ℕ)) → length word ≡ k + r → HaveLength (length (row_at word 0)) word → ((column : ℕ) → column < length (row_at word 0) → IsCodeColumn (k + r) r (λ p. byte_at word p column)) → IsCodeWord k r word
word_of_columns k r word count lengths columns = record {
  count = count;
  equal_lengths = lengths;
  syndromes_zero = λ j column m l. ap (λ n. sum_over n (λ p. power 2 (p * j) ⊗ byte_at word p column)) count ∙ (columns column l).syndromes_zero j m;
}

-- a row of a code word at a lost position is the sum of the present rows, each times its factor
pub word_restored : (k r : ℕ) (word : List (List ℕ)) (present lost : ℕ → ℕ) (w : ℕ → ℕ → ℕ) → k + r ≤ 255 → Splits (k + r) k r present lost → AreFactors k r present lost w → IsCodeWord k r word → HoldBytes word → (e column : ℕ) → e < r → column < length (row_at word 0) → byte_at word (lost e) column ≡ sum_over k (λ i. w e i ⊗ byte_at word (present i) column)
word_restored k r word present lost w small split factors h bytes e column l m =
    column_restored (k + r) k r present lost w (λ p. byte_at word p column) small split factors (column_of_word k r word h bytes column m) e l

-- rows that are so at the lost positions are a code word
pub word_made : (k r len : ℕ) (word : List (List ℕ)) (present lost : ℕ → ℕ) (w : ℕ → ℕ → ℕ) → k + r ≤ 255 → 0 < k → Splits (k + r) k r present lost → AreFactors k r present lost w → length word ≡ k + r → HaveLength len word → ((i column : ℕ) → i < k → column < len → byte_at word (present i) column < 256) → ((e column : ℕ) → e < r → column < len → byte_at word (lost e) column ≡ sum_over k (λ i. w e i ⊗ byte_at word (present i) column)) → IsCodeWord k r word
word_made k r len word present lost w small some split factors count lengths bytes sums =
    let first : length (row_at word 0) ≡ len = lengths 0 [] (omega arith) in
    word_of_columns k r word count
    (λ i d l. lengths i d l ∙ sym first)
    (λ column l.
    let within : column < len = omega arith in
    column_made (k + r) k r present lost w (λ p. byte_at word p column) small split factors
    (λ p m.
    ⊎_elim
    (λ (i, q, e). subst (λ s. byte_at word s column < 256) e (bytes i column q within))
    (λ (x, q, e). subst (λ s. byte_at word s column < 256) e
    (omega (arith, sums x column q within, sum_over-lt k (λ i. w x i ⊗ byte_at word (present i) column) (λ i t. product-lt (w x i) (byte_at word (present i) column) ((factors.factor x i q t).byte) (bytes i column t within)))))
    (split.covers p m))
    (λ e q. sums e column q within))

-- two code words that agree at the present positions are equal
pub words_agree : (k r : ℕ) (a b : List (List ℕ)) (present lost : ℕ → ℕ) → k + r ≤ 255 → 0 < k → Splits (k + r) k r present lost → IsCodeWord k r a → HoldBytes a → IsCodeWord k r b → HoldBytes b → ((i : ℕ) → i < k → row_at a (present i) ≡ row_at b (present i)) → a ≡ b
words_agree k r a b present lost small some split ha bytes_a hb bytes_b same =
    let p = present 0 in
    let in_a : p < length a = omega (arith, split.present_below 0 some, ha.count) in
    let in_b : p < length b = omega (arith, split.present_below 0 some, hb.count) in
    let len : length (row_at a 0) ≡ length (row_at b 0) = sym (ha.equal_lengths p [] in_a) ∙ ap length (same 0 some) ∙ hb.equal_lengths p [] in_b in
    same_rows (length (row_at a 0)) a b (ha.count ∙ sym hb.count) ha.equal_lengths (λ i d l. hb.equal_lengths i d l ∙ sym len)
    (λ i column l m.
    columns_agree (k + r) k r present lost (λ p. byte_at a p column) (λ p. byte_at b p column) small split
    (column_of_word k r a ha bytes_a column m) (column_of_word k r b hb bytes_b column (omega arith))
    (λ j q. ap (λ row. get_or row column 0) (same j q)) i (omega (arith, ha.count)))

-- two code words that agree on k positions are equal
pub words_agree_on : (k r : ℕ) (a b : List (List ℕ)) (positions : List ℕ) → k + r ≤ 255 → 0 < k → ArePositions (k + r) k positions → IsCodeWord k r a → HoldBytes a → IsCodeWord k r b → HoldBytes b → All (λ p. row_at a p ≡ row_at b p) positions → a ≡ b
words_agree_on k r a b positions small some h ha bytes_a hb bytes_b same =
    let split = splits_positions (k + r) k r positions refl h in
    words_agree k r a b (λ i. get_or positions i 0) split.0 small some split.1 ha bytes_a hb bytes_b (λ i l. same i 0 (omega (arith, h.count)))

-- sums of rows of bytes, each times a byte, are bytes
pub HoldBytes-combinations : (table rows sums : List (List ℕ)) → HoldBytes table → HaveLength (length rows) table → AreRows rows → AreCombinations table rows sums → HoldBytes sums
HoldBytes-combinations table rows sums bytes width h made =
    HoldBytes-from_byte_at sums
    (λ j column l m.
    let in_table : j < length table = omega (arith, made.count) in
    let within : column < length (row_at rows 0) = omega (arith, made.equal_lengths j [] l) in
    let wide : length (row_at table j) ≡ length rows = width j [] in_table in
    let value : byte_at sums j column ≡ combination (row_at table j) rows column = made.values j column in_table within in
    let byte : combination (row_at table j) rows column < 256 =
    sum_over-lt (length (row_at table j)) (λ i. get_or (row_at table j) i 0 ⊗ byte_at rows i column)
    (λ i t.
    let in_rows : i < length rows = omega arith in
    product-lt (get_or (row_at table j) i 0) (byte_at rows i column) (HoldBytes-byte_at table bytes j i in_table t)
    (HoldBytes-byte_at rows h.bytes i column in_rows (omega (arith, h.equal_lengths i [] in_rows)))) in
    omega arith)
