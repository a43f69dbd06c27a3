-- The filled table is the table of weights: it restores code words, and makes code words of any present rows.
use Rattle.std.proofs.Common.{◌≡◌, ℕ, ◌+◌, ◌<◌, ◌≤◌, ◌==◌, if◌then◌else◌, List, [], length, get_or, All, refl, sym, ap, subst, ◌∙◌, ⊎_elim, arith, cond}
use Rattle.std.proofs.lemmas.Bool.{cases_eq, eq-eqb, ne_eqb}
use Rattle.std.proofs.lemmas.List.{same_lists, get_or_default, length-map, ext_get_or}
use Rattle.std.proofs.lemmas.Grind.{same_number_lists}
use Rattle.cb_gf256.specs.Sum.{sum_over}
use Rattle.cb_gf256.specs.Product.{◌⊗◌}
use Rattle.cb_gf256.specs.Rows.{row_at, rows_at, byte_at, HaveLength, HoldBytes, AreRows}
use Rattle.cb_gf256.specs.CodeWord.{IsCodeWord}
use Rattle.cb_gf256.specs.InRange.{IsInRange}
use Rattle.cb_gf256.specs.Positions.{ArePositions}
use Rattle.cb_gf256.specs.Combination.{combination, AreCombinations}
use Rattle.cb_gf256.specs.Corner.{corner}
use Rattle.cb_gf256.specs.Lagrange.{IsLagrangeFactor, AreFactors}
use Rattle.cb_gf256.specs.Split.{Splits}
use Rattle.cb_gf256.proofs.PublicLaws.{zero_with_product, one_with_product, sum_over_same, sum_over_one_term, sums_make_a_word, lost_rows_are_sums, sums_are_bytes, agreeing_words_are_equal, corner_count, corner_byte, corner_lengths, corner_bytes, row_at_positions as row_at-rows_at, unit_rows, column_rows, unit_rows_count, unit_rows_are_rows, unit_combinations, column_rows_are_bytes, same_columns}
use Rattle.cb_erase.specs.Weights.{IsSolution, AreWeights}
use Rattle.cb_erase.proofs.Tables.{Filled}

-- ---- the present rows
pub HaveLength-rows_at : (len : ℕ) (rows : List (List ℕ)) (present : List ℕ) → All (λ p. p < length rows) present → HaveLength len rows → HaveLength len (rows_at rows present)
HaveLength-rows_at len rows present below h i d l =
    let within : i < length present = omega (arith, length-map present (row_at rows)) in
    ap length (get_or_default (rows_at rows present) i d [] l ∙ row_at-rows_at rows present i within) ∙ h (get_or present i 0) [] (below i 0 within)

pub AreRows-rows_at : (rows : List (List ℕ)) (present : List ℕ) → All (λ p. p < length rows) present → AreRows rows → AreRows (rows_at rows present)
AreRows-rows_at rows present below h =
    let lengths = HaveLength-rows_at (length (row_at rows 0)) rows present below h.equal_lengths in
    record {
      equal_lengths = λ i d l. lengths i d l ∙ sym (lengths 0 [] (omega arith));
      bytes = λ i d l column z m.
          let within : i < length present = omega (arith, length-map present (row_at rows)) in
          let same : get_or (rows_at rows present) i d ≡ row_at rows (get_or present i 0) = get_or_default (rows_at rows present) i d [] l ∙ row_at-rows_at rows present i within in
          omega (arith, ap (λ row. get_or row column z) same, h.bytes (get_or present i 0) [] (below i 0 within) column z (omega (arith, ap length same)));
    }

-- a sum over the present rows, written at their positions
combination-rows_at : (k : ℕ) (table rows : List (List ℕ)) (present : List ℕ) (p column : ℕ) → length present ≡ k → length (row_at table p) ≡ k → combination (row_at table p) (rows_at rows present) column ≡ sum_over k (λ i. byte_at table p i ⊗ byte_at rows (get_or present i 0) column)
combination-rows_at k table rows present p column h l =
    ap (λ n. sum_over n (λ i. byte_at table p i ⊗ byte_at (rows_at rows present) i column)) l
    ∙ sum_over_same k (λ i. byte_at table p i ⊗ byte_at (rows_at rows present) i column) (λ i. byte_at table p i ⊗ byte_at rows (get_or present i 0) column)
    (λ i m. ap (λ row. byte_at table p i ⊗ get_or row column 0) (row_at-rows_at rows present i (omega arith)))

-- with unit factors the sum is one term
unit_sum : (k i : ℕ) (f x : ℕ → ℕ) → i < k → ((j : ℕ) → j < k → f j ≡ (if j == i then 1 else 0)) → x i < 256 → sum_over k (λ j. f j ⊗ x j) ≡ x i
unit_sum k i f x l unit byte =
    sum_over_one_term k i (λ j. f j ⊗ x j) l
    (λ j m d. ap (λ v. v ⊗ x j) (unit j m ∙ ap (λ b. cond b 1 0) (ne_eqb j i d)) ∙ zero_with_product (x j))
    ∙ ap (λ v. v ⊗ x i) (unit i l ∙ ap (λ b. cond b 1 0) (eq-eqb i i refl)) ∙ one_with_product (x i) byte

-- ---- what a filled table holds
-- the corner of the table: units at the present positions, and factors at the lost ones
pub record IsTableSolved (k r : ℕ) (present lost : List ℕ) (table : List (List ℕ)) : Type 0 where
  pub range : IsInRange k r
  pub positions : ArePositions (k + r) k present
  pub split : Splits (k + r) k r (λ i. get_or present i 0) (λ e. get_or lost e 0)
  pub height : length table ≡ k + r
  pub width : HaveLength k table
  pub bytes : HoldBytes table
  pub units : (i j : ℕ) → i < k → j < k → byte_at table (get_or present i 0) j ≡ (if j == i then 1 else 0)
  pub factors : AreFactors k r (λ i. get_or present i 0) (λ e. get_or lost e 0) (λ e i. byte_at table (get_or lost e 0) i)

pub filled_corner : (k r : ℕ) (present lost : List ℕ) (table : List (List ℕ)) → IsInRange k r → ArePositions (k + r) k present → length lost ≡ r → Splits (k + r) k r (λ i. get_or present i 0) (λ e. get_or lost e 0) → Filled present lost table r → IsTableSolved k r present lost (corner k (k + r) table)
filled_corner k r present lost table range positions count split h =
    let n = k + r in
    let inside : n ≤ length table = omega (arith, h.height, range.data_most, range.parities_most) in
    let same : (p i : ℕ) → p < n → i < k → byte_at (corner k n table) p i ≡ byte_at table p i = λ p i l m. corner_byte k n table p i (omega (arith, corner_count k n table inside)) m in
    let factor : (e i : ℕ) → e < r → i < k → IsLagrangeFactor r (λ m. get_or lost m 0) e (get_or present i 0) (byte_at table (get_or lost e 0) i) = λ e i l m.
    subst (λ c. IsLagrangeFactor c (λ x. get_or lost x 0) e (get_or present i 0) (byte_at table (get_or lost e 0) i)) count (h.factors e l i (omega (arith, positions.count))) in
    let unit : (i j : ℕ) → i < k → j < k → byte_at table (get_or present i 0) j ≡ (if j == i then 1 else 0) = λ i j l m. h.units i (omega (arith, positions.count)) j (omega (arith, range.data_most)) in
    record {
      range = range;
      positions = positions;
      split = split;
      height = corner_count k n table inside;
      width = corner_lengths k n 16 table range.data_most inside h.width;
      bytes =
          corner_bytes k n 16 table range.data_most inside h.width
          (λ p i l m.
          ⊎_elim
          (λ (x, q, e). subst (λ s. byte_at table s i < 256) e (unit_byte (byte_at table (get_or present x 0) i) i x (unit x i q m)))
          (λ (x, q, e). subst (λ s. byte_at table s i < 256) e (factor x i q m).byte)
          (split.covers p l));
      units = λ i j l m. same (get_or present i 0) j (split.present_below i l) m ∙ unit i j l m;
      factors = record { factor = λ e i l m. subst (IsLagrangeFactor r (λ x. get_or lost x 0) e (get_or present i 0)) (sym (same (get_or lost e 0) i (split.lost_below e l) m)) (factor e i l m) };
    }
  where
    unit_byte : (v i x : ℕ) → v ≡ (if i == x then 1 else 0) → v < 256
    unit_byte v i x e =
        ⊎_elim (λ s. omega (arith, e ∙ ap (λ b. cond b 1 0) (eq-eqb i x s))) (λ s. omega (arith, e ∙ ap (λ b. cond b 1 0) (ne_eqb i x s))) (cases_eq i x)

-- ---- the weights
restored : (k r : ℕ) (present lost : List ℕ) (table word : List (List ℕ)) → IsTableSolved k r present lost table → IsCodeWord k r word → HoldBytes word → AreCombinations table (rows_at word present) word
restored k r present lost table word h is_word bytes =
    let small : k + r ≤ 255 = omega (arith, h.range.data_most, h.range.parities_most) in
    let below : All (λ p. p < length word) present = λ i d l. omega (arith, h.positions.below i d l, is_word.count) in
    let first : length (row_at (rows_at word present) 0) ≡ length (row_at word 0) =
    HaveLength-rows_at (length (row_at word 0)) word present below is_word.equal_lengths 0 [] (omega (arith, length-map present (row_at word), h.positions.count, h.range.data_least)) in
    let byte : (p column : ℕ) → p < k + r → column < length (row_at word 0) → byte_at word p column < 256 = λ p column l m.
    let within : p < length word = omega (arith, is_word.count) in
    bytes p [] within column 0 (omega (arith, is_word.equal_lengths p [] within)) in
    record {
      count = is_word.count ∙ sym h.height;
      equal_lengths = λ i d l. is_word.equal_lengths i d l ∙ sym first;
      values = λ p column l m.
          let within : p < k + r = omega (arith, h.height) in
          let short : column < length (row_at word 0) = omega arith in
          ⊎_elim
          (λ (i, q, e).
          subst (λ s. byte_at word s column ≡ combination (row_at table s) (rows_at word present) column) e
          (sym
          (combination-rows_at k table word present (get_or present i 0) column h.positions.count (h.width (get_or present i 0) [] (omega (arith, h.height, h.split.present_below i q)))
          ∙ unit_sum k i (byte_at table (get_or present i 0)) (λ j. byte_at word (get_or present j 0) column) q (λ j t. h.units i j q t) (byte (get_or present i 0) column (h.split.present_below i q) short))))
          (λ (x, q, e).
          subst (λ s. byte_at word s column ≡ combination (row_at table s) (rows_at word present) column) e
          (lost_rows_are_sums k r word (λ i. get_or present i 0) (λ y. get_or lost y 0) (λ y i. byte_at table (get_or lost y 0) i) small h.split h.factors is_word bytes x column q short
          ∙ sym (combination-rows_at k table word present (get_or lost x 0) column h.positions.count (h.width (get_or lost x 0) [] (omega (arith, h.height, h.split.lost_below x q))))))
          (h.split.covers p within);
    }

solved : (k r : ℕ) (present lost : List ℕ) (table shown word : List (List ℕ)) → IsTableSolved k r present lost table → length shown ≡ k → AreRows shown → AreCombinations table shown word → IsSolution k r present shown word
solved k r present lost table shown word h count are_rows made =
    let len = length (row_at shown 0) in
    let byte : (i column : ℕ) → i < k → column < len → byte_at shown i column < 256 = λ i column l m.
    let within : i < length shown = omega arith in
    are_rows.bytes i [] within column 0 (omega (arith, are_rows.equal_lengths i [] within)) in
    let value : (p column : ℕ) → p < k + r → column < len → byte_at word p column ≡ sum_over k (λ i. byte_at table p i ⊗ byte_at shown i column) = λ p column l m.
    let in_table : p < length table = omega (arith, h.height) in
    made.values p column in_table m ∙ ap (λ n. sum_over n (λ i. byte_at table p i ⊗ byte_at shown i column)) (h.width p [] in_table) in
    let kept : (i column : ℕ) → i < k → column < len → byte_at word (get_or present i 0) column ≡ byte_at shown i column = λ i column l m.
    let p = get_or present i 0 in
    value p column (h.split.present_below i l) m ∙ unit_sum k i (byte_at table p) (λ j. byte_at shown j column) l (λ j t. h.units i j l t) (byte i column l m) in
    record {
      is_word =
          sums_make_a_word k r len word (λ i. get_or present i 0) (λ e. get_or lost e 0) (λ e i. byte_at table (get_or lost e 0) i)
          (omega (arith, h.range.data_most, h.range.parities_most)) (omega (arith, h.range.data_least)) h.split h.factors
          (made.count ∙ h.height) made.equal_lengths
          (λ i column l m. omega (arith, kept i column l m, byte i column l m))
          (λ e column l m.
          let p = get_or lost e 0 in
          value p column (h.split.lost_below e l) m
          ∙ sum_over_same k (λ i. byte_at table p i ⊗ byte_at shown i column) (λ i. byte_at table p i ⊗ byte_at word (get_or present i 0) column)
          (λ i q. ap (λ v. byte_at table p i ⊗ v) (sym (kept i column q m))));
      agrees =
          same_lists (rows_at word present) shown (length-map present (row_at word) ∙ h.positions.count ∙ sym count)
          (λ i d l.
          let own : i < length present = omega (arith, length-map present (row_at word)) in
          let below_k : i < k = omega (arith, h.positions.count) in
          let p = get_or present i 0 in
          let in_shown : i < length shown = omega arith in
          let in_word : p < length word = omega (arith, made.count, h.height, h.split.present_below i below_k) in
          get_or_default (rows_at word present) i d [] l
          ∙ row_at-rows_at word present i own
          ∙ same_number_lists (row_at word p) (row_at shown i) (made.equal_lengths p [] in_word ∙ sym (are_rows.equal_lengths i [] in_shown))
          (λ column m. kept i column below_k (omega (arith, made.equal_lengths p [] in_word)))
          ∙ sym (get_or_default shown i d [] in_shown));
    }

pub weights_of : (k r : ℕ) (present lost : List ℕ) (table : List (List ℕ)) → IsTableSolved k r present lost table → AreWeights k r present table
weights_of k r present lost table h = record {
  positions = h.height;
  factors = h.width;
  bytes = h.bytes;
  restore = λ word is_word bytes. restored k r present lost table word h is_word bytes;
  solve = λ shown word count are_rows made. solved k r present lost table shown word h count are_rows made;
}

-- ---- the word that `solve` makes
-- the lost rows of the word are sums of the present rows, each times its factor, and the present rows are those that were given
pub record IsWordSolved (k r : ℕ) (present lost : List ℕ) (table rows word : List (List ℕ)) : Type
    0 where
  pub range : IsInRange k r
  pub positions : ArePositions (k + r) k present
  pub lost_count : length lost ≡ r
  pub split : Splits (k + r) k r (λ i. get_or present i 0) (λ e. get_or lost e 0)
  pub factors : AreFactors k r (λ i. get_or present i 0) (λ e. get_or lost e 0) (byte_at table)
  pub height : length table ≡ r
  pub width : HaveLength k table
  pub rows_count : length rows ≡ k + r
  pub are_rows : AreRows rows
  pub count : length word ≡ k + r
  pub lengths : HaveLength (length (row_at rows 0)) word
  pub sums : AreCombinations table (rows_at rows present) (rows_at word lost)
  pub kept : (i : ℕ) → i < k → row_at word (get_or present i 0) ≡ row_at rows (get_or present i 0)

pub made_solution : (k r : ℕ) (present lost : List ℕ) (table rows word : List (List ℕ)) → IsWordSolved k r present lost table rows word → IsSolution k r present (rows_at rows present) word
made_solution k r present lost table rows word h =
    let len = length (row_at rows 0) in
    let first : length (row_at (rows_at rows present) 0) ≡ len =
    HaveLength-rows_at len rows present (λ i d l. omega (arith, h.positions.below i d l, h.rows_count)) h.are_rows.equal_lengths 0 [] (omega (arith, length-map present (row_at rows), h.positions.count, h.range.data_least)) in
    record {
      is_word =
          sums_make_a_word k r len word (λ i. get_or present i 0) (λ e. get_or lost e 0) (byte_at table)
          (omega (arith, h.range.data_most, h.range.parities_most)) (omega (arith, h.range.data_least)) h.split h.factors h.count h.lengths
          (λ i column l m.
          let p = get_or present i 0 in
          let within : p < length rows = omega (arith, h.split.present_below i l, h.rows_count) in
          omega (arith, ap (λ row. get_or row column 0) (h.kept i l), h.are_rows.bytes p [] within column 0 (omega (arith, h.are_rows.equal_lengths p [] within))))
          (λ e column l m.
          let own : e < length lost = omega (arith, h.lost_count) in
          let wide : length (row_at table e) ≡ k = h.width e [] (omega (arith, h.height)) in
          ap (λ row. get_or row column 0) (sym (row_at-rows_at word lost e own))
          ∙ h.sums.values e column (omega (arith, h.height)) (omega arith)
          ∙ combination-rows_at k table rows present e column h.positions.count wide
          ∙ sum_over_same k (λ i. byte_at table e i ⊗ byte_at rows (get_or present i 0) column) (λ i. byte_at table e i ⊗ byte_at word (get_or present i 0) column)
          (λ i q. ap (λ row. byte_at table e i ⊗ get_or row column 0) (sym (h.kept i q))));
      agrees =
          ext_get_or [] (rows_at word present) (rows_at rows present) (length-map present (row_at word) ∙ sym (length-map present (row_at rows)))
          (λ i l.
          let own : i < length present = omega (arith, length-map present (row_at word)) in
          row_at-rows_at word present i own ∙ h.kept i (omega (arith, h.positions.count)) ∙ sym (row_at-rows_at rows present i own));
    }

-- its rows are bytes
factors_are_bytes : (k r : ℕ) (present lost : List ℕ) (table rows word : List (List ℕ)) → IsWordSolved k r present lost table rows word → HoldBytes table
factors_are_bytes k r present lost table rows word h e d l i z m =
    let same : get_or table e d ≡ row_at table e = get_or_default table e d [] l in
    let wide : i < k = omega (arith, ap length same, h.width e [] l) in
    omega (arith, ap (λ row. get_or row i z) same, get_or_default (row_at table e) i z 0 (omega (arith, ap length same)), (h.factors.factor e i (omega (arith, h.height)) wide).byte)

made_bytes : (k r : ℕ) (present lost : List ℕ) (table rows word : List (List ℕ)) → IsWordSolved k r present lost table rows word → HoldBytes word
made_bytes k r present lost table rows word h p d l column z m =
    let below : All (λ q. q < length rows) present = λ i e q. omega (arith, h.positions.below i e q, h.rows_count) in
    let shown_count : length (rows_at rows present) ≡ k = length-map present (row_at rows) ∙ h.positions.count in
    let sums : HoldBytes (rows_at word lost) =
    sums_are_bytes table (rows_at rows present) (rows_at word lost) (factors_are_bytes k r present lost table rows word h) (λ i e q. h.width i e q ∙ sym shown_count) (AreRows-rows_at rows present below h.are_rows) h.sums in
    let own : get_or word p d ≡ row_at word p = get_or_default word p d [] l in
    ⊎_elim
    (λ (i, q, e).
    let kept : row_at word p ≡ row_at rows p = subst (λ x. row_at word x ≡ row_at rows x) e (h.kept i q) in
    omega (arith, ap (λ row. get_or row column z) (own ∙ kept), h.are_rows.bytes p [] (omega (arith, h.count, h.rows_count)) column z (omega (arith, ap length (own ∙ kept)))))
    (λ (x, q, e).
    let in_lost : x < length lost = omega (arith, h.lost_count) in
    let made : row_at word p ≡ row_at (rows_at word lost) x = ap (row_at word) (sym e) ∙ sym (row_at-rows_at word lost x in_lost) in
    omega (arith, ap (λ row. get_or row column z) (own ∙ made), sums x [] (omega (arith, length-map lost (row_at word))) column z (omega (arith, ap length (own ∙ made)))))
    (h.split.covers p (omega (arith, h.count)))

-- ---- the only solution
pub only_solution : (k r : ℕ) (present lost : List ℕ) (table rows word other : List (List ℕ)) → IsWordSolved k r present lost table rows word → HoldBytes other
    → IsSolution k r present (rows_at rows present) other → other ≡ word
only_solution k r present lost table rows word other h bytes solution =
    let own = made_solution k r present lost table rows word h in
    agreeing_words_are_equal k r other word present (omega (arith, h.range.data_most, h.range.parities_most)) (omega (arith, h.range.data_least)) h.positions
    solution.is_word bytes own.is_word (made_bytes k r present lost table rows word h)
    (λ i d l.
    subst (λ p. row_at other p ≡ row_at word p) (get_or_default present i 0 d l)
    (sym (row_at-rows_at other present i l) ∙ ap (λ rows. row_at rows i) (solution.agrees ∙ sym own.agrees) ∙ row_at-rows_at word present i l))

-- ---- the one table of weights
pub one_table : (k r : ℕ) (present : List ℕ) (a b : List (List ℕ)) → IsInRange k r → ArePositions (k + r) k present → AreWeights k r present a → AreWeights k r present b → a ≡ b
one_table k r present a b range positions ha hb =
    same_columns k a b (ha.positions ∙ sym hb.positions) ha.factors hb.factors (λ i inside.
    let rows = unit_rows k i in
    let count : length rows ≡ k = unit_rows_count k i in
    let are_rows : AreRows rows = unit_rows_are_rows k i in
    let sa = ha.solve rows (column_rows a i) count are_rows (unit_combinations k i a inside ha.factors ha.bytes) in
    let sb = hb.solve rows (column_rows b i) count are_rows (unit_combinations k i b inside hb.factors hb.bytes) in
    agreeing_words_are_equal k r (column_rows a i) (column_rows b i) present (omega (arith, range.data_most, range.parities_most)) (omega (arith, range.data_least)) positions
    sa.is_word (column_rows_are_bytes k i a inside ha.factors ha.bytes) sb.is_word (column_rows_are_bytes k i b inside hb.factors hb.bytes)
    (λ m d l.
    subst (λ p. row_at (column_rows a i) p ≡ row_at (column_rows b i) p) (get_or_default present m 0 d l)
    (sym (row_at-rows_at (column_rows a i) present m l) ∙ ap (λ x. row_at x m) (sa.agrees ∙ sym sb.agrees) ∙ row_at-rows_at (column_rows b i) present m l)))
