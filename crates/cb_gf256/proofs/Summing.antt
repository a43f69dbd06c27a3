-- A block of sums, row after row.
use Rattle.std.proofs.Common.{◌≡◌, ℕ, ◌+◌, ◌<◌, List, [], length, get_or, replicate, sym, ap, ap₂, ◌∙◌, arith, add-one}
use Rattle.std.proofs.lemmas.List.{get_or-map, length-map, ext_get_or}
use Rattle.std.proofs.lemmas.Simd.{get_or-replicate, length-replicate}
use Rattle.cb_gf256.specs.Sum.{◌⊕◌, sum_over}
use Rattle.cb_gf256.specs.Product.{◌⊗◌}
use Rattle.cb_gf256.specs.Rows.{row_at, byte_at, rows_at}
use Rattle.cb_gf256.specs.Lanes.{HasLanes}
use Rattle.cb_gf256.specs.Combination.{combination}

-- the sum of the first i rows, each times its factor
abbrev pub sum_of_first : ℕ → List ℕ → List (List ℕ) → ℕ → ℕ
sum_of_first i factors rows column = sum_over i (λ m. get_or factors m 0 ⊗ byte_at rows m column)

-- the blocks of the first r sums, from a place on, of the first i rows
pub record BlockSums (r i at : ℕ) (table shown sums : List (List ℕ)) : Type 0 where
  pub count : length sums ≡ r
  pub lanes : (j : ℕ) → j < r → HasLanes (row_at sums j) (λ l. sum_of_first i (row_at table j) shown (at + l))

pub row_at-rows_at : (rows : List (List ℕ)) (positions : List ℕ) (i : ℕ) → i < length positions → row_at (rows_at rows positions) i ≡ row_at rows (get_or positions i 0)
row_at-rows_at rows positions i h = get_or-map (row_at rows) positions i 0 [] h

pub block_sums_none : (r at : ℕ) (table shown : List (List ℕ)) → BlockSums r 0 at table shown (replicate r (replicate 64 0))
block_sums_none r at table shown = record {
  count = length-replicate r (replicate 64 0);
  lanes = λ j h. record {
    count = ap length (get_or-replicate r j (replicate 64 0) [] h);
    each = λ l k. ap (λ row. get_or {A = ℕ} row l 0) (get_or-replicate r j (replicate 64 0) [] h) ∙ get_or-replicate 64 l 0 0 k;
  };
}

-- a block of the row at position i
pub shown_block : (rows : List (List ℕ)) (positions : List ℕ) (i at : ℕ) (row block : List ℕ) → i < length positions → row ≡ row_at rows (get_or positions i 0)
    → HasLanes block (λ l. get_or row (at + l) 0) → HasLanes block (λ l. byte_at (rows_at rows positions) i (at + l))
shown_block rows positions i at row block h e b = record {
  count = b.count;
  each = λ l k. b.each l k ∙ ap (λ x. get_or x (at + l) 0) (e ∙ sym (row_at-rows_at rows positions i h));
}

pub block_sums_more : (r i at : ℕ) (table shown sums next : List (List ℕ)) (block : List ℕ) → BlockSums r i at table shown sums → HasLanes block (λ l. byte_at shown i (at + l)) → length next ≡ r
    → ((j : ℕ) → j < r → HasLanes (row_at next j) (λ l. byte_at sums j l ⊕ (byte_at table j i ⊗ get_or block l 0)))
    → BlockSums r (i + 1) at table shown next
block_sums_more r i at table shown sums next block h b size new = record {
  count = size;
  lanes = λ j k. record {
    count = (new j k).count;
    each = λ l q.
        (new j k).each l q
        ∙ ap₂ ◌⊕◌ ((h.lanes j k).each l q) (ap (λ x. byte_at table j i ⊗ x) (b.each l q))
        ∙ ap (λ n. sum_of_first n (row_at table j) shown (at + l)) (sym (add-one i));
  };
}

-- with all rows the sums are the combinations
pub all_summed : (n : ℕ) (factors : List ℕ) (shown : List (List ℕ)) (column : ℕ) → length factors ≡ n → sum_of_first n factors shown column ≡ combination factors shown column
all_summed n factors shown column e = ap (λ i. sum_of_first i factors shown column) (sym e)

-- the rows at all positions, in order, are all rows
pub all_rows : (rows : List (List ℕ)) (positions : List ℕ) → length positions ≡ length rows → ((i : ℕ) → i < length rows → get_or positions i 0 ≡ i) → rows_at rows positions ≡ rows
all_rows rows positions count at =
    ext_get_or [] (rows_at rows positions) rows (length-map positions (row_at rows) ∙ count) (λ i h.
    let within : i < length positions = omega (arith, length-map positions (row_at rows)) in
    row_at-rows_at rows positions i within ∙ ap (row_at rows) (at i (omega arith)))
