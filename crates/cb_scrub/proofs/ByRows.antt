-- The syndromes of the rows from one on: one row more in front, in a column and in a block.
use Rattle.std.proofs.Common.{◌≡◌, ℕ, zero, suc, ◌+◌, ◌-◌, ◌*◌, ◌<◌, List, [], ◌∷◌, length, get_or, drop, replicate, refl, sym, ap, ap₂, subst, ◌∙◌, ⊎_elim, ◌≤◌, arith, w8, Fits}
use Rattle.std.proofs.Math.Nat.{zero-mul, suc-mul}
use Rattle.std.proofs.lemmas.List.{get_or-drop, length-drop, drop_more, at_drop_more, at_drop_all, length-replicate, get_or-replicate}
use Rattle.std.proofs.lemmas.Bool.{cases_lt}
use Rattle.std.proofs.lemmas.Simd.{Each1-get_or}
use Rattle.std.specs.Simd.Lanes.{Each1}
use Rattle.cb_gf256.specs.Sum.{◌⊕◌, sum_over}
use Rattle.cb_gf256.specs.Product.{◌⊗◌}
use Rattle.cb_gf256.specs.Power.{power}
use Rattle.cb_gf256.specs.Rows.{row_at, byte_at, HaveLength, HoldBytes}
use Rattle.cb_gf256.specs.Lanes.{HasLanes}
use Rattle.cb_gf256.specs.CodeWord.{syndrome}
use Rattle.cb_scrub.specs.Wrong.{AreZero}
use Rattle.cb_gf256.proofs.PublicLaws.{sum_over_same, sum_over_splits, product_with_sum_over, product_associates, product_with_zero, one_with_product, power_is_byte, power_of_none, power_at_sum, sum_commutes, sum_with_zero}

no_sum : (a : ℕ) → 0 ⊕ a ≡ a
no_sum a = sum_commutes 0 a ∙ sum_with_zero a

-- a row in front: the sum so far times the power, and the row
in_front : (j column : ℕ) (row : List ℕ) (rows : List (List ℕ)) → ((p : ℕ) → p < suc (length rows) → byte_at (row ∷ rows) p column < 256)
    → (power 2 j ⊗ syndrome j rows column) ⊕ get_or row column 0 ≡ syndrome j (row ∷ rows) column
in_front j column row rows bytes =
    let n = length rows in
    let f = λ (m : ℕ). power 2 (m * j) ⊗ byte_at (row ∷ rows) m column in
    let first : get_or row column 0 ≡ f 0 =
    sym (one_with_product (get_or row column 0) (bytes 0 (omega arith))) ∙ ap (λ x. x ⊗ get_or row column 0) (sym (ap (power 2) (zero-mul j) ∙ power_of_none 2)) in
    let rest : power 2 j ⊗ syndrome j rows column ≡ sum_over n (λ m. f (1 + m)) =
    product_with_sum_over (power 2 j) n (λ m. power 2 (m * j) ⊗ byte_at rows m column)
    ∙ sum_over_same n (λ m. power 2 j ⊗ (power 2 (m * j) ⊗ byte_at rows m column)) (λ m. f (1 + m)) (λ m h.
    let place : j + m * j ≡ suc m * j = omega (arith, suc-mul m j) in
    sym (product_associates (power 2 j) (power 2 (m * j)) (byte_at rows m column) (power_is_byte 2 j (omega arith)) (power_is_byte 2 (m * j) (omega arith)) (bytes (suc m) (omega arith)))
    ∙ ap (λ x. x ⊗ byte_at rows m column) (sym (power_at_sum 2 j (m * j) (omega arith)) ∙ ap (power 2) place)
    ∙ (let next : suc m ≡ 1 + m = omega arith in ap f next)) in
    let one_more : 1 + n ≡ suc n = omega arith in
    sum_commutes (power 2 j ⊗ syndrome j rows column) (get_or row column 0)
    ∙ ap₂ ◌⊕◌ first rest
    ∙ ap (λ x. x ⊕ sum_over n (λ m. f (1 + m))) (sym (no_sum (f 0)))
    ∙ sym (sum_over_splits 1 n f)
    ∙ ap (λ k. sum_over k f) one_more

pub bytes_at : (len column : ℕ) (rows : List (List ℕ)) → HoldBytes rows → HaveLength len rows → column < len → (p : ℕ) → p < length rows → byte_at rows p column < 256
bytes_at len column rows bytes lengths inside p h = bytes p [] h column 0 (omega (arith, lengths p [] h))

-- the syndrome of the rows from row i on, where that of those behind it is known
pub row_more : (j i column : ℕ) (rows : List (List ℕ)) → i < length rows → ((p : ℕ) → p < length rows → byte_at rows p column < 256)
    → (power 2 j ⊗ syndrome j (drop (i + 1) rows) column) ⊕ byte_at rows i column ≡ syndrome j (drop i rows) column
row_more j i column rows within bytes =
    in_front j column (row_at rows i) (drop (i + 1) rows) (λ p h.
    let e : byte_at (drop i rows) p column ≡ byte_at (row_at rows i ∷ drop (i + 1) rows) p column = ap (λ xs. byte_at xs p column) (drop_more rows i [] within) in
    let there : byte_at (drop i rows) p column ≡ byte_at rows (i + p) column = ap (λ row. get_or row column 0) (get_or-drop i rows p []) in
    let b = bytes (i + p) (omega (arith, length-drop (i + 1) rows)) in
    subst (λ x. x < 256) (sym there ∙ e) b)
    ∙ sym (at_drop_more (λ xs. syndrome j xs column) rows i [] within)

-- that of the last row alone is the row
pub last_row : (j i column : ℕ) (rows : List (List ℕ)) → length rows ≡ i + 1 → ((p : ℕ) → p < length rows → byte_at rows p column < 256)
    → byte_at rows i column ≡ syndrome j (drop i rows) column
last_row j i column rows count bytes =
    let none : syndrome j (drop (i + 1) rows) column ≡ 0 = at_drop_all (λ xs. syndrome j xs column) rows (i + 1) (omega arith) in
    sym (no_sum (byte_at rows i column))
    ∙ ap (λ x. x ⊕ byte_at rows i column) (sym (ap (λ x. power 2 j ⊗ x) none ∙ product_with_zero (power 2 j)))
    ∙ row_more j i column rows (omega arith) bytes

-- sums of a block, one for each power below r, that are the syndromes of the rows from row i on
pub record AreSumsFrom (r i at : ℕ) (rows sums : List (List ℕ)) : Type 0 where
  pub count : length sums ≡ r
  pub lanes : (j : ℕ) → j < r → HasLanes (row_at sums j) (λ l. syndrome j (drop i rows) (at + l))

module _ (r at len : ℕ) (rows : List (List ℕ)) (bytes : HoldBytes rows) (lengths : HaveLength len rows) (inside : (l : ℕ) → l < 64 → at + l < len) where
  pub sums_begin : (i : ℕ) (block : List ℕ) → length rows ≡ i + 1 → HasLanes block (λ l. byte_at rows i (at + l)) → AreSumsFrom r i at rows (replicate r block)
  sums_begin i block count b = record {
    count = length-replicate r block;
    lanes = λ j h. record {
      count = ap length (get_or-replicate r j block [] h) ∙ b.count;
      each = λ l k.
          ap (λ row. get_or {A = ℕ} row l 0) (get_or-replicate r j block [] h) ∙ b.each l k ∙ last_row j i (at + l) rows count (bytes_at len (at + l) rows bytes lengths (inside l k));
    };
  }

  pub sums_more : (i : ℕ) (sums next : List (List ℕ)) (block : List ℕ) → i < length rows → AreSumsFrom r (i + 1) at rows sums → HasLanes block (λ l. byte_at rows i (at + l)) → length next ≡ r
      → ((j : ℕ) → j < r → HasLanes (row_at next j) (λ l. (power 2 j ⊗ byte_at sums j l) ⊕ get_or block l 0)) → AreSumsFrom r i at rows next
  sums_more i sums next block within s b size new = record {
    count = size;
    lanes = λ j h. record {
      count = (new j h).count;
      each = λ l k.
          (new j h).each l k
          ∙ ap₂ ◌⊕◌ (ap (λ x. power 2 j ⊗ x) ((s.lanes j h).each l k)) (b.each l k)
          ∙ row_more j i (at + l) rows within (bytes_at len (at + l) rows bytes lengths (inside l k));
    };
  }

-- a block times the power 0 of 2 is the block
pub raised_none : (j : ℕ) (block : List ℕ) → length block ≡ 64 → Each1 (Fits w8) block → j ≡ 0 → HasLanes block (λ l. power 2 j ⊗ get_or block l 0)
raised_none j block long fits none = record {
  count = long;
  each = λ l h.
      sym (one_with_product (get_or block l 0) (Each1-get_or (Fits w8) block l 0 (omega arith) fits).fits)
      ∙ ap (λ x. x ⊗ get_or block l 0) (sym (ap (power 2) none ∙ power_of_none 2));
}

-- the syndromes of one power more are 0 in a block
pub one_power_more : (n at : ℕ) (rows : List (List ℕ)) (sum : List ℕ) → AreZero n rows at (at + 64) → HasLanes sum (λ l. syndrome n rows (at + l)) → ((l : ℕ) → l < 64 → get_or sum l 0 ≡ 0) → AreZero (n + 1) rows at (at + 64)
one_power_more n at rows sum before s zeros j column below from to =
    ⊎_elim
    (λ less. before j column less from to)
    (λ last.
    let same : n ≡ j = omega arith in
    let place : at + (column - at) ≡ column = omega arith in
    let within : column - at < 64 = omega arith in
    subst (λ c. syndrome j rows c ≡ 0) place (subst (λ m. syndrome m rows (at + (column - at)) ≡ 0) same (sym (s.each (column - at) within) ∙ zeros (column - at) within)))
    (cases_lt j n)
