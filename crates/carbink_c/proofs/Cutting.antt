-- Rows one after another in a block, and the rows cut out of it.
use Rattle.std.proofs.Common.{◌≡◌, ℕ, Bool, true, false, zero, suc, ◌+◌, ◌-◌, ◌*◌, ◌^◌, ◌<◌, ◌≤◌, List, [], ◌∷◌, ◌++◌, length, take, drop, get_or, replicate, set, All, refl, sym, ap, ap₂, ◌∙◌, subst, arith}
use Rattle.std.specs.List.{concat}
use Rattle.std.proofs.Math.Nat.{add-mul, suc-mul, zero-add, zero-mul, add_comm, mul-le-mul_right}
use Rattle.std.proofs.lemmas.List.{length-take-le, length-drop, drop-drop, drop-take, get_or_default, take-take, take-append-drop, take_at, drop_at, append-nil, length-set, length-replicate, take_all, take_more, take_more_set}
use Rattle.std.proofs.lemmas.List.Folds.{concat-append}
use Rattle.std.proofs.lemmas.List.Elements.{All-cons, All-drop, All-replicate, All-set, All-take}
use Rattle.std.proofs.lemmas.Slice.{take-put_mid, drop-put_mid}
use Rattle.std.proofs.lemmas.Slice.Eq.{bytes_eq-Decides}
use Rattle.std.proofs.Math.Bool.{not}
use Rattle.std.specs.Str.{bytes_eq}
use borrow.Rule.Slice.PartMut.{put_mid}
use Rattle.cb_gf256.specs.Rows.{row_at, HaveLength, HoldBytes}
use Rattle.cb_gf256.specs.Block.{cut_rows, with_row}
use Rattle.cb_gf256.proofs.PublicLaws.{written_row}

-- ---- cutting a block

pub cut_count : (n len : ℕ) (block : List ℕ) → length (cut_rows n len block) ≡ n
cut_count zero len block = refl
cut_count (suc n) len block = ap suc (cut_count n len (drop len block))

pub cut_row : (n len : ℕ) (block : List ℕ) (i : ℕ) → i < n → row_at (cut_rows n len block) i ≡ take len (drop (i * len) block)
cut_row zero len block i h = absurd (omega arith)
cut_row (suc n) len block zero h = ap (λ k. take len (drop k block)) (sym (zero-mul len))
cut_row (suc n) len block (suc i) h =
    cut_row n len (drop len block) i (omega arith)
    ∙ ap (take len) (drop-drop (i * len) len block ∙ ap (λ k. drop k block) (add_comm len (i * len) ∙ sym (suc-mul i len)))

-- the rows of a block are those of its front and those behind them
pub cut_split : (k r len : ℕ) (block : List ℕ) → cut_rows (k + r) len block ≡ cut_rows k len (take (k * len) block) ++ cut_rows r len (drop (k * len) block)
cut_split zero r len block =
    ap (λ n. cut_rows n len block) (zero-add r) ∙ ap (λ n. cut_rows r len (drop n block)) (sym (zero-mul len))
cut_split (suc k) r len block =
    let more : suc k + r ≡ suc (k + r) = omega arith in
    let width : suc k * len ≡ len + k * len = suc-mul k len ∙ add_comm (k * len) len in
    let short : len ≤ suc k * len = omega (arith, width) in
    ap (λ n. cut_rows n len block) more
    ∙ ap (λ xs. take len block ∷ xs) (cut_split k r len (drop len block))
    ∙ ap₂ (λ x xs. x ∷ (cut_rows k len xs ++ cut_rows r len (drop (k * len) (drop len block))))
    (sym (take-take len (suc k * len) block short))
    (sym (ap (λ n. drop len (take n block)) width ∙ drop-take len (k * len) block))
    ∙ ap (λ xs. cut_rows (suc k) len (take (suc k * len) block) ++ cut_rows r len xs) (drop-drop (k * len) len block ∙ ap (λ n. drop n block) (sym width))

pub cut_bytes : (n len : ℕ) (block : List ℕ) → All (λ x. x < 2 ^ 8) block → HoldBytes (cut_rows n len block)
cut_bytes zero len block bytes = λ k d h. absurd (omega (arith, h))
cut_bytes (suc n) len block bytes =
    All-cons (All (λ x. x < 2 ^ 8)) (take len block) (cut_rows n len (drop len block)) (All-take (λ x. x < 2 ^ 8) len block bytes)
    (cut_bytes n len (drop len block) (All-drop (λ x. x < 2 ^ 8) len block bytes))

-- a buffer of k + r rows has k rows in front and r behind them
pub front_sized : (k r len : ℕ) (block : List ℕ) → length block ≡ (k + r) * len → length (take (k * len) block) ≡ k * len
front_sized k r len block sized = length-take-le (k * len) block (omega (arith, sized, add-mul k r len))

pub behind_sized : (k r len : ℕ) (block : List ℕ) → length block ≡ (k + r) * len → length (drop (k * len) block) ≡ r * len
behind_sized k r len block sized = length-drop (k * len) block ∙ omega (arith, sized, add-mul k r len)

-- what a slice of bytes is known to hold
pub are_bytes : (block : List ℕ) → ((i : ℕ) → get_or block i 0 < 2 ^ 8) → All (λ x. x < 2 ^ 8) block
are_bytes block bytes i d h = subst (λ x. x < 2 ^ 8) (get_or_default block i 0 d h) (bytes i)

-- row i ends within the block
pub row_inside : (n len i : ℕ) → i < n → i * len + len ≤ n * len
row_inside n len i h = omega (arith, suc-mul i len, mul-le-mul_right len h)

-- each row that is cut from a block of just so many is as long as it should be
pub cut_long : (n len : ℕ) (block : List ℕ) (i : ℕ) → i < n → length block ≡ n * len → length (row_at (cut_rows n len block) i) ≡ len
cut_long n len block i h sized =
    ap length (cut_row n len block i h) ∙ length-take-le len (drop (i * len) block) (omega (arith, length-drop (i * len) block, row_inside n len i h, sized))

pub cut_lengths : (n len : ℕ) (block : List ℕ) → length block ≡ n * len → HaveLength len (cut_rows n len block)
cut_lengths n len block sized k d h =
    let within : k < n = omega (arith, h, cut_count n len block) in
    ap length (get_or_default (cut_rows n len block) k d [] h) ∙ cut_long n len block k within sized

pub cut_joined : (len : ℕ) (rows : List (List ℕ)) → HaveLength len rows → cut_rows (length rows) len (concat rows) ≡ rows
cut_joined len [] h = refl
cut_joined len (x ∷ xs) h =
    let first : length x ≡ len = h 0 [] (omega arith) in
    ap₂ ◌∷◌ (take_at x (concat xs) len first)
    (ap (cut_rows (length xs) len) (drop_at x (concat xs) len first) ∙ cut_joined len xs (λ k d l. h (suc k) d (omega arith)))

-- ---- a block that is filled from rows

concat_more : (xss : List (List ℕ)) (xs : List ℕ) → concat (xss ++ xs ∷ []) ≡ concat xss ++ xs
concat_more xss xs = concat-append xss (xs ∷ []) ∙ ap (λ r. concat xss ++ r) (append-nil xs)

-- the block so far has the rows before row i
pub filled_more : (len i k : ℕ) (rows : List (List ℕ)) (block row : List ℕ) → i < length rows → HaveLength len rows → length block ≡ length rows * len → row ≡ row_at rows i
    → take (i * len) block ≡ concat (take i rows) → take ((i + 1) * len) (put_mid (i * len) k block row) ≡ concat (take (i + 1) rows)
filled_more len i k rows block row within lengths sized is front =
    let long : length row ≡ len = ap length is ∙ lengths i [] within in
    let inside : i * len + len ≤ length block = omega (arith, row_inside (length rows) len i within, sized) in
    let next : i + 1 ≡ suc i = omega arith in
    take-put_mid (i * len) k block row ((i + 1) * len) (ap (λ n. n * len) next ∙ suc-mul i len ∙ ap (λ n. i * len + n) (sym long)) (omega (arith, inside))
    ∙ ap₂ ◌++◌ front is ∙ sym (concat_more (take i rows) (row_at rows i)) ∙ ap concat (sym (take_more rows i [] within))

pub filled_all : (len i : ℕ) (rows : List (List ℕ)) (block : List ℕ) → i ≡ length rows → HaveLength len rows → length block ≡ length rows * len
    → take (i * len) block ≡ concat (take i rows) → cut_rows (length rows) len block ≡ rows
filled_all len i rows block all lengths sized front =
    let whole : take (length rows * len) block ≡ concat (take (length rows) rows) = subst (λ (n : ℕ). take (n * len) block ≡ concat (take n rows)) all front in
    let is : block ≡ concat rows = sym (take_all (length rows * len) block (omega (arith, sized))) ∙ whole ∙ ap concat (take_all (length rows) rows (omega arith)) in
    ap (cut_rows (length rows) len) is ∙ cut_joined len rows lengths

-- row i stands in the block already
pub filled_kept : (len i : ℕ) (rows : List (List ℕ)) (old block : List ℕ) → i < length rows → row_at (cut_rows (length rows) len old) i ≡ row_at rows i
    → take (i * len) block ≡ concat (take i rows) → drop (i * len) block ≡ drop (i * len) old → take ((i + 1) * len) block ≡ concat (take (i + 1) rows)
filled_kept len i rows old block within stands front behind =
    let next : (i + 1) * len ≡ i * len + len = ap (λ n. n * len) (omega arith) ∙ suc-mul i len in
    let part : take len (drop (i * len) block) ≡ row_at rows i = ap (take len) behind ∙ sym (cut_row (length rows) len old i within) ∙ stands in
    ap (λ n. take n block) next
    ∙ sym (take-append-drop (i * len) (take (i * len + len) block))
    ∙ ap₂ ◌++◌ (take-take (i * len) (i * len + len) block (omega arith) ∙ front) (drop-take (i * len) len block ∙ part)
    ∙ sym (concat_more (take i rows) (row_at rows i)) ∙ ap concat (sym (take_more rows i [] within))

-- what lies behind row i is as it was
pub behind_more : (len i : ℕ) (old block : List ℕ) → drop (i * len) block ≡ drop (i * len) old → drop ((i + 1) * len) block ≡ drop ((i + 1) * len) old
behind_more len i old block behind =
    let next : (i + 1) * len ≡ i * len + len = ap (λ n. n * len) (omega arith) ∙ suc-mul i len in
    ap (λ n. drop n block) next ∙ sym (drop-drop len (i * len) block) ∙ ap (drop len) behind ∙ drop-drop len (i * len) old ∙ ap (λ n. drop n old) (sym next)

pub behind_put : (len i k : ℕ) (rows : List (List ℕ)) (old block row : List ℕ) → i < length rows → HaveLength len rows → length block ≡ length rows * len → row ≡ row_at rows i
    → k ≡ i * len + len - i * len → drop (i * len) block ≡ drop (i * len) old → drop ((i + 1) * len) (put_mid (i * len) k block row) ≡ drop ((i + 1) * len) old
behind_put len i k rows old block row within lengths sized is wide behind =
    let long : length row ≡ len = ap length is ∙ lengths i [] within in
    let width : k ≡ len = wide ∙ omega arith in
    let inside : i * len + len ≤ length block = omega (arith, row_inside (length rows) len i within, sized) in
    let next : (i + 1) * len ≡ i * len + len = ap (λ n. n * len) (omega arith) ∙ suc-mul i len in
    drop-put_mid (i * len) k block row ((i + 1) * len) (omega (arith, next, width)) (omega (arith, inside)) (long ∙ sym width)
    ∙ behind_more len i old block behind

-- ---- rows that are filled from a block

-- the rows before row i are those of the block
pub record Filled (len count i : ℕ) (block : List ℕ) (rows : List (List ℕ)) : Type 0 where
  pub count_is : length rows ≡ count
  pub lengths : HaveLength len rows
  pub front : take i rows ≡ take i (cut_rows count len block)

pub rows_none : (len count : ℕ) (block : List ℕ) (rows : List (List ℕ)) → rows ≡ replicate count (replicate len 0) → Filled len count 0 block rows
rows_none len count block rows is = record {
  count_is = ap length is ∙ length-replicate count (replicate len 0);
  lengths = subst (HaveLength len) (sym is) (All-replicate (λ xs. length xs ≡ len) count (replicate len 0) (length-replicate len 0));
  front = refl;
}

pub rows_more : (len count i : ℕ) (block : List ℕ) (rows : List (List ℕ)) (bytes : List ℕ) → i < count → length block ≡ count * len
    → bytes ≡ take (i * len + len - i * len) (drop (i * len) block) → Filled len count i block rows → Filled len count (i + 1) block (with_row rows i bytes)
rows_more len count i block rows bytes within sized is so_far =
    let cut = cut_rows count len block in
    let here : i < length rows = omega (arith, within, so_far.count_is) in
    let row : bytes ≡ row_at cut i = is ∙ ap (λ n. take n (drop (i * len) block)) (omega arith) ∙ sym (cut_row count len block i within) in
    let inside : i * len + len ≤ length block = omega (arith, row_inside count len i within, sized) in
    let long : length bytes ≡ len = ap length is ∙ length-take-le (i * len + len - i * len) (drop (i * len) block) (omega (arith, length-drop (i * len) block, inside)) ∙ omega arith in
    let now : with_row rows i bytes ≡ set rows i bytes = written_row rows i bytes (subst (λ n. HaveLength n rows) (sym long) so_far.lengths) here in
    subst (Filled len count (i + 1) block) (sym now) (record {
      count_is = length-set rows i bytes ∙ so_far.count_is;
      lengths = All-set (λ xs. length xs ≡ len) rows i bytes long so_far.lengths;
      front = take_more_set rows i bytes here ∙ ap₂ (λ xs x. xs ++ x ∷ []) so_far.front row ∙ sym (take_more cut i [] (omega (arith, cut_count count len block, within)));
    })

pub rows_all : (len count i : ℕ) (block : List ℕ) (rows : List (List ℕ)) → i ≡ count → Filled len count i block rows → rows ≡ cut_rows count len block
rows_all len count i block rows all so_far =
    let cut = cut_rows count len block in
    sym (take_all i rows (omega (arith, all, so_far.count_is))) ∙ so_far.front ∙ take_all i cut (omega (arith, all, cut_count count len block))

-- ---- a block that is compared with rows

told_same : (b : Bool) → not b ≡ false → b ≡ true
told_same true e = refl
told_same false e = sym e

module _ (len i : ℕ) (rows : List (List ℕ)) (block row : List ℕ) (within : i < length rows) (is : row ≡ row_at rows i) where
  abbrev part : List ℕ
  part = take (i * len + len - i * len) (drop (i * len) block)

  cut_part : row_at (cut_rows (length rows) len block) i ≡ part
  cut_part =
      let width : len ≡ i * len + len - i * len = omega arith in
      cut_row (length rows) len block i within ∙ ap (λ n. take n (drop (i * len) block)) width

  -- row i is that of the block
  pub same_more : not (bytes_eq row part) ≡ false → take i (cut_rows (length rows) len block) ≡ take i rows → take (i + 1) (cut_rows (length rows) len block) ≡ take (i + 1) rows
  same_more told front =
      let same : row ≡ part = (bytes_eq-Decides row part).0 (told_same (bytes_eq row part) told) in
      take_more (cut_rows (length rows) len block) i [] (omega (arith, cut_count (length rows) len block, within))
      ∙ ap₂ (λ xs x. xs ++ x ∷ []) front (cut_part ∙ sym same ∙ is) ∙ sym (take_more rows i [] within)

  -- row i is another than that of the block
  pub other_row : not (bytes_eq row part) ≡ true → cut_rows (length rows) len block ≡ rows → ⊥
  other_row told same =
      let equal : row ≡ part = is ∙ ap (λ xs. row_at xs i) (sym same) ∙ cut_part in
      let e : bytes_eq row part ≡ true = (bytes_eq-Decides row part).1 equal in
      let contra : false ≡ true = ap not (sym e) ∙ told in cc

pub same_all : (len i : ℕ) (rows : List (List ℕ)) (block : List ℕ) → i ≡ length rows → take i (cut_rows (length rows) len block) ≡ take i rows → cut_rows (length rows) len block ≡ rows
same_all len i rows block all front =
    let cut = cut_rows (length rows) len block in
    sym (take_all i cut (omega (arith, all, cut_count (length rows) len block))) ∙ front ∙ take_all i rows (omega (arith, all))
