-- Lists of rows cut out of one block.
use Rattle.std.proofs.Common.{◌≡◌, ℕ, zero, suc, ◌+◌, ◌-◌, ◌*◌, ◌^◌, ◌<◌, ◌≤◌, List, [], ◌∷◌, ◌++◌, length, take, drop, get_or, set, replicate, refl, sym, ap, ap₂, ◌∙◌, subst, ⊎_elim, arith, All}
use Rattle.std.specs.List.{concat}
use Rattle.std.specs.Simd.Lanes.{put_chunk}
use Rattle.std.proofs.Math.Nat.{suc-mul, zero-mul, add_comm, mul-le-mul_right}
use Rattle.std.proofs.Math.Seq.{take-append-add}
use Rattle.std.proofs.lemmas.List.{length-take, length-take-le, length-drop, drop-drop, drop-take, take-take, take-replicate, drop-replicate, take-append-drop, take_at, drop_at, append_assoc, length-append, get_or-take, get_or-drop, get_or_default, nil_from_length, get_or-set_same, get_or-set_other}
use Rattle.std.proofs.lemmas.Bool.{cases_eq}
use Rattle.cb_gf256.specs.Rows.{row_at, HaveLength, HoldBytes, AreRows}
use Rattle.cb_gf256.specs.Block.{cut_rows, overwritten, with_row}

pub length-cut_rows : (n len : ℕ) (block : List ℕ) → length (cut_rows n len block) ≡ n
length-cut_rows zero len block = refl
length-cut_rows (suc n) len block = ap suc (length-cut_rows n len (drop len block))

pub row_at-cut_rows : (n len : ℕ) (block : List ℕ) (i : ℕ) → i < n → row_at (cut_rows n len block) i ≡ take len (drop (i * len) block)
row_at-cut_rows zero len block i h = absurd (omega arith)
row_at-cut_rows (suc n) len block zero h = ap (λ k. take len (drop k block)) (sym (zero-mul len))
row_at-cut_rows (suc n) len block (suc i) h =
    row_at-cut_rows n len (drop len block) i (omega arith)
    ∙ ap (take len) (drop-drop (i * len) len block ∙ ap (λ k. drop k block) (add_comm len (i * len) ∙ sym (suc-mul i len)))

-- the rows before row i end within the block
pub rows_before : (n len i : ℕ) → i < n → i * len + len ≤ n * len
rows_before n len i h = omega (arith, suc-mul i len, mul-le-mul_right len h)

pub cut_rows-replicate : (n len x : ℕ) → cut_rows n len (replicate (n * len) x) ≡ replicate n (replicate len x)
cut_rows-replicate zero len x = refl
cut_rows-replicate (suc n) len x =
    ap₂ ◌∷◌
    (ap (λ k. take len (replicate k x)) (suc-mul n len) ∙ take-replicate len (n * len + len) x (omega arith))
    (ap (λ k. cut_rows n len (drop len (replicate k x))) (suc-mul n len)
    ∙ ap (cut_rows n len) (drop-replicate len (n * len + len) x ∙ ap (λ k. replicate k x) (omega arith))
    ∙ cut_rows-replicate n len x)

pub HaveLength-cut_rows : (n len : ℕ) (block : List ℕ) → length block ≡ n * len → HaveLength len (cut_rows n len block)
HaveLength-cut_rows n len block e k d h =
    let within : k < n = omega (arith, length-cut_rows n len block) in
    let room : len ≤ length (drop (k * len) block) = omega (arith, length-drop (k * len) block, rows_before n len k within) in
    ap length (get_or_default (cut_rows n len block) k d [] h ∙ row_at-cut_rows n len block k within) ∙ length-take-le len (drop (k * len) block) room

pub HoldBytes-cut_rows : (n len : ℕ) (block : List ℕ) → All (λ x. x < 2 ^ 8) block → length block ≡ n * len → HoldBytes (cut_rows n len block)
HoldBytes-cut_rows n len block bytes e k d h j z l =
    let within : k < n = omega (arith, length-cut_rows n len block) in
    let room : k * len + len ≤ length block = omega (arith, rows_before n len k within) in
    let row : get_or (cut_rows n len block) k d ≡ take len (drop (k * len) block) =
    get_or_default (cut_rows n len block) k d [] h ∙ row_at-cut_rows n len block k within in
    let short : j < len = omega (arith, ap length row, length-take len (drop (k * len) block)) in
    subst (λ x. x < 2 ^ 8) (sym (ap (λ r. get_or r j z) row ∙ get_or-take len (drop (k * len) block) j z short ∙ get_or-drop (k * len) block j z))
    (bytes (k * len + j) z (omega arith))

pub AreRows-cut_rows : (n len : ℕ) (block : List ℕ) → ((k : ℕ) → get_or block k 0 < 2 ^ 8) → length block ≡ n * len → AreRows (cut_rows n len block)
AreRows-cut_rows n len block bytes e = record {
  equal_lengths = λ k d h.
      let lens = HaveLength-cut_rows n len block e in
      lens k d h ∙ sym (lens 0 [] (omega arith));
  bytes = HoldBytes-cut_rows n len block (λ k d h. subst (λ x. x < 2 ^ 8) (get_or_default block k 0 d h) (bytes k)) e;
}

-- ---- a block that is overwritten
pub cut_rows-take : (n len m : ℕ) (block : List ℕ) → n * len ≤ m → cut_rows n len (take m block) ≡ cut_rows n len block
cut_rows-take zero len m block h = refl
cut_rows-take (suc n) len m block h =
    let room : n * len + len ≤ m = omega (arith, suc-mul n len) in
    let split : len + (m - len) ≡ m = omega arith in
    ap₂ ◌∷◌ (take-take len m block (omega arith))
    (ap (λ k. cut_rows n len (drop len (take k block))) (sym split) ∙ ap (cut_rows n len) (drop-take len (m - len) block) ∙ cut_rows-take n len (m - len) (drop len block) (omega arith))

pub cut_rows-append : (n len : ℕ) (xs ys : List ℕ) → n * len ≤ length xs → cut_rows n len (xs ++ ys) ≡ cut_rows n len xs
cut_rows-append n len xs ys h =
    sym (cut_rows-take n len (length xs) (xs ++ ys) h) ∙ ap (cut_rows n len) (take_at xs ys (length xs) refl)

pub concat-cut_rows : (n len : ℕ) (block : List ℕ) → length block ≡ n * len → concat (cut_rows n len block) ≡ block
concat-cut_rows zero len block h = sym (nil_from_length block (h ∙ zero-mul len))
concat-cut_rows (suc n) len block h =
    let whole : length block ≡ n * len + len = h ∙ suc-mul n len in
    ap (λ r. take len block ++ r) (concat-cut_rows n len (drop len block) (length-drop len block ∙ omega arith)) ∙ take-append-drop len block

pub length-overwritten : (block : List ℕ) (at : ℕ) (bytes : List ℕ) → at ≤ length block → length block ≤ length (overwritten block at bytes)
length-overwritten block at bytes h =
    omega (
      arith,
      length-append (take at block) (bytes ++ drop (length bytes) (drop at block)),
      length-append bytes (drop (length bytes) (drop at block)),
      length-take-le at block h,
      length-drop (length bytes) (drop at block),
      length-drop at block,
    )

-- a row of the block is written over
pub with_row-cut_rows : (n len i : ℕ) (block bytes : List ℕ) → i < n → length block ≡ n * len → cut_rows n len (take (length block) (overwritten block (i * len) bytes ++ drop (length (overwritten block (i * len) bytes)) block)) ≡ with_row (cut_rows n len block) i bytes
unfolding with_row
with_row-cut_rows n len i block bytes h e =
    let rows = cut_rows n len block in
    let written = overwritten block (i * len) bytes in
    let inside : i * len + len ≤ length block = omega (arith, rows_before n len i h) in
    let width : length (row_at rows i) ≡ len = HaveLength-cut_rows n len block e i [] (omega (arith, length-cut_rows n len block)) in
    cut_rows-take n len (length block) (written ++ drop (length written) block) (omega arith)
    ∙ cut_rows-append n len written (drop (length written) block) (omega (arith, length-overwritten block (i * len) bytes (omega arith)))
    ∙ ap (λ b. cut_rows n len (overwritten b (i * len) bytes)) (sym (concat-cut_rows n len block e))
    ∙ ap (λ l. cut_rows n l (overwritten (concat rows) (i * l) bytes)) (sym width)
    ∙ ap (λ m. cut_rows m (length (row_at rows i)) (overwritten (concat rows) (i * length (row_at rows i)) bytes)) (sym (length-cut_rows n len block))

-- to write past the first part of a block leaves that part
overwritten_past : (xs ys : List ℕ) (n at : ℕ) (bytes : List ℕ) → length xs ≡ n → overwritten (xs ++ ys) (n + at) bytes ≡ xs ++ overwritten ys at bytes
overwritten_past xs ys n at bytes h =
    ap₂ (λ front rest. front ++ (bytes ++ drop (length bytes) rest))
    (ap (λ k. take (k + at) (xs ++ ys)) (sym h) ∙ take-append-add xs ys at)
    (sym (drop-drop at n (xs ++ ys)) ∙ ap (drop at) (drop_at xs ys n h))
    ∙ append_assoc xs (take at ys) (bytes ++ drop (length bytes) (drop at ys))

-- ---- the rows that a loan of one row leaves
pub cut_rows-concat : (len : ℕ) (rows : List (List ℕ)) → HaveLength len rows → cut_rows (length rows) len (concat rows) ≡ rows
cut_rows-concat len [] h = refl
cut_rows-concat len (x ∷ xs) h =
    let first : length x ≡ len = h 0 [] (omega arith) in
    ap₂ ◌∷◌ (take_at x (concat xs) len first)
    (ap (cut_rows (length xs) len) (drop_at x (concat xs) len first) ∙ cut_rows-concat len xs (λ k d l. h (suc k) d (omega arith)))

written_row : (len : ℕ) (rows : List (List ℕ)) (i : ℕ) (bytes : List ℕ) → HaveLength len rows → i < length rows → length bytes ≡ len → cut_rows (length rows) len (overwritten (concat rows) (i * len) bytes) ≡ set rows i bytes
written_row len [] i bytes h l e = absurd (omega arith)
written_row len (x ∷ xs) zero bytes h l e =
    let first : length x ≡ length bytes = h 0 [] (omega arith) ∙ sym e in
    ap (λ k. cut_rows (suc (length xs)) len (overwritten (x ++ concat xs) k bytes)) (zero-mul len)
    ∙ ap (λ rest. cut_rows (suc (length xs)) len (bytes ++ rest)) (drop_at x (concat xs) (length bytes) first)
    ∙ cut_rows-concat len (bytes ∷ xs) (λ k d m. same_or_set k d m)
  where
    same_or_set : (k : ℕ) (d : List ℕ) → k < length (bytes ∷ xs) → length (get_or (bytes ∷ xs) k d) ≡ len
    same_or_set zero d m = e
    same_or_set (suc k) d m = h (suc k) d m
written_row len (x ∷ xs) (suc i) bytes h l e =
    let first : length x ≡ len = h 0 [] (omega arith) in
    ap (λ b. cut_rows (suc (length xs)) len b) (ap (λ k. overwritten (x ++ concat xs) k bytes) (suc-mul i len ∙ add_comm (i * len) len) ∙ overwritten_past x (concat xs) len (i * len) bytes first)
    ∙ ap₂ ◌∷◌ (take_at x (overwritten (concat xs) (i * len) bytes) len first)
    (ap (cut_rows (length xs) len) (drop_at x (overwritten (concat xs) (i * len) bytes) len first) ∙ written_row len xs i bytes (λ k d m. h (suc k) d (omega arith)) (omega arith) e)

-- what is lent and written back is one row, where it is as long as the rows
pub with_row-set : (rows : List (List ℕ)) (i : ℕ) (bytes : List ℕ) → HaveLength (length bytes) rows → i < length rows → with_row rows i bytes ≡ set rows i bytes
unfolding with_row
with_row-set rows i bytes h l =
    ap (λ len. cut_rows (length rows) len (overwritten (concat rows) (i * len) bytes)) (h i [] l)
    ∙ written_row (length bytes) rows i bytes h l refl

pub length-with_row : (rows : List (List ℕ)) (i : ℕ) (bytes : List ℕ) → length (with_row rows i bytes) ≡ length rows
unfolding with_row
length-with_row rows i bytes = length-cut_rows (length rows) (length (row_at rows i)) (overwritten (concat rows) (i * length (row_at rows i)) bytes)

pub HaveLength-with_row : (len : ℕ) (rows : List (List ℕ)) (i : ℕ) (bytes : List ℕ) → HaveLength len rows → length bytes ≡ len → i < length rows → HaveLength len (with_row rows i bytes)
HaveLength-with_row len rows i bytes h e l k d m =
    let within : k < length rows = omega (arith, length-with_row rows i bytes) in
    let written : with_row rows i bytes ≡ set rows i bytes = with_row-set rows i bytes (subst (λ n. HaveLength n rows) (sym e) h) l in
    ap (λ rows. length (get_or rows k d)) written
    ∙ ⊎_elim
    (λ same. ap (λ j. length (get_or (set rows i bytes) j d)) same ∙ ap length (get_or-set_same rows i bytes d l) ∙ e)
    (λ other. ap length (get_or-set_other rows i k bytes d other) ∙ h k d within)
    (cases_eq k i)

-- ---- bytes that are written over one row
take_written : (m i : ℕ) (xs ys : List ℕ) → i + length ys ≤ m → take m (put_chunk i xs ys) ≡ put_chunk i (take m xs) ys
take_written zero i xs ys h = refl
take_written (suc m) i [] ys h = refl
take_written (suc m) zero (x ∷ xs) [] h = refl
take_written (suc m) zero (x ∷ xs) (y ∷ ys) h = ap (λ r. y ∷ r) (take_written m zero xs ys (omega arith))
take_written (suc m) (suc i) (x ∷ xs) ys h = ap (λ r. x ∷ r) (take_written m i xs ys (omega arith))

drop_written : (m i : ℕ) (xs ys : List ℕ) → i + length ys ≤ m → drop m (put_chunk i xs ys) ≡ drop m xs
drop_written m i [] ys h = refl
drop_written zero zero (x ∷ xs) [] h = refl
drop_written zero zero (x ∷ xs) (y ∷ ys) h = absurd (omega arith)
drop_written zero (suc i) (x ∷ xs) ys h = absurd (omega arith)
drop_written (suc m) zero (x ∷ xs) [] h = refl
drop_written (suc m) zero (x ∷ xs) (y ∷ ys) h = drop_written m zero xs ys (omega arith)
drop_written (suc m) (suc i) (x ∷ xs) ys h = drop_written m i xs ys (omega arith)

take_before : (m p : ℕ) (xs ys : List ℕ) → m ≤ p → take m (put_chunk p xs ys) ≡ take m xs
take_before zero p xs ys h = refl
take_before (suc m) p [] ys h = refl
take_before (suc m) zero (x ∷ xs) ys h = absurd (omega arith)
take_before (suc m) (suc p) (x ∷ xs) ys h = ap (λ r. x ∷ r) (take_before m p xs ys (omega arith))

drop_before : (m p i : ℕ) (xs ys : List ℕ) → p ≡ m + i → drop m (put_chunk p xs ys) ≡ put_chunk i (drop m xs) ys
drop_before zero p i xs ys e = let same : p ≡ i = omega arith in ap (λ k. put_chunk k xs ys) same
drop_before (suc m) p i [] ys e = refl
drop_before (suc m) zero i (x ∷ xs) ys e = absurd (omega arith)
drop_before (suc m) (suc p) i (x ∷ xs) ys e = drop_before m p i xs ys (omega arith)

pub cut_rows-put_chunk : (n len t at : ℕ) (block bytes : List ℕ) → t < n → at + length bytes ≤ len
    → cut_rows n len (put_chunk (t * len + at) block bytes) ≡ set (cut_rows n len block) t (put_chunk at (row_at (cut_rows n len block) t) bytes)
cut_rows-put_chunk zero len t at block bytes h room = absurd (omega arith)
cut_rows-put_chunk (suc n) len zero at block bytes h room =
    let place : 0 * len + at ≡ at = omega (arith, zero-mul len) in
    ap (λ k. cut_rows (suc n) len (put_chunk k block bytes)) place
    ∙ ap₂ ◌∷◌ (take_written len at block bytes room) (ap (cut_rows n len) (drop_written len at block bytes room))
cut_rows-put_chunk (suc n) len (suc t) at block bytes h room =
    let place : suc t * len + at ≡ len + (t * len + at) = omega (arith, suc-mul t len) in
    ap₂ ◌∷◌ (take_before len (suc t * len + at) block bytes (omega arith))
    (ap (cut_rows n len) (drop_before len (suc t * len + at) (t * len + at) block bytes place) ∙ cut_rows-put_chunk n len t at (drop len block) bytes (omega arith) room)

-- one byte
written_none : (xs : List ℕ) → put_chunk 0 xs [] ≡ xs
written_none [] = refl
written_none (x ∷ xs) = refl

pub set-put_chunk : (xs : List ℕ) (i x : ℕ) → set xs i x ≡ put_chunk i xs (x ∷ [])
set-put_chunk [] i x = refl
set-put_chunk (y ∷ ys) zero x = ap (λ r. x ∷ r) (sym (written_none ys))
set-put_chunk (y ∷ ys) (suc i) x = ap (λ r. y ∷ r) (set-put_chunk ys i x)

-- ---- rows of one length are cut by any length that they have, also where there is none
pub cut_rows-same : (n len m : ℕ) (block : List ℕ) → length block ≡ n * len → HaveLength m (cut_rows n len block) → (length block ≡ n * m) × ((other : List ℕ) → cut_rows n m other ≡ cut_rows n len other)
cut_rows-same zero len m block e h = (e ∙ zero-mul len ∙ sym (zero-mul m), λ other. refl)
cut_rows-same (suc n) len m block e h =
    let same : len ≡ m = sym (HaveLength-cut_rows (suc n) len block e 0 [] (omega arith)) ∙ h 0 [] (omega arith) in
    (e ∙ ap (λ l. suc n * l) same, λ other. ap (λ l. cut_rows (suc n) l other) (sym same))

-- a block of rows that is lent, and what was written is back
pub record Lent (n m : ℕ) (rows now : List (List ℕ)) (given new : List ℕ) : Type 0 where
  pub whole : length new ≡ n * m
  pub was : cut_rows n m given ≡ rows
  pub is : cut_rows n m new ≡ now

pub lent : (n len m : ℕ) (items given new back : List ℕ) (rows : List (List ℕ)) → length items ≡ n * len → cut_rows n len items ≡ rows → HaveLength m rows → given ≡ items → length new ≡ length given
    → (length new ≡ length items → back ≡ new) → Lent n m rows (cut_rows n len back) given new
lent n len m items given new back rows e view even at sized written =
    let same = cut_rows-same n len m items e (subst (HaveLength m) (sym view) even) in
    let all : length new ≡ length items = sized ∙ ap length at in
    record {
      whole = all ∙ same.0;
      was = ap (cut_rows n m) at ∙ same.1 items ∙ view;
      is = same.1 new ∙ ap (cut_rows n len) (sym (written all));
    }
