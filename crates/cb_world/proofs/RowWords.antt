-- The words of a row in local memory.
use Rattle.std.proofs.Common.{◌≡◌, ℕ, zero, suc, ◌+◌, ◌*◌, ◌/◌, ◌^◌, ◌<◌, ◌≤◌, List, [], ◌∷◌, ◌++◌, length, take, drop, get_or, sym, refl, ap, ◌∙◌, arith, length-append}
use Rattle.std.specs.Int.{to_le_bytes, from_le_bytes, w64}
use Rattle.std.proofs.lemmas.Nat.{from_le_bytes-to_le_bytes_8}
use Rattle.std.proofs.lemmas.List.{take_at, drop_at}
use Rattle.cb_world.specs.Memory.{window, put}
use Rattle.cb_world.proofs.Windows.{put_at}
use Rattle.cb_world.specs.RowWords.{words_from, words_in, row_of}

pub length_words : (n : ℕ) (row : List ℕ) → length (words_from n row) ≡ n
unfolding words_from
length_words zero row = refl
length_words (suc n) row = ap suc (length_words n (drop 8 row))

-- the row that words make has these words
pub words_of_row : (ws : List ℕ) → ((i : ℕ) → i < length ws → get_or ws i 0 < 2 ^ 64)
    → words_from (length ws) (row_of ws) ≡ ws
unfolding words_from
words_of_row [] small = refl
words_of_row (w ∷ ws) small =
    let t : take 8 (to_le_bytes w64 w ++ row_of ws) ≡ to_le_bytes w64 w =
    take_at (to_le_bytes w64 w) (row_of ws) 8 refl in
    let d : drop 8 (to_le_bytes w64 w ++ row_of ws) ≡ row_of ws =
    drop_at (to_le_bytes w64 w) (row_of ws) 8 refl in
    ap (λ (b : List ℕ).
    from_le_bytes w64 b ∷ words_from (length ws) (drop 8 (to_le_bytes w64 w ++ row_of ws))) t
    ∙ ap (λ (x : ℕ).
    x ∷ words_from (length ws) (drop 8 (to_le_bytes w64 w ++ row_of ws)))
    (from_le_bytes-to_le_bytes_8 w (small 0 (omega arith)))
    ∙ ap (λ (b : List ℕ). w ∷ words_from (length ws) b) d
    ∙ ap (λ (l : List ℕ). w ∷ l) (words_of_row ws (λ i l. small (suc i) (omega (arith, l))))

-- two windows of different lists with the same words
pub windows_agree : (xs ys : List ℕ) (p q n : ℕ)
    → ((i : ℕ) → i < n → get_or xs (p + i) 0 ≡ get_or ys (q + i) 0) → window xs p n ≡ window ys q n
unfolding window
windows_agree xs ys p q zero same = refl
windows_agree xs ys p q (suc n) same =
    let a : p + 0 ≡ p = omega arith in
    let b : q + 0 ≡ q = omega arith in
    ap (λ (x : ℕ). x ∷ window xs (p + 1) n) (sym (ap (λ (k : ℕ). get_or xs k 0) a)
    ∙ same 0 (omega arith) ∙ ap (λ (k : ℕ). get_or ys k 0) b)
    ∙ ap (λ (l : List ℕ). get_or ys q 0 ∷ l) (windows_agree xs ys (p + 1) (q + 1) n (λ i l.
    let c : (p + 1) + i ≡ p + suc i = omega arith in
    let d : q + suc i ≡ (q + 1) + i = omega arith in
    ap (λ (k : ℕ). get_or xs k 0) c ∙ same (suc i) (omega (arith, l))
    ∙ ap (λ (k : ℕ). get_or ys k 0) d))

-- a row has eight bytes a word
pub row_length : (words : List ℕ) → length (row_of words) ≡ 8 * length words
row_length [] = refl
row_length (w ∷ ws) =
    let e = length-append (to_le_bytes w64 w) (row_of ws) in
    let n : length (to_le_bytes w64 w) ≡ 8 = refl in
    let r = row_length ws in
    omega (arith, e, n, r)

-- the row that words make has these words and no more
pub words_in_row : (ws : List ℕ) → ((i : ℕ) → i < length ws → get_or ws i 0 < 2 ^ 64)
    → words_in (row_of ws) ≡ ws
words_in_row ws small = ap (λ (n : ℕ). words_from n (row_of ws))
    (let e = row_length ws in let n : length (row_of ws) / 8 ≡ length ws = omega (arith, e) in n)
    ∙ words_of_row ws small

-- lemma (iii): the words of a row put into a run give each slot's words back
pub row_put : (ms row : List ℕ) (base at n : ℕ) → base + length row / 8 ≤ length ms
    → at + n ≤ length row / 8
    → window (put ms base (words_in row)) (base + at) n ≡ window (words_in row) at n
row_put ms row base at n room within =
    windows_agree (put ms base (words_in row)) (words_in row) (base + at) at n (λ i l.
    let w = length_words (length row / 8) row in
    let e : (base + at) + i ≡ base + (at + i) = omega arith in
    ap (λ (k : ℕ). get_or (put ms base (words_in row)) k 0) e
    ∙ put_at ms base (words_in row) (at + i) (omega (arith, w, l, within)) (omega (
      arith,
      w,
      room,
    )))
