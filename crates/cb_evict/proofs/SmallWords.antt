-- The words of an object in the row of its span, where each is one of 64 bits.
use Rattle.std.proofs.Common.{◌≡◌, ℕ, zero, suc, ◌+◌, ◌-◌, ◌/◌, ◌^◌, ◌<◌, ◌≤◌, List, [], ◌∷◌, length, get_or, All, sym, refl, ap, ◌∙◌, arith}
use Rattle.std.specs.Int.{to_le_bytes, from_le_bytes, w64}
use Rattle.std.proofs.lemmas.Nat.{from_le_bytes-to_le_bytes_8}
use Rattle.std.proofs.lemmas.List.{take_at, drop_at, get_or_default}
use Rattle.cb_world.specs.Memory.{window}
use Rattle.cb_world.specs.RowWords.{words_from, words_in, row_of}
use Rattle.cb_world.specs.StillDesk.{window_length}
use Rattle.cb_world.proofs.Laws.{row_length, window_at, windows_agree}

-- a small word of a row is that of which it was made
word_of_row : (ws : List ℕ) (i : ℕ) → i < length ws → get_or ws i 0 < 2 ^ 64
    → get_or (words_from (length ws) (row_of ws)) i 0 ≡ get_or ws i 0
unfolding words_from
word_of_row [] i within small = absurd (omega (arith, within))
word_of_row (w ∷ ws) zero within small =
    ap (λ (b : List ℕ). from_le_bytes w64 b) (take_at (to_le_bytes w64 w) (row_of ws) 8 refl)
    ∙ from_le_bytes-to_le_bytes_8 w small
word_of_row (w ∷ ws) (suc i) within small =
    ap (λ (b : List ℕ). get_or (words_from (length ws) b) i 0)
    (drop_at (to_le_bytes w64 w) (row_of ws) 8 refl)
    ∙ word_of_row ws i (omega (arith, within)) small

-- so the row of a run has in a slot the small words that stand there
pub row_window : (ms : List ℕ) (base m at n : ℕ) → at + n ≤ m
    → All (λ w. w < 2 ^ 64) (window ms (base + at) n)
    → window (words_in (row_of (window ms base m))) at n ≡ window ms (base + at) n
row_window ms base m at n within small =
    let row = row_of (window ms base m) in
    let count : length (window ms base m) ≡ m = window_length ms base m in
    let words : length row / 8 ≡ length (window ms base m) =
    (let e = row_length (window ms base m) in omega (arith, e)) in
    windows_agree (words_in row) ms at (base + at) n (λ i l.
    let a : base + (at + i) ≡ (base + at) + i = omega arith in
    let here : get_or (window ms base m) (at + i) 0 ≡ get_or ms ((base + at) + i) 0 =
    window_at ms base m (at + i) (omega (arith, l, within)) ∙ ap (λ (k : ℕ). get_or ms k 0) a in
    let there = window_at ms (base + at) n i l in
    let wide = window_length ms (base + at) n in
    let less : get_or (window ms base m) (at + i) 0 < 2 ^ 64 =
    let s = small i 0 (omega (arith, l, wide)) in omega (arith, s, there, here) in
    ap (λ (k : ℕ). get_or (words_from k row) (at + i) 0) words
    ∙ word_of_row (window ms base m) (at + i) (omega (arith, l, within, count)) less ∙ here)

-- a part of a run all of whose words are small
pub small_part : (ms ws : List ℕ) (base m place n : ℕ) → length ws ≡ m
    → All (λ w. w < 2 ^ 64) ws → ws ≡ window ms base m → base ≤ place
    → place + n ≤ base + m → All (λ w. w < 2 ^ 64) (window ms place n)
small_part ms ws base m place n count small is start end i d l =
    let wide = window_length ms place n in
    let k = (place - base) + i in
    let at : base + k ≡ place + i = omega (arith, start) in
    let below : k < m = omega (arith, start, end, l, wide) in
    let here : get_or (window ms place n) i d ≡ get_or ws k 0 =
    get_or_default (window ms place n) i d 0 l ∙ window_at ms place n i (omega (arith, l, wide))
    ∙ ap (λ (j : ℕ). get_or ms j 0) (sym at) ∙ sym (window_at ms base m k below)
    ∙ ap (λ (ns : List ℕ). get_or ns k 0) (sym is) in
    let s = small k 0 (omega (arith, below, count)) in omega (arith, here, s)
