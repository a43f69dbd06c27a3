-- The words of a frame as a row of bytes, and back.
use Rattle.std.proofs.Common.{◌≡◌, ℕ, zero, suc, ◌+◌, ◌*◌, ◌/◌, ◌-◌, ◌^◌, ◌<◌, ◌≤◌, List, [], ◌∷◌, ◌++◌, length, take, drop, drop-cons, drop-drop, length-set, get_or, set, replicate, All, refl, sym, ap, ◌∙◌, arith, append_assoc, length-append}
use Rattle.std.proofs.lemmas.List.{append-nil, drop_all, ext_get_or, get_or_append_left, length-drop, length-take-le, set-append_left, take_all, take-append-drop}
use Rattle.std.proofs.lemmas.List.Elements.{All-nil, All-cons}
use Rattle.std.proofs.lemmas.List.Edits.{sets, sets-eq}
use Rattle.std.specs.Int.{from_le_bytes, w64}
use Rattle.byteorder.specs.Endian.{little_number}
use Rattle.byteorder.specs.Numbers.{little_from-append}
use Rattle.cb_world.specs.LocalMemory.{padded}
use Rattle.cb_world.specs.Memory.{put, window}
use Rattle.cb_world.specs.RowWords.{words_from, words_in}
use Rattle.cb_world.proofs.RowWords.{length_words}
use Rattle.cb_world.proofs.Windows.{length_put, window_same}

-- ---- the words of a row
pub word_from : (n i : ℕ) (row : List ℕ) → i < n
    → get_or (words_from n row) i 0 ≡ from_le_bytes w64 (take 8 (drop (8 * i) row))
unfolding words_from
word_from zero i row below = absurd (omega (arith, below))
word_from (suc n) zero row below = ap (λ (k : ℕ). from_le_bytes w64 (take 8 (drop k row)))
    (let e : 0 ≡ 8 * 0 = omega arith in e)
word_from (suc n) (suc i) row below = word_from n i (drop 8 row) (omega (arith, below))
    ∙ ap (λ (l : List ℕ). from_le_bytes w64 (take 8 l)) (drop-drop (8 * i) 8 row
    ∙ ap (λ (k : ℕ). drop k row) (let e : 8 + 8 * i ≡ 8 * suc i = omega arith in e))

-- the number of eight bytes, the first one lowest
eight_bytes : (l : List ℕ) → little_number 8 l ≡ from_le_bytes w64 l
eight_bytes l = omega arith

first_eight : (l : List ℕ) → 8 ≤ length l → little_number 8 l ≡ little_number 8 (take 8 l)
first_eight l long = ap (little_number 8) (sym (take-append-drop 8 l))
    ∙ little_from-append 8 (take 8 l) (drop 8 l)
    (let e = length-take-le 8 l long in omega (arith, e))

pub words_read : (row dst : List ℕ) → length row ≡ 4096 → length dst ≡ 512
    → ((k : ℕ) → k < length dst → get_or dst k 0 ≡ little_number 8 (drop (8 * k) row))
    → dst ≡ words_in row
words_read row dst wide count read =
    let n : length row / 8 ≡ 512 = omega (arith, wide) in
    let w = length_words (length row / 8) row in
    ext_get_or 0 dst (words_in row) (count ∙ sym (w ∙ n)) (λ i below.
    let l = length-drop (8 * i) row in
    read i below ∙ first_eight (drop (8 * i) row) (omega (arith, l, wide, below, count))
    ∙ eight_bytes (take 8 (drop (8 * i) row))
    ∙ sym (word_from (length row / 8) i row (omega (arith, below, count, n))))

-- ---- words that are put
put_sets : (ms : List ℕ) (p : ℕ) (xs : List ℕ) → put ms p xs ≡ sets ms p xs
unfolding put
put_sets ms p [] = refl
put_sets ms p (x ∷ xs) = put_sets (set ms p x) (p + 1) xs
    ∙ ap (λ (q : ℕ). sets (set ms p x) q xs) (let e : p + 1 ≡ suc p = omega arith in e)

-- words that are written over a part of the list
pub part_put : (ms now dst : List ℕ) (p len : ℕ) → now ≡ ms → len ≡ length ms → p + 512 ≤ length ms
    → length dst ≡ 512
    → take len ((take p now ++ (dst ++ drop (p + 512 - p) (drop p now)))
    ++ drop (length (take p now ++ (dst ++ drop (p + 512 - p) (drop p now)))) ms) ≡ put ms p dst
part_put ms now dst p len same count fits wide =
    ap (λ (l : List ℕ). take len (whole l ++ drop (length (whole l)) ms)) same
    ∙ ap (λ (l : List ℕ). take len (whole ms ++ l))
    (drop_all (length (whole ms)) ms (omega (arith, long)))
    ∙ ap (take len) (append-nil (whole ms))
    ∙ take_all len (whole ms) (omega (arith, long, count))
    ∙ ap (λ (l : List ℕ). take p ms ++ (dst ++ l)) rest
    ∙ sym (append_assoc (take p ms) dst (drop (p + length dst) ms))
    ∙ sym (sets-eq dst ms p (omega (arith, fits, wide)))
    ∙ sym (put_sets ms p dst)
  where
    whole : List ℕ → List ℕ
    whole l = take p l ++ (dst ++ drop (p + 512 - p) (drop p l))

    rest : drop (p + 512 - p) (drop p ms) ≡ drop (p + length dst) ms
    rest = drop-drop (p + 512 - p) p ms ∙ ap (λ (k : ℕ). drop k ms) (omega (arith, wide))

    long : length (whole ms) ≡ length ms
    long = let a = length-append (take p ms) (dst ++ drop (p + 512 - p) (drop p ms)) in
        let b = length-append dst (drop (p + 512 - p) (drop p ms)) in
        let c = length-take-le p ms (omega (arith, fits)) in
        let d = length-drop (p + 512 - p) (drop p ms) in
        let e = length-drop p ms in
        omega (arith, a, b, c, d, e, wide, fits)

-- ---- words that are read
pub window_is : (ms : List ℕ) (p n : ℕ) → p + n ≤ length ms → window ms p n ≡ take n (drop p ms)
unfolding window
window_is ms p zero fits = refl
window_is ms p (suc n) fits =
    ap (λ (l : List ℕ). get_or ms p 0 ∷ l) (window_is ms (p + 1) n (omega (arith, fits))
    ∙ ap (λ (q : ℕ). take n (drop q ms)) (let e : p + 1 ≡ suc p = omega arith in e))
    ∙ ap (take (suc n)) (sym (drop-cons ms p 0 (omega (arith, fits))))

-- as many words as the part has
pub part_length : (ms now : List ℕ) (p : ℕ) → now ≡ ms → p + 512 ≤ length ms
    → length (take (p + 512 - p) (drop p now)) ≡ 512
part_length ms now p same fits =
    ap (λ (l : List ℕ). length (take (p + 512 - p) (drop p l))) same
    ∙ length-take-le (p + 512 - p) (drop p ms) (let d = length-drop p ms in omega (arith, d, fits))
    ∙ omega arith

-- words that fit, each
pub window_small : (ms : List ℕ) (p n : ℕ) → All (λ w. w < 2 ^ 64) ms → p + n ≤ length ms
    → All (λ w. w < 2 ^ 64) (window ms p n)
unfolding window
window_small ms p zero small fits = All-nil (λ w. w < 2 ^ 64)
window_small ms p (suc n) small fits =
    All-cons (λ w. w < 2 ^ 64) (get_or ms p 0) (window ms (p + 1) n)
    (small p 0 (omega (arith, fits)))
    (window_small ms (p + 1) n small (omega (arith, fits)))

-- ---- with zeros behind them
abbrev zeros : ℕ → List ℕ
zeros n = replicate n 0

pub padded_window : (ws : List ℕ) (count p n : ℕ) → p + n ≤ length ws
    → window (padded ws count) p n ≡ window ws p n
padded_window ws count p n fits = window_same (padded ws count) ws p n (λ i low high.
    get_or_append_left ws (zeros (count - length ws)) 0 i (omega (arith, high, fits)))

put_append : (ws zs : List ℕ) (p : ℕ) (xs : List ℕ) → p + length xs ≤ length ws
    → put (ws ++ zs) p xs ≡ put ws p xs ++ zs
unfolding put
put_append ws zs p [] fits = refl
put_append ws zs p (x ∷ xs) fits =
    ap (λ (l : List ℕ). put l (p + 1) xs) (set-append_left ws zs p x (omega (arith, fits)))
    ∙ put_append (set ws p x) zs (p + 1) xs (let n = length-set ws p x in omega (arith, fits, n))

pub padded_put : (ws : List ℕ) (count p : ℕ) (xs : List ℕ) → p + length xs ≤ length ws
    → padded (put ws p xs) count ≡ put (padded ws count) p xs
padded_put ws count p xs fits =
    ap (λ (n : ℕ). put ws p xs ++ zeros (count - n)) (length_put ws p xs)
    ∙ sym (put_append ws (zeros (count - length ws)) p xs fits)
