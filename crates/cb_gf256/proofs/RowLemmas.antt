-- Sums of rows, byte by byte.
use Rattle.std.proofs.Common.{◌≡◌, ℕ, zero, suc, ◌+◌, ◌<◌, List, [], ◌∷◌, length, get_or, set, replicate, ext_get_or, ⊎_elim, ◌-◌, ◌≤◌, subst, refl, sym, ap, ap₂, ◌∙◌, arith, add-one}
use lib.Bits.{xor_self, xor_assoc, xor_comm, xor_zero_r}
use Rattle.cb_gf256.specs.Sum.{◌⊕◌}
use Rattle.cb_gf256.specs.Product.{◌⊗◌}
use Rattle.std.specs.Simd.Lanes.{put_chunk}
use Rattle.std.proofs.lemmas.Bool.{cases_lt}
use Rattle.std.proofs.lemmas.Simd.{length-put_chunk, get_or-put_chunk_below, get_or-put_chunk_at, get_or-put_chunk_above}
use Rattle.cb_gf256.specs.Lanes.{HasLanes}
use Rattle.cb_gf256.specs.Row.{row_sum, scaled_row, summed_front}
use Rattle.cb_gf256.proofs.Linear.{product-right}
use Rattle.cb_gf256.proofs.FieldLaws.{product-zero}

front_more : (xs ys : List ℕ) (i : ℕ) → i < length xs → i < length ys → set (summed_front xs ys i) i (get_or (summed_front xs ys i) i 0 ⊕ get_or ys i 0) ≡ summed_front xs ys (suc i)
front_more [] ys i h k = absurd (omega arith)
front_more (x ∷ xs) [] i h k = absurd (omega arith)
front_more (x ∷ xs) (y ∷ ys) zero h k = refl
front_more (x ∷ xs) (y ∷ ys) (suc i) h k = ap (λ zs. (x ⊕ y) ∷ zs) (front_more xs ys i (omega arith) (omega arith))

-- one byte more is added
pub summed_front_more : (xs ys now : List ℕ) (i : ℕ) → i < length xs → i < length ys → now ≡ summed_front xs ys i → set now i (get_or now i 0 ⊕ get_or ys i 0) ≡ summed_front xs ys (i + 1)
summed_front_more xs ys now i h k e =
    ap (λ zs. set zs i (get_or zs i 0 ⊕ get_or ys i 0)) e ∙ front_more xs ys i h k ∙ ap (summed_front xs ys) (sym (add-one i))

-- all bytes are added
pub summed_front_all : (xs ys : List ℕ) (n : ℕ) → length xs ≡ n → length ys ≡ n → summed_front xs ys n ≡ row_sum xs ys
summed_front_all [] ys zero h k = refl
summed_front_all (x ∷ xs) ys zero h k = absurd (omega arith)
summed_front_all [] ys (suc n) h k = absurd (omega arith)
summed_front_all (x ∷ xs) [] (suc n) h k = absurd (omega arith)
summed_front_all (x ∷ xs) (y ∷ ys) (suc n) h k = ap (λ zs. (x ⊕ y) ∷ zs) (summed_front_all xs ys n (omega arith) (omega arith))

-- ---- the laws of sums of rows
pub length-row_sum : (xs ys : List ℕ) → length xs ≡ length ys → length (row_sum xs ys) ≡ length xs
length-row_sum [] ys h = refl
length-row_sum (x ∷ xs) [] h = absurd (omega arith)
length-row_sum (x ∷ xs) (y ∷ ys) h = ap suc (length-row_sum xs ys (omega arith))

pub get_or-row_sum : (xs ys : List ℕ) (i : ℕ) → length xs ≡ length ys → get_or (row_sum xs ys) i 0 ≡ get_or xs i 0 ⊕ get_or ys i 0
get_or-row_sum [] [] i h = refl
get_or-row_sum [] (y ∷ ys) i h = absurd (omega arith)
get_or-row_sum (x ∷ xs) [] i h = absurd (omega arith)
get_or-row_sum (x ∷ xs) (y ∷ ys) zero h = refl
get_or-row_sum (x ∷ xs) (y ∷ ys) (suc i) h = get_or-row_sum xs ys i (omega arith)

pub row_sum_comm : (xs ys : List ℕ) → row_sum xs ys ≡ row_sum ys xs
row_sum_comm [] [] = refl
row_sum_comm [] (y ∷ ys) = refl
row_sum_comm (x ∷ xs) [] = refl
row_sum_comm (x ∷ xs) (y ∷ ys) = ap₂ ◌∷◌ (xor_comm x y) (row_sum_comm xs ys)

pub row_sum_assoc : (xs ys zs : List ℕ) → row_sum (row_sum xs ys) zs ≡ row_sum xs (row_sum ys zs)
row_sum_assoc [] ys zs = refl
row_sum_assoc (x ∷ xs) [] zs = refl
row_sum_assoc (x ∷ xs) (y ∷ ys) [] = refl
row_sum_assoc (x ∷ xs) (y ∷ ys) (z ∷ zs) = ap₂ ◌∷◌ (xor_assoc x y z) (row_sum_assoc xs ys zs)

pub row_sum_twice : (xs ys : List ℕ) → length xs ≡ length ys → row_sum (row_sum xs ys) ys ≡ xs
row_sum_twice [] ys h = refl
row_sum_twice (x ∷ xs) [] h = absurd (omega arith)
row_sum_twice (x ∷ xs) (y ∷ ys) h =
    ap₂ ◌∷◌ (xor_assoc x y y ∙ ap (λ z. x ⊕ z) (xor_self y) ∙ xor_zero_r x) (row_sum_twice xs ys (omega arith))

pub row_sum_zero : (xs : List ℕ) → row_sum xs (replicate (length xs) 0) ≡ xs
row_sum_zero [] = refl
row_sum_zero (x ∷ xs) = ap₂ ◌∷◌ (xor_zero_r x) (row_sum_zero xs)

pub length-scaled_row : (c : ℕ) (xs : List ℕ) → length (scaled_row c xs) ≡ length xs
length-scaled_row c [] = refl
length-scaled_row c (x ∷ xs) = ap suc (length-scaled_row c xs)

pub get_or-scaled_row : (c : ℕ) (xs : List ℕ) (i : ℕ) → get_or (scaled_row c xs) i 0 ≡ c ⊗ get_or xs i 0
get_or-scaled_row c [] i = sym (product-zero c)
get_or-scaled_row c (x ∷ xs) zero = refl
get_or-scaled_row c (x ∷ xs) (suc i) = get_or-scaled_row c xs i

pub scaled_row-row_sum : (c : ℕ) (xs ys : List ℕ) → scaled_row c (row_sum xs ys) ≡ row_sum (scaled_row c xs) (scaled_row c ys)
scaled_row-row_sum c [] ys = refl
scaled_row-row_sum c (x ∷ xs) [] = refl
scaled_row-row_sum c (x ∷ xs) (y ∷ ys) = ap₂ ◌∷◌ (product-right c x y) (scaled_row-row_sum c xs ys)

-- ---- a front of whole blocks
pub length-front : (xs ys : List ℕ) (i : ℕ) → i ≤ length xs → i ≤ length ys → length (summed_front xs ys i) ≡ length xs
length-front xs ys zero h k = refl
length-front [] ys (suc i) h k = absurd (omega arith)
length-front (x ∷ xs) [] (suc i) h k = absurd (omega arith)
length-front (x ∷ xs) (y ∷ ys) (suc i) h k = ap suc (length-front xs ys i (omega arith) (omega arith))

pub front_below : (xs ys : List ℕ) (i n : ℕ) → n < i → i ≤ length xs → i ≤ length ys → get_or (summed_front xs ys i) n 0 ≡ get_or xs n 0 ⊕ get_or ys n 0
front_below xs ys zero n l h k = absurd (omega arith)
front_below [] ys (suc i) n l h k = absurd (omega arith)
front_below (x ∷ xs) [] (suc i) n l h k = absurd (omega arith)
front_below (x ∷ xs) (y ∷ ys) (suc i) zero l h k = refl
front_below (x ∷ xs) (y ∷ ys) (suc i) (suc n) l h k = front_below xs ys i n (omega arith) (omega arith) (omega arith)

pub front_above : (xs ys : List ℕ) (i n : ℕ) → i ≤ n → i ≤ length xs → i ≤ length ys → get_or (summed_front xs ys i) n 0 ≡ get_or xs n 0
front_above xs ys zero n l h k = refl
front_above [] ys (suc i) n l h k = absurd (omega arith)
front_above (x ∷ xs) [] (suc i) n l h k = absurd (omega arith)
front_above (x ∷ xs) (y ∷ ys) (suc i) zero l h k = absurd (omega arith)
front_above (x ∷ xs) (y ∷ ys) (suc i) (suc n) l h k = front_above xs ys i n (omega arith) (omega arith) (omega arith)

-- one block more is added
pub summed_front_block : (xs ys now block : List ℕ) (i to : ℕ) → to ≡ i + 64 → to ≤ length xs → to ≤ length ys → now ≡ summed_front xs ys i
    → HasLanes block (λ l. get_or now (i + l) 0 ⊕ get_or ys (i + l) 0) → put_chunk i now block ≡ summed_front xs ys to
summed_front_block xs ys now block i to next h k e b =
    let long : length now ≡ length xs = ap length e ∙ length-front xs ys i (omega arith) (omega arith) in
    ext_get_or 0 (put_chunk i now block) (summed_front xs ys to) (length-put_chunk i now block ∙ long ∙ sym (length-front xs ys to h k)) (λ n l.
    ⊎_elim
    (λ below.
    get_or-put_chunk_below i now block n 0 below ∙ ap (λ zs. get_or zs n 0) e ∙ front_below xs ys i n below (omega arith) (omega arith)
    ∙ sym (front_below xs ys to n (omega arith) h k))
    (λ above.
    ⊎_elim
    (λ within.
    let place : i + (n - i) ≡ n = omega arith in
    subst (λ m. get_or (put_chunk i now block) m 0 ≡ get_or (summed_front xs ys to) m 0) place
    (get_or-put_chunk_at i now block (n - i) 0 (omega (arith, b.count)) (omega (arith, b.count))
    ∙ b.each (n - i) (omega arith)
    ∙ ap (λ m. get_or now m 0 ⊕ get_or ys m 0) place
    ∙ ap (λ zs. get_or zs n 0 ⊕ get_or ys n 0) e
    ∙ ap (λ x. x ⊕ get_or ys n 0) (front_above xs ys i n above (omega arith) (omega arith))
    ∙ sym (front_below xs ys to n within h k)
    ∙ ap (λ m. get_or (summed_front xs ys to) m 0) (sym place)))
    (λ past.
    get_or-put_chunk_above i now block n 0 (omega (arith, b.count)) ∙ ap (λ zs. get_or zs n 0) e ∙ front_above xs ys i n above (omega arith) (omega arith)
    ∙ sym (front_above xs ys to n (omega arith) h k))
    (cases_lt n to))
    (cases_lt n i))
