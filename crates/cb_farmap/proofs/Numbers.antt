-- The numbers of an object of which some are written.
use Rattle.std.proofs.Common.{◌≡◌, ◌⊎◌, ℕ, zero, suc, ◌+◌, ◌-◌, ◌*◌, ◌^◌, ◌<◌, ◌≤◌, List, ◌++◌, length, get_or, slice_set, take, drop, replicate, refl, sym, ap, subst, ◌∙◌, [], arith, inl, inr}
use Rattle.std.proofs.lemmas.Bool.{cases_lt}
use Rattle.std.proofs.lemmas.List.{ext_get_or, get_or_append_left, get_or-append-add, get_or-append_right, get_or-drop, get_or-take, length-append, length-replicate, length-take-le, append-nil, length-set, get_or-set_same, get_or-set_other}
use Rattle.std.proofs.lemmas.List.FromFn.{get_or-map-range_with_len, length-map-range_with_len}
use Rattle.byteorder.specs.Endian.{little_bytes, little_from}
use Rattle.byteorder.specs.Numbers.{little_number-reads_back, length-bytes_low_first}
use Rattle.cb_model.specs.Now.{overwritten}
use Rattle.cb_farmap.specs.Arrays.{bytes_with}
use Rattle.cb_farmap.specs.Numbers.{number_at, numbers}

module _ (old new : List ℕ) (at : ℕ) (within : at + length new ≤ length old) where
  fore : length (take at old) ≡ at
  fore = length-take-le at old (omega (arith, within))

  both : length (take at old ++ new) ≡ at + length new
  both = length-append (take at old) new ∙ ap (λ (n : ℕ). n + length new) fore

  pub before_them : (k : ℕ) → k < at → get_or (overwritten old at new) k 0 ≡ get_or old k 0
  before_them k less =
      get_or_append_left (take at old ++ new) (drop (at + length new) old) 0 k (omega (arith, less, both))
      ∙ get_or_append_left (take at old) new 0 k (omega (arith, less, fore))
      ∙ get_or-take at old k 0 less

  pub among_them : (j : ℕ) → j < length new → get_or (overwritten old at new) (at + j) 0 ≡ get_or new j 0
  among_them j less =
      get_or_append_left (take at old ++ new) (drop (at + length new) old) 0 (at + j) (omega (arith, less, both))
      ∙ ap (λ (n : ℕ). get_or (take at old ++ new) (n + j) 0) (sym fore)
      ∙ get_or-append-add (take at old) new j 0

  pub behind_them : (k : ℕ) → at + length new ≤ k → get_or (overwritten old at new) k 0 ≡ get_or old k 0
  behind_them k more =
      get_or-append_right (take at old ++ new) (drop (at + length new) old) (at + length new) k 0 both more
      ∙ get_or-drop (at + length new) old (k - (at + length new)) 0
      ∙ ap (λ (i : ℕ). get_or old i 0)
      (let z : at + length new + (k - (at + length new)) ≡ k = omega (arith, more) in z)

-- eight bytes that are alike
pub alike : (xs ys : List ℕ) (n m : ℕ) → ((j : ℕ) → j < 8 → get_or xs (n + j) 0 ≡ get_or ys (m + j) 0)
    → little_from n 8 xs ≡ little_from m 8 ys
alike xs ys n m same = go 8 n m same
  where
    go : (c n m : ℕ) → ((j : ℕ) → j < c → get_or xs (n + j) 0 ≡ get_or ys (m + j) 0)
        → little_from n c xs ≡ little_from m c ys
    go zero n m same = refl
    go (suc c) n m same =
        let here : get_or xs n 0 ≡ get_or ys m 0 =
        (let a : n + 0 ≡ n = omega arith in let b : m + 0 ≡ m = omega arith in
        ap (λ (i : ℕ). get_or xs i 0) (sym a) ∙ same 0 (omega arith) ∙ ap (λ (i : ℕ). get_or ys i 0) b) in
        let rest : little_from (suc n) c xs ≡ little_from (suc m) c ys = go c (suc n) (suc m)
        (λ j less. (let a : suc n + j ≡ n + suc j = omega arith in let b : suc m + j ≡ m + suc j = omega arith in
        ap (λ (i : ℕ). get_or xs i 0) a ∙ same (suc j) (omega (arith, less)) ∙ ap (λ (i : ℕ). get_or ys i 0) (sym b))) in
        (λ i. here i + 256 * rest i)

-- ---- numbers that are written, at the number i on
module _ (old new : List ℕ) (i m : ℕ) (long : length new ≡ 8 * m)
    (within : 8 * i + length new ≤ length old) where
  -- one that the write does not reach
  pub number_off : (k : ℕ) → (k < i) ⊎ (i + m ≤ k)
      → number_at (overwritten old (8 * i) new) k ≡ number_at old k
  number_off k (inl less) = alike (overwritten old (8 * i) new) old (8 * k) (8 * k)
      (λ j low. before_them old new (8 * i) within (8 * k + j) (omega (arith, less, low)))
  number_off k (inr more) = alike (overwritten old (8 * i) new) old (8 * k) (8 * k)
      (λ j low. behind_them old new (8 * i) within (8 * k + j) (omega (arith, more, low, long)))

  -- one of those that are written
  pub number_in : (j : ℕ) → j < m
      → number_at (overwritten old (8 * i) new) (i + j) ≡ number_at new j
  number_in j less = alike (overwritten old (8 * i) new) new (8 * (i + j)) (8 * j)
      (λ b low. ap (λ (n : ℕ). get_or (overwritten old (8 * i) new) n 0)
      (let z : 8 * (i + j) + b ≡ 8 * i + (8 * j + b) = omega arith in z)
      ∙ among_them old new (8 * i) within (8 * j + b) (omega (arith, less, low, long)))

-- ---- a number's bytes
pub little_long : (x : ℕ) → length (little_bytes 8 x) ≡ 8
little_long x = length-bytes_low_first 0 8 x

-- and those of a new object that has it
pub long_new : (x : ℕ) → length (bytes_with x) ≡ 1024
long_new x =
    let both = length-append (little_bytes 8 x) (replicate 1016 0) in
    let number = little_long x in
    let zeros = length-replicate {A = ℕ} 1016 0 in omega (arith, both, number, zeros)

pub number_front : (x : ℕ) (rest : List ℕ) → x < 2 ^ 64
    → number_at (little_bytes 8 x ++ rest) 0 ≡ x
number_front x rest small = little_number-reads_back 8 x rest small

pub number_alone : (x : ℕ) → x < 2 ^ 64 → number_at (little_bytes 8 x) 0 ≡ x
number_alone x small =
    ap (λ (l : List ℕ). number_at l 0) (sym (append-nil (little_bytes 8 x)))
    ∙ number_front x [] small

-- ---- the numbers of an object
pub numbers_long : (bytes : List ℕ) → length (numbers bytes) ≡ 128
numbers_long bytes = length-map-range_with_len (number_at bytes) 0 128

pub numbers_get : (bytes : List ℕ) (k : ℕ) → k < 128 → get_or (numbers bytes) k 0 ≡ number_at bytes k
numbers_get bytes k low =
    get_or-map-range_with_len (number_at bytes) 0 128 k k 0 low (omega arith)

-- of which one is written: it alone is another
pub number_written : (old : List ℕ) (i x : ℕ) → length old ≡ 1024 → i < 128 → x < 2 ^ 64
    → numbers (overwritten old (8 * i) (little_bytes 8 x)) ≡ slice_set (numbers old) i x
number_written old i x long within small =
    ext_get_or 0 (numbers new) (slice_set (numbers old) i x)
    (numbers_long new ∙ sym (length-set (numbers old) i x ∙ numbers_long old))
    (λ k below. let low : k < 128 = (let n = numbers_long new in omega (arith, below, n)) in
    numbers_get new k low ∙ by k low (cases_lt k i) (cases_lt i k))
  where
    new : List ℕ
    new = overwritten old (8 * i) (little_bytes 8 x)

    one : length (little_bytes 8 x) ≡ 8 * 1
    one = little_long x

    room : 8 * i + length (little_bytes 8 x) ≤ length old
    room = let n = little_long x in omega (arith, n, long, within)

    other : (k : ℕ) → k < 128 → (k < i) ⊎ (i + 1 ≤ k)
        → number_at new k ≡ get_or (slice_set (numbers old) i x) k 0
    other k low off = number_off old (little_bytes 8 x) i 1 one room k off
        ∙ sym (get_or-set_other (numbers old) i k x 0 (ne off) ∙ numbers_get old k low)
      where
        ne : (k < i) ⊎ (i + 1 ≤ k) → k ≡ i → ⊥
        ne (inl a) is = absurd (omega (arith, a, is))
        ne (inr a) is = absurd (omega (arith, a, is))

    here : (k : ℕ) → i ≡ k → number_at new k ≡ get_or (slice_set (numbers old) i x) k 0
    here k is = subst (λ (m : ℕ). number_at new m ≡ get_or (slice_set (numbers old) i x) m 0) is
        (ap (number_at new) (let z : i ≡ i + 0 = omega arith in z)
        ∙ number_in old (little_bytes 8 x) i 1 one room 0 (omega arith) ∙ number_alone x small
        ∙ sym (get_or-set_same (numbers old) i x 0 (let n = numbers_long old in omega (arith, within, n))))

    by : (k : ℕ) → k < 128 → (k < i) ⊎ (i ≤ k) → (i < k) ⊎ (k ≤ i)
        → number_at new k ≡ get_or (slice_set (numbers old) i x) k 0
    by k low (inl less) z = other k low (inl less)
    by k low (inr more) (inl less) = other k low (inr (omega (arith, less)))
    by k low (inr more) (inr few) = here k (omega (arith, more, few))
