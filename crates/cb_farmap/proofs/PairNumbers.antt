-- Pairs of an object of which one is written, and that of a new object.
use Rattle.std.proofs.Common.{◌≡◌, ◌⊎◌, ℕ, ◌+◌, ◌*◌, ◌^◌, ◌<◌, ◌≤◌, List, length, get_or, slice_set, replicate, sym, ap, subst, ◌∙◌, [], arith, inl, inr}
use Rattle.std.proofs.lemmas.Bool.{cases_lt}
use Rattle.std.proofs.lemmas.List.{append-nil, ext_get_or, get_or_append_left, get_or-append-add, get_or-set_other, get_or-set_same, length-append, length-replicate, length-set}
use Rattle.std.proofs.lemmas.List.FromFn.{get_or-map-range_with_len, length-map-range_with_len}
use Rattle.byteorder.specs.Endian.{little_bytes, little_from}
use Rattle.byteorder.specs.Numbers.{little_number-reads_back, length-bytes_low_first}
use Rattle.cb_model.specs.Now.{overwritten}
use Rattle.cb_farmap.specs.Numbers.{number_at, pair_at, pairs}
use Rattle.cb_farmap.specs.PairBytes.{object_bytes, pair_bytes}
use Rattle.cb_farmap.specs.Pairs.{Pair, pair_of}
use Rattle.cb_farmap.proofs.Numbers.{alike, among_them, before_them, behind_them}

-- ---- the bytes of a pair
pub long_pair : (p : Pair) → length (pair_bytes p) ≡ 16
long_pair p = length-append (little_bytes 8 p.0) (little_bytes 8 p.1)
    ∙ (λ i. length-bytes_low_first 0 8 p.0 i + length-bytes_low_first 0 8 p.1 i)

-- and those of a new object that has it
pub long_object : (p : Pair) → length (object_bytes p) ≡ 1024
long_object p =
    let both = length-append (pair_bytes p) (replicate 1008 0) in
    let pair = long_pair p in
    let zeros = length-replicate {A = ℕ} 1008 0 in omega (arith, both, pair, zeros)

reads_back : (x : ℕ) → x < 2 ^ 64 → little_from 0 8 (little_bytes 8 x) ≡ x
reads_back x small = ap (little_from 0 8) (sym (append-nil (little_bytes 8 x)))
    ∙ little_number-reads_back 8 x [] small

key_byte : (p : Pair) (j : ℕ) → j < 8 → get_or (pair_bytes p) j 0 ≡ get_or (little_bytes 8 p.0) j 0
key_byte p j low = get_or_append_left (little_bytes 8 p.0) (little_bytes 8 p.1) 0 j
    (let n = length-bytes_low_first 0 8 p.0 in omega (arith, n, low))

value_byte : (p : Pair) (j : ℕ) → j < 8 → get_or (pair_bytes p) (8 + j) 0 ≡ get_or (little_bytes 8 p.1) j 0
value_byte p j low =
    ap (λ (n : ℕ). get_or (pair_bytes p) (n + j) 0) (sym (length-bytes_low_first 0 8 p.0))
    ∙ get_or-append-add (little_bytes 8 p.0) (little_bytes 8 p.1) j 0

-- where the bytes of a pair stand, it is the pair there
pair_there : (bytes : List ℕ) (i : ℕ) (p : Pair) → p.0 < 2 ^ 64 → p.1 < 2 ^ 64
    → ((j : ℕ) → j < 16 → get_or bytes (16 * i + j) 0 ≡ get_or (pair_bytes p) j 0) → pair_at bytes i ≡ p
pair_there bytes i p key_low value_low same = λ t. (key t, value t)
  where
    key : number_at bytes (2 * i) ≡ p.0
    key = alike bytes (little_bytes 8 p.0) (8 * (2 * i)) 0
        (λ j low. (let z : 8 * (2 * i) + j ≡ 16 * i + j = omega arith in
        ap (λ (n : ℕ). get_or bytes n 0) z ∙ same j (omega (arith, low)) ∙ key_byte p j low
        ∙ (let y : j ≡ 0 + j = omega arith in ap (λ (n : ℕ). get_or (little_bytes 8 p.0) n 0) y)))
        ∙ reads_back p.0 key_low

    value : number_at bytes (2 * i + 1) ≡ p.1
    value = alike bytes (little_bytes 8 p.1) (8 * (2 * i + 1)) 0
        (λ j low. (let z : 8 * (2 * i + 1) + j ≡ 16 * i + (8 + j) = omega arith in
        ap (λ (n : ℕ). get_or bytes n 0) z ∙ same (8 + j) (omega (arith, low)) ∙ value_byte p j low
        ∙ (let y : j ≡ 0 + j = omega arith in ap (λ (n : ℕ). get_or (little_bytes 8 p.1) n 0) y)))
        ∙ reads_back p.1 value_low

-- and where other bytes stay, the pair there stays
pair_stays : (old new : List ℕ) (k : ℕ)
    → ((j : ℕ) → j < 16 → get_or new (16 * k + j) 0 ≡ get_or old (16 * k + j) 0) → pair_at new k ≡ pair_at old k
pair_stays old new k same = λ t. (key t, value t)
  where
    key : number_at new (2 * k) ≡ number_at old (2 * k)
    key = alike new old (8 * (2 * k)) (8 * (2 * k)) (λ j low.
        (let z : 8 * (2 * k) + j ≡ 16 * k + j = omega arith in
        ap (λ (n : ℕ). get_or new n 0) z ∙ same j (omega (arith, low)) ∙ ap (λ (n : ℕ). get_or old n 0) (sym z)))

    value : number_at new (2 * k + 1) ≡ number_at old (2 * k + 1)
    value = alike new old (8 * (2 * k + 1)) (8 * (2 * k + 1)) (λ j low.
        (let z : 8 * (2 * k + 1) + j ≡ 16 * k + (8 + j) = omega arith in
        ap (λ (n : ℕ). get_or new n 0) z ∙ same (8 + j) (omega (arith, low)) ∙ ap (λ (n : ℕ). get_or old n 0) (sym z)))

-- ---- the pairs of an object
pub long_pairs : (bytes : List ℕ) → length (pairs bytes) ≡ 64
long_pairs bytes = length-map-range_with_len (pair_at bytes) 0 64

pub pair_is : (bytes : List ℕ) (k : ℕ) → k < 64 → pair_of (pairs bytes) k ≡ pair_at bytes k
pair_is bytes k low = get_or-map-range_with_len (pair_at bytes) 0 64 k k (0, 0) low (omega arith)

-- a pair is written: of the pairs that one is another
pub pair_written : (old : List ℕ) (i : ℕ) (p : Pair) → length old ≡ 1024 → i < 64 → p.0 < 2 ^ 64 → p.1 < 2 ^ 64
    → pairs (overwritten old (16 * i) (pair_bytes p)) ≡ slice_set (pairs old) i p
pair_written old i p long within key_low value_low =
    ext_get_or (0, 0) (pairs new) (slice_set (pairs old) i p)
    (long_pairs new ∙ sym (length-set (pairs old) i p ∙ long_pairs old))
    (λ k below. let low : k < 64 = (let n = long_pairs new in omega (arith, below, n)) in
    pair_is new k low ∙ by k low (cases_lt k i) (cases_lt i k))
  where
    new : List ℕ
    new = overwritten old (16 * i) (pair_bytes p)

    fits : 16 * i + length (pair_bytes p) ≤ length old
    fits = let n = long_pair p in omega (arith, long, within, n)

    other : (k : ℕ) → k < 64 → (k ≡ i → ⊥) → pair_at new k ≡ pair_at old k
        → pair_at new k ≡ pair_of (slice_set (pairs old) i p) k
    other k low ne is = is ∙ sym (get_or-set_other (pairs old) i k p (0, 0) ne ∙ pair_is old k low)

    by : (k : ℕ) → k < 64 → (k < i) ⊎ (i ≤ k) → (i < k) ⊎ (k ≤ i)
        → pair_at new k ≡ pair_of (slice_set (pairs old) i p) k
    by k low (inl less) z = other k low (λ e. omega (arith, less, e)) (pair_stays old new k (λ j few.
        before_them old (pair_bytes p) (16 * i) fits (16 * k + j) (omega (arith, less, few))))
    by k low (inr more) (inl less) = other k low (λ e. omega (arith, less, e)) (pair_stays old new k (λ j few.
        behind_them old (pair_bytes p) (16 * i) fits (16 * k + j)
        (let n = long_pair p in omega (arith, less, few, n))))
    by k low (inr more) (inr few) = let is : i ≡ k = omega (arith, more, few) in
        subst (λ (m : ℕ). pair_at new m ≡ pair_of (slice_set (pairs old) i p) m) is
        (pair_there new i p key_low value_low
        (λ j below. among_them old (pair_bytes p) (16 * i) fits j (let n = long_pair p in omega (arith, below, n)))
        ∙ sym (get_or-set_same (pairs old) i p (0, 0) (let n = long_pairs old in omega (arith, n, within))))

-- the first pair of an object that was made with it
pub first_pair : (p : Pair) → p.0 < 2 ^ 64 → p.1 < 2 ^ 64 → pair_of (pairs (object_bytes p)) 0 ≡ p
first_pair p key_low value_low = pair_is (object_bytes p) 0 (omega arith)
    ∙ pair_there (object_bytes p) 0 p key_low value_low
    (λ j low. (let z : 16 * 0 + j ≡ j = omega arith in ap (λ (n : ℕ). get_or (object_bytes p) n 0) z)
    ∙ get_or_append_left (pair_bytes p) (replicate 1008 0) 0 j (let n = long_pair p in omega (arith, low, n)))
