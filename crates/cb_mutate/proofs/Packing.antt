-- Bytes as words, eight bytes each.
use Rattle.std.proofs.Common.{◌≡◌, ◌≢◌, ℕ, ◌+◌, ◌-◌, ◌*◌, ◌/◌, ◌%◌, ◌^◌, ◌<◌, ◌≤◌, List, [], ◌∷◌, ◌++◌, length, get_or, take, drop, min, replicate, map, sym, refl, ap, ◌∙◌, subst, arith, inl, inr, length-append}
use native.Mathlib.Decide.{ℕ_discrete}
use Rattle.std.proofs.lemmas.Bool.{cases_lt}
use Rattle.std.proofs.lemmas.List.{get_or-take, get_or-drop, get_or_append_left, get_or-append_right, get_or-replicate, get_or_past, length-take, length-drop, length-replicate, drop-replicate, ext_get_or}
use Rattle.std.proofs.lemmas.List.FromFn.{get_or-map-range_with_len, length-map-range_with_len}
use Rattle.std.specs.List.{range_with_len}
use Rattle.std.proofs.lemmas.Nat.{le_bytes_8}
use Rattle.std.specs.Int.{to_le_bytes, w64}
use Rattle.byteorder.specs.Endian.{little_from}
use Rattle.byteorder.proofs.Bytes.{from_le_bytes-put_mid8}
use borrow.Rule.Slice.PartMut.{put_mid}
use Rattle.cb_world.specs.Memory.{words_for, memory_byte, bytes_in}
use Rattle.cb_mutate.specs.WordsOf.{IsWordAt, AreWordsOf}

-- the bytes of a word that was read from n bytes: these, and zeros behind them
padded : (ys : List ℕ) (n j : ℕ) → length ys ≡ n → n ≤ 8 → j < 8
    → get_or (ys ++ replicate (8 - n) 0) j 0 ≡ get_or ys j 0
padded ys n j len fits below = elim (cases_lt j n) [
  | inl within ↦ get_or_append_left ys (replicate (8 - n) 0) 0 j (omega (arith, within, len))
  | inr past ↦ get_or-append_right ys (replicate (8 - n) 0) n j 0 len past
      ∙ get_or-replicate (8 - n) (j - n) 0 0 (omega (arith, past, below))
      ∙ sym (get_or_past ys j 0 (omega (arith, past, len)))
]

-- a part of the bytes, as far as it goes
part : (bytes : List ℕ) (a n j : ℕ) → j < n → get_or (take n (drop a bytes)) j 0
    ≡ get_or bytes (a + j) 0
part bytes a n j below = get_or-take n (drop a bytes) j 0 below ∙ get_or-drop a bytes j 0

pub word_read : (bytes : List ℕ) (i until x : ℕ) → 8 * i < length bytes
    → until ≡ min (length bytes) (8 * i + 8) → ((k : ℕ) → get_or bytes k 0 < 256)
    → x ≡ little_from 0 (until - 8 * i) (take (until - 8 * i) (drop (8 * i) bytes))
    → IsWordAt bytes i x
word_read bytes i until x some end low e j below =
    ap (λ (l : List ℕ). get_or l j 0) (same ∙ shape) ∙ padded ys n j len fits below ∙ at j below
  where
    n : ℕ
    n = until - 8 * i

    ys : List ℕ
    ys = take n (drop (8 * i) bytes)

    fits : n ≤ 8
    fits = omega (arith, end)

    len : length ys ≡ n
    len = length-take n (drop (8 * i) bytes)
        ∙ ap (min n) (length-drop (8 * i) bytes) ∙ omega (arith, end)

    at : (j : ℕ) → j < 8 → get_or ys j 0 ≡ get_or bytes (8 * i + j) 0
    at j below = elim (cases_lt j n) [
      | inl within ↦ part bytes (8 * i) n j within
      | inr past ↦ get_or_past ys j 0 (omega (arith, past, len))
          ∙ sym (get_or_past bytes (8 * i + j) 0 (omega (arith, past, end, below, some)))
    ]

    shape : put_mid 0 n (replicate 8 0) ys ≡ ys ++ replicate (8 - n) 0
    shape = rw (drop-replicate {X = ℕ} n 8 0) refl

    sized : length (ys ++ replicate (8 - n) 0) ≡ 8
    sized = length-append ys (replicate (8 - n) 0)
        ∙ (let m = length-replicate {A = ℕ} (8 - n) 0 in omega (arith, m, len, fits))

    byte : (k : ℕ) → get_or (ys ++ replicate (8 - n) 0) k 0 < 256
    byte k = elim (cases_lt k 8) [
      | inl within ↦ subst (λ (v : ℕ). v < 256)
          (sym (padded ys n k len fits within ∙ at k within)) (low (8 * i + k))
      | inr past ↦ subst (λ (v : ℕ). v < 256)
          (sym (get_or_past (ys ++ replicate (8 - n) 0) k 0 (omega (arith, past, sized))))
          (omega arith)
    ]

    same : to_le_bytes w64 x ≡ put_mid 0 n (replicate 8 0) ys
    same = le_bytes_8 (put_mid 0 n (replicate 8 0) ys) x (ap length shape ∙ sized)
        (λ k. subst (λ (l : List ℕ). get_or l k 0 < 256) (sym shape) (byte k))
        (e ∙ sym (from_le_bytes-put_mid8 ys n fits len))

-- the first words of the bytes
pub record AreFirstWords (bytes words : List ℕ) (n : ℕ) : Type 0 where
  pub count : length words ≡ n
  pub each : (i : ℕ) → i < n → IsWordAt bytes i (get_or words i 0)
  pub below : (i : ℕ) → get_or words i 0 < 2 ^ 64

pub words_none : (bytes : List ℕ) → AreFirstWords bytes [] 0
words_none bytes = record {
  count = refl;
  each = λ i below. absurd (omega (arith, below));
  below = λ i. omega arith;
}

pub words_more : (bytes words : List ℕ) (n x : ℕ) → AreFirstWords bytes words n
    → IsWordAt bytes n x → x < 2 ^ 64 → AreFirstWords bytes (words ++ x ∷ []) (n + 1)
words_more bytes words n x a at low = record {
  count = length-append words (x ∷ []) ∙ omega (arith, a.count);
  each = λ i below. elim (cases_lt i n) [
    | inl less ↦ subst (IsWordAt bytes i)
        (sym (get_or_append_left words (x ∷ []) 0 i (omega (arith, less, a.count)))) (a.each i less)
    | inr from ↦ let e : i ≡ n = omega (arith, below, from) in
        subst (IsWordAt bytes i) (sym (last i e)) (subst (λ (k : ℕ). IsWordAt bytes k x) (sym e) at)
  ];
  below = λ i. elim (cases_lt i n) [
    | inl less ↦ subst (λ (v : ℕ). v < 2 ^ 64)
        (sym (get_or_append_left words (x ∷ []) 0 i (omega (arith, less, a.count)))) (a.below i)
    | inr from ↦ rest i (ℕ_discrete i n) from
  ];
}
  where
    last : (i : ℕ) → i ≡ n → get_or (words ++ x ∷ []) i 0 ≡ x
    last i e = get_or-append_right words (x ∷ []) n i 0 a.count (omega (arith, e))
        ∙ ap (λ (k : ℕ). get_or (x ∷ []) k 0) (let z : i - n ≡ 0 = omega (arith, e) in z)

    rest : (i : ℕ) → Dec (i ≡ n) → n ≤ i → get_or (words ++ x ∷ []) i 0 < 2 ^ 64
    rest i (yes e) from = subst (λ (v : ℕ). v < 2 ^ 64) (sym (last i e)) low
    rest i (no off) from = subst (λ (v : ℕ). v < 2 ^ 64)
        (sym (get_or_past (words ++ x ∷ []) i 0
        (let z : i ≢ n = off in omega (arith, z, from, a.count, length-append words (x ∷ [])))))
        (omega arith)

-- the byte at a position of the words
byte_is : (bytes words : List ℕ) (n p : ℕ) → AreFirstWords bytes words n → p < 8 * n
    → memory_byte words p ≡ get_or bytes p 0
byte_is bytes words n p a below =
    a.each (p / 8) (omega (arith, below)) (p % 8) (omega arith)
    ∙ ap (λ (k : ℕ). get_or bytes k 0) (let e : 8 * (p / 8) + p % 8 ≡ p = omega arith in e)

first_bytes : (bytes words : List ℕ) → AreFirstWords bytes words (words_for (length bytes))
    → bytes_in words (length bytes) ≡ bytes
unfolding bytes_in
first_bytes bytes words a =
    let len = length bytes in
    let all = length-map-range_with_len (memory_byte words) 0 len in
    ext_get_or 0 (map (memory_byte words) (range_with_len 0 len)) bytes all
    (λ k below. get_or-map-range_with_len (memory_byte words) 0 len k k 0
    (omega (arith, below, all))
    (omega arith)
    ∙ byte_is bytes words (words_for len) k a (omega (arith, below, all)))

pub words_all : (bytes words : List ℕ) (n : ℕ) → n ≡ words_for (length bytes)
    → AreFirstWords bytes words n → AreWordsOf bytes words
words_all bytes words n e a =
    let all = subst (AreFirstWords bytes words) e a in record {
      count = all.count;
      first_bytes = first_bytes bytes words all;
      packed = λ p past below.
          byte_is bytes words (words_for (length bytes)) p all (omega (arith, below, all.count))
          ∙ get_or_past bytes p 0 past;
      below = all.below;
    }
