-- Each code that is built has a table of coefficients: Lagrange's factors of the data positions for
-- the parities.
use Rattle.std.proofs.Common.{◌≡◌, ◌≢◌, if◌then◌else◌, ℕ, zero, suc, ◌+◌, ◌<◌, ◌==◌, Bool, true, false, List, [], ◌++◌, length, get_or, map, sym, refl, ap, ap₂, ◌∙◌, arith, inl, inr}
use Rattle.std.specs.List.{range_with_len}
use Rattle.std.proofs.lemmas.Bool.{cases_eq, cases_lt}
use Rattle.std.proofs.lemmas.List.{get_or_append_left, get_or-append-add, length-append, length-map}
use Rattle.std.proofs.lemmas.List.Elements.{All-append}
use Rattle.std.proofs.lemmas.List.FromFn.{get_or-map-range_with_len}
use Rattle.cb_code.specs.Coefficients.{AreCoefficients}
use Rattle.cb_gf256.specs.CodeWord.{IsCodeWord}
use Rattle.cb_gf256.specs.Combination.{AreCombinations}
use Rattle.cb_gf256.specs.InRange.{IsInRange}
use Rattle.cb_gf256.specs.Lagrange.{AreFactors, differences, points}
use Rattle.cb_gf256.specs.Power.{power}
use Rattle.cb_gf256.specs.Product.{◌⊗◌}
use Rattle.cb_gf256.specs.Rows.{AreRows, HaveLength, HoldBytes, byte_at, row_at}
use Rattle.cb_gf256.specs.Sum.{◌⊕◌, sum_over}
use Rattle.cb_gf256.proofs.PublicLaws.{at_default, basis_of, inverse_exists, one_with_product, parities_split, power_is_byte, powers_of_two_differ, product_associates, product_is_byte, product_with_one, product_with_zero, sum_is_byte, sum_over_same, sums_make_a_word}

differences_byte : (n : ℕ) (point : ℕ → ℕ) (e x : ℕ) → x < 256 → ((m : ℕ) → point m < 256)
    → differences n point e x < 256
differences_byte zero point e x l b = omega arith
differences_byte (suc n) point e x l b =
    product_is_byte (differences n point e x) (if n == e then 1 else (x ⊕ point n))
    (differences_byte n point e x l b)
    (one_or (n == e) (x ⊕ point n) (sum_is_byte x (point n) l (b n)))
  where
    one_or : (f : Bool) (y : ℕ) → y < 256 → (if f then 1 else y) < 256
    one_or true y l = omega arith
    one_or false y l = l

length-range : (a n : ℕ) → length (range_with_len a n) ≡ n
length-range a zero = refl
length-range a (suc n) = ap suc (length-range (a + 1) n)

module _ (k r : ℕ) (range : IsInRange k r) where
  abbrev point : ℕ → ℕ
  point = points (λ e. k + e)

  point_byte : (m : ℕ) → point m < 256
  point_byte m = power_is_byte 2 (k + m) (omega arith)

  apart : (d e : ℕ) → d < r → e < r → d ≢ e → point d ≢ point e
  apart d e l m off same =
      let a = range.data_most in let b = range.parities_most in
      let p = powers_of_two_differ (k + d) (k + e) (omega (arith, a, b, l)) (omega (arith, a, b, m))
      same in off (omega (arith, p))

  -- the product of differences at the parity's own point is not 0
  abbrev own : ℕ → ℕ
  own e = differences r point e (point e)

  own_byte : (e : ℕ) → own e < 256
  own_byte e = differences_byte r point e (point e) (point_byte e) point_byte

  own_some : (e : ℕ) → e < r → 0 < own e
  own_some e l = elim (cases_eq (own e) 0) [
    | inl none ↦
        let b = basis_of r point (λ m q. point_byte m) apart in
        let x = b.2 e (point e) 0 l (point_byte e) (omega arith)
        (product_with_zero (own e) ∙ sym none) in
        let y = b.2 e (point e) 1 l (point_byte e) (omega arith)
        (product_with_one (own e) (own_byte e)) in
        absurd (omega (arith, x, y))
    | inr some ↦ omega (arith, some)
  ]

  turned : (e : ℕ) → (i : ℕ) × (e < r → (i < 256) × (own e ⊗ i ≡ 1))
  turned e = elim (cases_lt e r) [
    | inl l ↦ let x = inverse_exists (own e) (own_some e l) (own_byte e) in
        (x.0, λ m. (x.1, x.2))
    | inr past ↦ (0, λ l. absurd (omega (arith, l, past)))
  ]

  -- ---- the table
  abbrev factor : ℕ → ℕ → ℕ
  factor e i = (turned e).0 ⊗ differences r point e (power 2 i)

  abbrev row_of : ℕ → List ℕ
  row_of e = map (factor e) (range_with_len 0 k)

  abbrev table : List (List ℕ)
  table = map row_of (range_with_len 0 r)

  height : length table ≡ r
  height = length-map (range_with_len 0 r) row_of ∙ length-range 0 r

  row_is : (e : ℕ) → e < r → row_at table e ≡ row_of e
  row_is e l = get_or-map-range_with_len row_of 0 r e e [] l (omega arith)

  byte_is : (e i : ℕ) → e < r → i < k → byte_at table e i ≡ factor e i
  byte_is e i l m = ap (λ (row : List ℕ). get_or row i 0) (row_is e l)
      ∙ get_or-map-range_with_len (factor e) 0 k i i 0 m (omega arith)

  width : HaveLength k table
  width j d l =
      let h = height in let within : j < r = omega (arith, l, h) in
      ap (λ (row : List ℕ). length row) (at_default table j d [] l ∙ row_is j within)
      ∙ length-map (range_with_len 0 k) (factor j) ∙ length-range 0 k

  difference_byte : (e i : ℕ) → differences r point e (power 2 i) < 256
  difference_byte e i =
      differences_byte r point e (power 2 i) (power_is_byte 2 i (omega arith)) point_byte

  factor_byte : (e i : ℕ) → e < r → factor e i < 256
  factor_byte e i l =
      product_is_byte (turned e).0 (differences r point e (power 2 i)) ((turned e).1 l).0
      (difference_byte e i)

  bytes : HoldBytes table
  bytes j d l column z m =
      let h = height in let within : j < r = omega (arith, l, h) in
      let same = at_default table j d [] l in
      let w = width j d l in
      let inside : column < k = omega (arith, m, w) in
      let f = factor_byte j column within in
      let e = ap (λ (row : List ℕ). get_or row column z) (same ∙ row_is j within)
      ∙ get_or-map-range_with_len (factor j) 0 k column column z inside (omega arith) in
      omega (arith, e, f)

  factors : AreFactors k r (λ i. i) (λ e. k + e) (byte_at table)
  factors = record {
    factor = λ e i l m. let same = byte_is e i l m in record {
      byte = let b = factor_byte e i l in omega (arith, b, same);
      quotient =
          let d = differences r point e (power 2 i) in
          let t = (turned e).1 l in
          ap (λ (v : ℕ). own e ⊗ v) same
          ∙ sym (product_associates (own e) (turned e).0 d (own_byte e) t.0 (difference_byte e i))
          ∙ ap (λ (v : ℕ). v ⊗ d) t.1 ∙ one_with_product d (difference_byte e i);
    };
  }

  -- ---- the words that it makes
  front : (rows sums : List (List ℕ)) (i column : ℕ) → i < length rows
      → byte_at (rows ++ sums) i column ≡ byte_at rows i column
  front rows sums i column l =
      ap (λ (row : List ℕ). get_or row column 0) (get_or_append_left rows sums [] i l)

  back : (rows sums : List (List ℕ)) (e column : ℕ)
      → byte_at (rows ++ sums) (length rows + e) column ≡ byte_at sums e column
  back rows sums e column =
      ap (λ (row : List ℕ). get_or row column 0) (get_or-append-add rows sums e [])

  words : (rows sums : List (List ℕ)) → length rows ≡ k → AreRows rows
      → AreCombinations table rows sums → IsCodeWord k r (rows ++ sums)
  words rows sums count h made =
      let len = length (row_at rows 0) in
      let word = rows ++ sums in
      let tall = height in
      let a = range.data_most in let b = range.parities_most in let c = range.data_least in
      sums_make_a_word k r len word (λ i. i) (λ e. k + e) (byte_at table)
      (omega (arith, a, b)) (omega (arith, c)) (parities_split k r) factors
      (length-append rows sums ∙ ap₂ ◌+◌ count (made.count ∙ height))
      (All-append (λ (row : List ℕ). length row ≡ len) rows sums h.equal_lengths made.equal_lengths)
      (λ i column l m.
      let within : i < length rows = omega (arith, l, count) in
      let e = front rows sums i column within in
      let w = h.equal_lengths i [] within in
      let x = h.bytes i [] within column 0 (omega (arith, m, w)) in
      omega (arith, e, x))
      (λ e column l m.
      let in_table : e < length table = omega (arith, l, tall) in
      ap (λ (p : ℕ). byte_at word p column) (ap (λ (n : ℕ). n + e) (sym count))
      ∙ back rows sums e column
      ∙ made.values e column in_table m
      ∙ ap (λ (n : ℕ). sum_over n (λ i. byte_at table e i ⊗ byte_at rows i column))
      (width e [] in_table)
      ∙ sum_over_same k (λ i. byte_at table e i ⊗ byte_at rows i column)
      (λ i. byte_at table e i ⊗ byte_at word i column)
      (λ i q. ap (λ (v : ℕ). byte_at table e i ⊗ v)
      (sym (front rows sums i column (omega (arith, q, count))))))

  pub table_exists : (t : List (List ℕ)) × AreCoefficients k r t
  table_exists = (
    table,
    record {
      parities = height;
      positions = width;
      bytes = bytes;
      make_words = words;
    },
  )
