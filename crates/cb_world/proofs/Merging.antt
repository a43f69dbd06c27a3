-- The merged word: it is there, and the deltas of the taken positions make its parities from a's.
use Rattle.std.proofs.Common.{◌≡◌, ◌≢◌, ℕ, ◌+◌, ◌*◌, ◌<◌, ◌^◌, true, cond, List, [], ◌∷◌, ◌++◌, length, take, get_or, set, map, All, sym, refl, ap, ap₂, ◌∙◌, subst, arith, inl, inr, length-set, get_or-set_same, get_or-set_other}
use Rattle.std.proofs.lemmas.Bool.{cases_eq, true≢false}
use Rattle.std.proofs.lemmas.Bool.Decides.{nat_tests}
use Rattle.std.proofs.lemmas.List.{get_or-map, get_or-take, length-take-le, get_or_append_left, get_or-append-add, length-map}
use Rattle.std.proofs.lemmas.List.Elements.{All-append}
use Rattle.std.proofs.lemmas.List.FromFn.{get_or-map-range_with_len, length-map-range_with_len}
use Rattle.std.proofs.lemmas.Grind.{same_number_lists}
use Rattle.std.specs.List.{range_with_len}
use Rattle.cb_gf256.specs.Sum.{◌⊕◌, sum_over}
use Rattle.cb_gf256.specs.Product.{◌⊗◌}
use Rattle.cb_gf256.specs.Row.{row_sum, scaled_row}
use Rattle.cb_gf256.specs.Rows.{row_at, byte_at, HaveLength, HoldBytes, AreRows}
use Rattle.cb_gf256.specs.CodeWord.{IsCodeWord}
use Rattle.cb_gf256.specs.InRange.{IsInRange}
use Rattle.cb_gf256.specs.Combination.{combination, AreCombinations}
use Rattle.cb_gf256.proofs.PublicLaws.{words_that_agree, parities_split, sums_are_bytes, sum_over_one_term, sum_over_sums, sum_over_same, product_distributes, product_with_zero, sum_commutes, sum_associates, sum_with_zero, sum_with_itself, row_sum_length, row_sum_by_byte, scaled_row_length, scaled_row_by_byte}
use Rattle.cb_code.specs.Coefficients.{AreCoefficients}
use Rattle.cb_world.specs.SetWord.{IsSpanWord}
use Rattle.cb_world.specs.Merged.{takes, patched, AreTaken, IsMergedWord}

-- ---- the sums that a table makes of data rows
abbrev sums_of : List (List ℕ) → List (List ℕ) → List (List ℕ)
sums_of table given =
    map (λ factors.
    map (λ c. combination factors given c) (range_with_len 0 (length (row_at given 0)))) table

sums_row : (table given : List (List ℕ)) (j : ℕ) → j < length table → (d : List ℕ)
    → get_or (sums_of table given) j d ≡ map (λ c.
    combination (row_at table j) given c) (range_with_len 0 (length (row_at given 0)))
sums_row table given j l d =
    get_or-map (λ factors.
    map (λ c.
    combination factors given c) (range_with_len 0 (length (row_at given 0)))) table j [] d l

sums_made : (table given : List (List ℕ)) → AreCombinations table given (sums_of table given)
sums_made table given = record {
  count = length-map table (λ factors.
      map (λ c. combination factors given c) (range_with_len 0 (length (row_at given 0))));
  equal_lengths =
      λ j d l. ap length (sums_row table given j (omega (
        arith,
        l,
        length-map table (λ factors.
            map (λ c. combination factors given c) (range_with_len 0 (length (row_at given 0)))),
      )) d)
      ∙ length-map-range_with_len (λ c.
      combination (row_at table j) given c) 0 (length (row_at given 0));
  values = λ j c l m. ap (λ (row : List ℕ). get_or row c 0) (sums_row table given j l [])
      ∙ get_or-map-range_with_len (λ c.
      combination (row_at table j) given c) 0 (length (row_at given 0)) c c 0 m (omega arith);
}

-- any data rows are the data of a word
pub record IsWordFrom (k r : ℕ) (given rows : List (List ℕ)) : Type 0 where
  pub is_word : IsCodeWord k r rows
  pub bytes : HoldBytes rows
  pub same : (i : ℕ) → i < k → row_at rows i ≡ row_at given i

word_sums : (k r : ℕ) (table given : List (List ℕ)) → AreCoefficients k r table → length given ≡ k
    → AreRows given → IsWordFrom k r given (given ++ sums_of table given)
word_sums k r table given c count rows = record {
  is_word = c.make_words given (sums_of table given) count rows (sums_made table given);
  bytes = All-append (All (λ x.
      x < 2 ^ 8)) given (sums_of table given) rows.bytes
      (sums_are_bytes table given (sums_of table given) c.bytes (subst (λ (n : ℕ).
      HaveLength n table) (sym count) c.positions) rows (sums_made table given));
  same = λ i l. get_or_append_left given (sums_of table given) [] i (omega (arith, l, count));
}

-- two words with the same data are one
pub same_data : (k r : ℕ) (x y : List (List ℕ)) → IsInRange k r → IsCodeWord k r x → HoldBytes x
    → IsCodeWord k r y → HoldBytes y → ((i : ℕ) → i < k → row_at x i ≡ row_at y i) → x ≡ y
same_data k r x y range wx bx wy by same =
    words_that_agree k r x y (λ i. i) (λ e.
    k + e) (omega (arith, range.data_most, range.parities_most)) (omega (
      arith,
      range.data_least,
    )) (parities_split k r) wx bx wy by same

-- the first k rows of a word
data_rows : (k r : ℕ) (x : List (List ℕ)) → IsInRange k r → IsCodeWord k r x → HoldBytes x
    → (length (take k x) ≡ k) × AreRows (take k x)
data_rows k r x range w b =
    let n : length (take k x) ≡ k = length-take-le k x (omega (arith, w.count)) in
    let first : row_at (take k x) 0 ≡ row_at x 0 =
    get_or-take k x 0 [] (omega (arith, range.data_least)) in (
      n,
      record {
        equal_lengths = λ i d l. ap length (get_or-take k x i d (omega (arith, n, l)))
            ∙ w.equal_lengths i d (omega (arith, n, l, w.count)) ∙ sym (ap length first);
        bytes = λ i d l.
            subst (All (λ x.
            x < 2 ^ 8)) (sym (get_or-take k x i d (omega (arith, n, l)))) (b i d (omega (
              arith,
              n,
              l,
              w.count,
            )));
      },
    )

-- a word's parity is the sum of its data that the table makes
pub parity_is_sum : (k r : ℕ) (table x : List (List ℕ)) → IsInRange k r → AreCoefficients k r table
    → IsCodeWord k r x → HoldBytes x → (j column : ℕ) → j < r → column < length (row_at x 0)
    → byte_at x (k + j) column ≡ sum_over k (λ i. byte_at table j i ⊗ byte_at x i column)
parity_is_sum k r table x range c w b j column l m =
    let d = data_rows k r x range w b in
    let y = word_sums k r table (take k x) c d.0 d.1 in
    let e : x ≡ take k x ++ sums_of table (take k x) =
    same_data k r x (take k x ++ sums_of table (take k x)) range w b y.is_word y.bytes (λ i q.
    sym (y.same i q ∙ get_or-take k x i [] q)) in
    let first : row_at (take k x) 0 ≡ row_at x 0 =
    get_or-take k x 0 [] (omega (arith, range.data_least)) in
    let width : length (row_at table j) ≡ k = c.positions j [] (omega (arith, l, c.parities)) in
    ap (λ (rows : List (List ℕ)). byte_at rows (k + j) column) e
    ∙ ap (λ (n : ℕ). byte_at (take k x ++ sums_of table (take k x)) (n + j) column) (sym d.0)
    ∙ ap (λ (row : List ℕ).
    get_or row column 0) (get_or-append-add (take k x) (sums_of table (take k x)) j [])
    ∙ (sums_made table (take k x)).values j column (omega (arith, l, c.parities)) (omega (
      arith,
      m,
      ap length first,
    ))
    ∙ ap (λ (n : ℕ). sum_over n (λ i. byte_at table j i ⊗ byte_at (take k x) i column)) width
    ∙ sum_over_same k (λ i. byte_at table j i ⊗ byte_at (take k x) i column) (λ i.
    byte_at table j i ⊗ byte_at x i column) (λ i q.
    ap (λ (row : List ℕ). byte_at table j i ⊗ get_or row column 0) (get_or-take k x i [] q))

-- ---- one delta
cancelled : (x y d : ℕ) → x ⊕ y ≡ d → y ≡ x ⊕ d
cancelled x y d e =
    sym (ap (λ z. x ⊕ z) (sym e) ∙ sym (sum_associates x x y) ∙ ap (λ z. z ⊕ y) (sum_with_itself x)
    ∙ sum_commutes 0 y ∙ sum_with_zero y)

wide_at : (pages k r : ℕ) (x : List (List ℕ)) → IsSpanWord pages k r x → (i : ℕ) → i < k + r
    → length (row_at x i) ≡ 4096 * pages
wide_at pages k r x w i l = w.is_word.equal_lengths i [] (omega (arith, l, w.is_word.count)) ∙ w.wide

-- where two words differ at one data position alone, the parities of the one are those of the other
-- with one delta added
pub parity_with_delta : (pages k r : ℕ) (table x y : List (List ℕ)) → IsInRange k r
    → AreCoefficients k r table → IsSpanWord pages k r x → IsSpanWord pages k r y → (i : ℕ) → i < k
    → ((q : ℕ) → q < k → q ≢ i → row_at y q ≡ row_at x q)
    → (j : ℕ) → j < r
    → row_at y (k + j) ≡ row_sum (row_at x (k + j))
    (scaled_row (byte_at table j i) (row_sum (row_at x i) (row_at y i)))
parity_with_delta pages k r table x y range c wx wy i l same j m =
    let xi = wide_at pages k r x wx i (omega (arith, l)) in
    let yi = wide_at pages k r y wy i (omega (arith, l)) in
    let xp = wide_at pages k r x wx (k + j) (omega (arith, m)) in
    let yp = wide_at pages k r y wy (k + j) (omega (arith, m)) in
    let t = byte_at table j i in
    let change = row_sum (row_at x i) (row_at y i) in
    let change_wide : length change ≡ 4096 * pages = row_sum_length (row_at x i) (row_at y i) (xi ∙ sym yi)
    ∙ xi in
    let scaled_wide : length (scaled_row t change) ≡ 4096 * pages = scaled_row_length t change
    ∙ change_wide in
    same_number_lists (row_at y (k + j)) (row_sum (row_at x (k + j)) (scaled_row t change))
    (yp ∙ sym (row_sum_length (row_at x (k + j)) (scaled_row t change) (xp ∙ sym scaled_wide)
    ∙ xp))
    (λ column q.
    let in_x : column < length (row_at x 0) = omega (arith, q, yp, wx.wide) in
    let in_y : column < length (row_at y 0) = omega (arith, q, yp, wy.wide) in
    cancelled (byte_at x (k + j) column) (byte_at y (k + j) column)
    (t ⊗ (byte_at x i column ⊕ byte_at y i column)) (
    ap₂ ◌⊕◌ (parity_is_sum k r table x range c wx.is_word wx.bytes j column m in_x)
    (parity_is_sum k r table y range c wy.is_word wy.bytes j column m in_y)
    ∙ sym (sum_over_sums k (λ p. byte_at table j p ⊗ byte_at x p column) (λ p.
    byte_at table j p ⊗ byte_at y p column))
    ∙ sum_over_same k (λ p.
    (byte_at table j p ⊗ byte_at x p column) ⊕ (byte_at table j p ⊗ byte_at y p column))
    (λ p. byte_at table j p ⊗ (byte_at x p column ⊕ byte_at y p column)) (λ p q.
    sym (product_distributes (byte_at table j p) (byte_at x p column) (byte_at y p column)))
    ∙ sum_over_one_term k i (λ p.
    byte_at table j p ⊗ (byte_at x p column ⊕ byte_at y p column)) l (λ p q off.
    ap (λ (row : List ℕ).
    byte_at table j p ⊗ (byte_at x p column ⊕ get_or row column 0)) (same p q off)
    ∙ ap (λ z. byte_at table j p ⊗ z) (sum_with_itself (byte_at x p column))
    ∙ product_with_zero (byte_at table j p)))
    ∙ sym (row_sum_by_byte (row_at x (k + j)) (scaled_row t change) column (xp ∙ sym scaled_wide)
    ∙ ap (λ z. byte_at x (k + j) column ⊕ z) (scaled_row_by_byte t change column
    ∙ ap (λ z. t ⊗ z) (row_sum_by_byte (row_at x i) (row_at y i) column (xi ∙ sym yi)))))

-- ---- the deltas of all taken positions
-- the rows of the word of these data, as long as a span
word_from : (pages k r : ℕ) (table given : List (List ℕ)) → IsInRange k r → AreCoefficients k r table
    → length given ≡ k → AreRows given → length (row_at given 0) ≡ 4096 * pages
    → (rows : List (List ℕ)) × IsSpanWord pages k r rows
    × ((i : ℕ) → i < k → row_at rows i ≡ row_at given i)
word_from pages k r table given range c count rows wide =
    let w = word_sums k r table given c count rows in (
      given ++ sums_of table given,
      record {
        is_word = w.is_word;
        bytes = w.bytes;
        wide =
            ap length (w.same 0 (omega (arith, range.data_least))) ∙ wide;
      },
      w.same,
    )

-- a word with another row at one data position
pub word_with_row : (pages k r : ℕ) (table x : List (List ℕ)) (i : ℕ) (row : List ℕ) → IsInRange k r
    → AreCoefficients k r table → IsSpanWord pages k r x → i < k → length row ≡ 4096 * pages
    → All (λ b. b < 2 ^ 8) row
    → (y : List (List ℕ)) × IsSpanWord pages k r y × (row_at y i ≡ row)
    × ((q : ℕ) → q < k → q ≢ i → row_at y q ≡ row_at x q)
word_with_row pages k r table x i row range c w l wide bytes =
    let d = data_rows k r x range w.is_word w.bytes in
    let given = set (take k x) i row in
    let n : length given ≡ k = length-set (take k x) i row ∙ d.0 in
    let here : (e : List ℕ) → get_or given i e ≡ row =
    λ e. get_or-set_same (take k x) i row e (omega (arith, l, d.0)) in
    let else : (q : ℕ) (e : List ℕ) → q < k → q ≢ i → get_or given q e ≡ get_or x q e =
    λ q e m off. get_or-set_other (take k x) i q row e off ∙ get_or-take k x q e m in
    let long : (q : ℕ) (e : List ℕ) → q < k → length (get_or given q e) ≡ 4096 * pages =
    λ q e m. elim (cases_eq q i) [
      | inl same ↦ ap (λ (p : ℕ). length (get_or given p e)) same ∙ ap length (here e) ∙ wide
      | inr off ↦ ap length (else q e m off)
          ∙ w.is_word.equal_lengths q e (omega (arith, m, w.is_word.count)) ∙ w.wide
    ] in
    let first = long 0 [] (omega (arith, range.data_least)) in
    let y = word_from pages k r table given range c n (record {
      equal_lengths = λ q e m. long q e (omega (arith, m, n)) ∙ sym first;
      bytes = λ q e m. elim (cases_eq q i) [
        | inl same ↦
            subst (All (λ b. b < 2 ^ 8)) (sym (ap (λ (p : ℕ). get_or given p e) same
            ∙ here e)) bytes
        | inr off ↦
            subst (All (λ b.
            b < 2 ^ 8)) (sym (else q e (omega (arith, m, n)) off)) (w.bytes q e (omega (
              arith,
              m,
              n,
              w.is_word.count,
            )))
      ];
    }) first in
    (y.0, y.1, y.2 i l ∙ here [], λ q m off. y.2 q m ∙ else q [] m off)

takes_other : (i q : ℕ) (taken : List ℕ) → i ≢ q → takes (i ∷ taken) q ≡ takes taken q
takes_other i q taken off = grind (arith, nat_tests)

takes_here : (i : ℕ) (taken : List ℕ) → takes (i ∷ taken) i ≡ true
takes_here i taken = grind (arith, nat_tests)

-- the words of two sets of one code and length
pub record AreTwoWords (pages k r : ℕ) (table a b : List (List ℕ)) : Type 0 where
  pub range : IsInRange k r
  pub coefficients : AreCoefficients k r table
  pub a_word : IsSpanWord pages k r a
  pub b_word : IsSpanWord pages k r b

-- one after another
patched_from : (pages k r : ℕ) (table a b x m : List (List ℕ)) → AreTwoWords pages k r table a b
    → IsSpanWord pages k r x → IsSpanWord pages k r m → (j : ℕ) → j < r → (taken : List ℕ) → AreTaken k taken
    → ((i : ℕ) → i < k → takes taken i ≡ true → row_at x i ≡ row_at a i)
    → ((i : ℕ) → i < k → row_at m i ≡ cond (takes taken i) (row_at b i) (row_at x i))
    → patched (row_at table j) a b (row_at x (k + j)) taken ≡ row_at m (k + j)
patched_from pages k r table a b x m two wx wm j l [] are was now =
    ap (λ (w : List (List ℕ)).
    row_at w (k + j))
    (sym (same_data k r m x two.range wm.is_word wm.bytes wx.is_word wx.bytes now))
patched_from pages k r table a b x m two wx wm j l (i ∷ taken) are was now =
    let y = word_with_row pages k r table x i (row_at b i) two.range two.coefficients wx are.0
    (wide_at pages k r b two.b_word i (omega (arith, are.0))) (two.b_word.bytes i [] (omega (
      arith,
      are.0,
      two.b_word.is_word.count,
    ))) in
    let delta =
    parity_with_delta pages k r table x y.0 two.range two.coefficients wx y.1 i are.0 y.3 j l in
    let change : row_sum (row_at x (k + j))
    (scaled_row (byte_at table j i) (row_sum (row_at a i) (row_at b i))) ≡ row_at y.0 (k + j) =
    sym (delta
    ∙ ap₂ (λ (p q : List ℕ).
    row_sum (row_at x (k + j)) (scaled_row (byte_at table j i) (row_sum p q)))
    (was i are.0 (takes_here i taken)) y.2) in
    ap (λ (row : List ℕ). patched (row_at table j) a b row taken) change
    ∙ patched_from pages k r table a b y.0 m two y.1 wm j l taken are.2
    (λ q h t. let off : q ≢ i =
    λ e. true≢false (sym t ∙ ap (takes taken) e ∙ are.1) in y.3 q h off
    ∙ was q h (takes_other i q taken (λ e. off (sym e)) ∙ t))
    (λ q h. elim (cases_eq q i) [
      | inl e ↦ now q h
          ∙ ap (λ c. cond c (row_at b q) (row_at x q)) (ap (takes (i ∷ taken)) e
          ∙ takes_here i taken) ∙ ap (row_at b) e ∙ sym y.2 ∙ ap (row_at y.0) (sym e)
          ∙ sym (ap (λ c. cond c (row_at b q) (row_at y.0 q)) (ap (takes taken) e ∙ are.1))
      | inr off ↦ now q h
          ∙ ap₂ (λ c (row : List ℕ).
          cond c (row_at b q) row) (takes_other i q taken (λ e. off (sym e))) (sym (y.3 q h off))
    ])

-- the deltas of the taken positions make the merged word's parities from a's
pub merged_parity : (pages k r : ℕ) (table a b m : List (List ℕ)) (taken : List ℕ)
    → AreTwoWords pages k r table a b → AreTaken k taken → IsMergedWord pages k r taken a b m → (j : ℕ) → j < r
    → patched (row_at table j) a b (row_at a (k + j)) taken ≡ row_at m (k + j)
merged_parity pages k r table a b m taken two are merged j l =
    patched_from pages k r table a b a m two two.a_word merged.word j l taken are (λ i h t.
    refl) merged.chosen

-- and there is a merged word
pub merged_word : (pages k r : ℕ) (table a b : List (List ℕ)) (taken : List ℕ) → AreTwoWords pages k r table a b
    → AreTaken k taken → (m : List (List ℕ)) × IsMergedWord pages k r taken a b m
merged_word pages k r table a b [] two are = (a, record { word = two.a_word; chosen = λ i l. refl })
merged_word pages k r table a b (i ∷ taken) two are =
    let x = merged_word pages k r table a b taken two are.2 in
    let y = word_with_row pages k r table x.0 i (row_at b i) two.range two.coefficients x.1.word are.0
    (wide_at pages k r b two.b_word i (omega (arith, are.0))) (two.b_word.bytes i [] (omega (
      arith,
      are.0,
      two.b_word.is_word.count,
    ))) in (
      y.0,
      record {
        word = y.1;
        chosen = λ q h. elim (cases_eq q i) [
          | inl e ↦ ap (row_at y.0) e ∙ y.2 ∙ ap (row_at b) (sym e)
              ∙ sym (ap (λ c. cond c (row_at b q) (row_at a q)) (ap (takes (i ∷ taken)) e
              ∙ takes_here i taken))
          | inr off ↦ y.3 q h off ∙ x.1.chosen q h
              ∙ sym (ap (λ c.
              cond c (row_at b q) (row_at a q)) (takes_other i q taken (λ e. off (sym e))))
        ];
      },
    )
