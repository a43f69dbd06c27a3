-- The row that the weights of a position make is that of the one code word which agrees.
use Rattle.std.proofs.Common.{◌≡◌, ℕ, ◌<◌, ◌≤◌, List, [], ◌∷◌, length, map, slice_index, take, sym, ap, subst, ext_get_or, ◌∙◌, arith}
use Rattle.std.specs.List.{range_with_len}
use Rattle.std.proofs.lemmas.List.{get_or-map, get_or-take, length-map, length-take-le}
use Rattle.std.proofs.lemmas.List.FromFn.{get_or-map-range_with_len, length-range_with_len}
use Rattle.cb_gf256.specs.Combination.{combination, AreCombinations}
use Rattle.cb_gf256.specs.Rows.{row_at, rows_at, AreRows, HaveLength, HoldBytes}
use Rattle.cb_gf256.proofs.PublicLaws.{agreeing_words_are_equal, all_rows, at_default, row_at_positions, sums_are_bytes}
use Rattle.cb_erase.specs.Weights.{AreWeights, IsSolution}
use Rattle.cb_types.specs.declared.order.DecodeOrder.{DecodeOrder}
use Rattle.cb_orders.specs.Done.{IsDecoded, IsOfWord}
use Rattle.cb_types.specs.Orders.{IsDecodable}

-- the sum of the rows, each times its factor
abbrev sum_of : List (List ℕ) → List ℕ → List ℕ
sum_of rows factors = map (combination factors rows) (range_with_len 0 (length (row_at rows 0)))

-- all sums that a table makes of the rows
abbrev sums_of : List (List ℕ) → List (List ℕ) → List (List ℕ)
sums_of table rows = map (sum_of rows) table

sums_made : (table rows : List (List ℕ)) → AreCombinations table rows (sums_of table rows)
sums_made table rows =
    let len = length (row_at rows 0) in
    record {
      count = length-map table (sum_of rows);
      equal_lengths = λ j d h.
          let within : j < length table = omega (arith, h, length-map table (sum_of rows)) in
          ap length (get_or-map (sum_of rows) table j [] d within)
          ∙ length-map (range_with_len 0 len) (combination (row_at table j) rows)
          ∙ length-range_with_len 0 len;
      values = λ j column h l.
          ap (λ (x : List ℕ). slice_index x column) (get_or-map (sum_of rows) table j [] [] h)
          ∙ get_or-map-range_with_len (combination (row_at table j) rows) 0 len column column 0 l
          (omega arith);
    }

-- the row was made of the order's rows by the weights of its position
abbrev pub IsMadeBy : List (List ℕ) → DecodeOrder → List ℕ → Type 0
IsMadeBy table o row = AreCombinations (row_at table o.position ∷ []) o.rows (row ∷ [])

-- it is that of the word that all the weights make
pub made_of_word : (o : DecodeOrder) (table : List (List ℕ)) (row : List ℕ) → IsDecodable o
    → AreRows o.rows → AreWeights o.k o.r o.present table → IsMadeBy table o row → IsOfWord o row
made_of_word o table row h rows weights made =
    let p = o.position in
    let word = sums_of table o.rows in
    let sums = sums_made table o.rows in
    let wide : HaveLength (length o.rows) table =
    subst (λ n. HaveLength n table) (sym h.count) weights.factors in
    let bytes : HoldBytes word = sums_are_bytes table o.rows word weights.bytes wide rows sums in
    let solution : IsSolution o.k o.r o.present o.rows word =
    weights.solve o.rows word h.count rows sums in
    let in_table : p < length table = omega (arith, h.wanted, weights.positions) in
    let long : length row ≡ length (row_at o.rows 0) = made.equal_lengths 0 [] (omega arith) in
    let same : row ≡ row_at word p =
    ext_get_or 0 row (row_at word p)
    (long ∙ sym (sums.equal_lengths p [] (omega (arith, in_table, sums.count))))
    (λ column l.
    let within : column < length (row_at o.rows 0) = omega (arith, l, long) in
    made.values 0 column (omega arith) within ∙ sym (sums.values p column in_table within)) in
    (word, bytes, solution, same)

-- there is only one such word
one_word : (o : DecodeOrder) (a b : List (List ℕ)) → IsDecodable o → HoldBytes a → HoldBytes b
    → IsSolution o.k o.r o.present o.rows a → IsSolution o.k o.r o.present o.rows b → a ≡ b
one_word o a b h bytes_a bytes_b in_a in_b =
    agreeing_words_are_equal o.k o.r a b o.present
    (omega (arith, h.range.data_most, h.range.parities_most)) (omega (arith, h.range.data_least))
    h.positions in_a.is_word bytes_a in_b.is_word bytes_b
    (λ i d l.
    subst (λ p. row_at a p ≡ row_at b p) (at_default o.present i 0 d l)
    (sym (row_at_positions a o.present i l)
    ∙ ap (λ rows. row_at rows i) (in_a.agrees ∙ sym in_b.agrees)
    ∙ row_at_positions b o.present i l))

pub word_decoded : (o : DecodeOrder) (row : List ℕ) → IsDecodable o → IsOfWord o row
    → IsDecoded o row
word_decoded o row h (word, bytes, solution, same) other other_bytes other_solution =
    same
    ∙ ap (λ rows. row_at rows o.position)
    (one_word o word other h bytes other_bytes solution other_solution)

-- the first row of a table is so made where it is the sum of all the order's rows by those factors
pub made_by : (o : DecodeOrder) (table factors rows made : List (List ℕ)) (sources : List ℕ)
    → factors ≡ row_at table o.position ∷ [] → rows ≡ o.rows → length sources ≡ length o.rows
    → ((i : ℕ) → i < length o.rows → slice_index sources i ≡ i)
    → AreCombinations factors (rows_at rows sources) (rows_at made (0 ∷ []))
    → IsMadeBy table o (row_at made 0)
made_by o table factors rows made sources are same count at sums =
    let shown = ap (λ x. rows_at x sources) same ∙ all_rows o.rows sources count at in
    subst (λ f. AreCombinations f o.rows (row_at made 0 ∷ [])) are
    (subst (λ x. AreCombinations factors x (row_at made 0 ∷ [])) shown sums)

-- a row of factors that a longer one begins with
pub front_is : (k : ℕ) (longer row : List ℕ) → k ≤ length longer → length row ≡ k
    → ((i : ℕ) → i < k → slice_index longer i ≡ slice_index row i) → take k longer ≡ row
front_is k longer row inside count same =
    let long = length-take-le k longer inside in
    ext_get_or 0 (take k longer) row (long ∙ sym count) (λ i l.
    let within : i < k = omega (arith, l, long) in
    get_or-take k longer i 0 within ∙ same i within)
