-- The patched parities of an order for two sets are those of the merged word.
use Rattle.std.proofs.Common.{◌≡◌, ℕ, zero, suc, ◌+◌, ◌*◌, ◌<◌, ◌≤◌, Bool, true, false, cond, nat_eq, All, List, [], ◌∷◌, length, take, get_or, refl, sym, ap, ap₂, ◌∙◌, arith, ext_get_or}
use Rattle.std.specs.List.{AllPairs}
use Rattle.std.proofs.lemmas.Bool.{eqb-true}
use Rattle.std.proofs.lemmas.List.{take_all}
use Rattle.std.proofs.lemmas.List.Kept.{AllPairs-from_increasing}
use Rattle.cb_gf256.specs.Product.{◌⊗◌}
use Rattle.cb_gf256.specs.Row.{row_sum, scaled_row}
use Rattle.cb_gf256.specs.Rows.{byte_at, row_at}
use Rattle.cb_gf256.specs.Sum.{◌⊕◌}
use Rattle.cb_gf256.proofs.PublicLaws.{row_sum_by_byte, row_sum_length, scaled_row_by_byte, scaled_row_length, sum_associates, sum_with_zero}
use Rattle.cb_code.specs.Coefficients.{AreCoefficients}
use Rattle.cb_world.specs.Merged.{AreTaken, IsMergedWord, patched, takes}
use Rattle.cb_world.specs.SetWord.{IsSpanWord}
use Rattle.cb_world.proofs.Laws.{merged_parity, patched_more}
use Rattle.cb_local.specs.Delta.{ArePatched, IsOrder, added_byte, width}
use Rattle.cb_local.specs.Words.{AreMergedParities, IsOfWords}
use Rattle.cb_local.specs.declared.order.DeltaOrder.{DeltaOrder}

-- ---- ascending positions are taken once each
off_eqb : (a b : ℕ) → (a ≡ b → ⊥) → nat_eq a b ≡ false
off_eqb a b off = by (nat_eq a b) refl
  where
    by : (c : Bool) → nat_eq a b ≡ c → c ≡ false
    by true e = absurd (off (eqb-true a b e))
    by false e = refl

both_false : (a b : Bool) → a ≡ false → b ≡ false → cond a true b ≡ false
both_false a b e f = ap (λ (x : Bool). cond x true b) e ∙ f

none_takes : (i : ℕ) (xs : List ℕ) → ((n : ℕ) → n < length xs → i < get_or xs n 0)
    → takes xs i ≡ false
none_takes i [] above = refl
none_takes i (q ∷ xs) above =
    both_false (nat_eq q i) (takes xs i)
    (off_eqb q i (λ e. let l : i < q = above 0 (omega arith) in omega (arith, l, e)))
    (none_takes i xs (λ n l. above (suc n) (omega (arith, l))))

pub are_taken : (k : ℕ) (xs : List ℕ) → AllPairs (λ x y. x < y) xs → All (λ p. p < k) xs
    → AreTaken k xs
are_taken k [] pairs below = tt
are_taken k (i ∷ xs) pairs below = (
  below 0 0 (omega arith),
  none_takes i xs (λ n l. pairs 0 (suc n) 0 (omega arith) (omega (arith, l))),
  are_taken k xs (λ a b d l m. pairs (suc a) (suc b) d (omega (arith, l)) (omega (arith, m)))
      (λ n d l. below (suc n) d (omega (arith, l))),
)

-- ---- the bytes of a parity to which the first positions are added
pub wide_row : (pages k r : ℕ) (rows : List (List ℕ)) (p : ℕ) → IsSpanWord pages k r rows
    → p < k + r → length (row_at rows p) ≡ 4096 * pages
wide_row pages k r rows p x l =
    x.is_word.equal_lengths p [] (let n = x.is_word.count in omega (arith, n, l)) ∙ x.wide

module _ (table : List (List ℕ)) (order : DeltaOrder) (is : IsOrder order) (pages : ℕ)
    (wa wb : List (List ℕ)) (x : IsOfWords order pages wa wb) (j : ℕ) (within : j < order.r) where
  abbrev factors : List ℕ
  factors = row_at table j

  abbrev own : List ℕ
  own = row_at wa (order.k + j)

  abbrev sum_to : ℕ → List ℕ
  sum_to n = patched factors wa wb own (take n order.taken)

  abbrev at : ℕ → ℕ
  at n = get_or order.taken n 0

  record HasBytes (n : ℕ) : Type 0 where
    pub long : length (sum_to n) ≡ 4096 * pages
    pub bytes : (column : ℕ) → get_or (sum_to n) column 0
        ≡ byte_at order.parities j column ⊕ added_byte table order n j column

  no_bytes : HasBytes 0
  no_bytes = record {
    long = wide_row pages order.k order.r wa (order.k + j) x.a_word (omega (arith, within));
    bytes = λ column. ap (λ (row : List ℕ). get_or row column 0) (sym (x.parity_rows j within))
        ∙ sym (sum_with_zero (byte_at order.parities j column));
  }

  more_bytes : (n : ℕ) → n < length order.taken → HasBytes n → HasBytes (suc n)
  more_bytes n l h =
      let a = row_at wa (at n) in
      let b = row_at wb (at n) in
      let p : at n < order.k = is.below n 0 l in
      let a_long : length a ≡ 4096 * pages =
      wide_row pages order.k order.r wa (at n) x.a_word (omega (arith, p)) in
      let b_long : length b ≡ 4096 * pages =
      wide_row pages order.k order.r wb (at n) x.b_word (omega (arith, p)) in
      let c = get_or factors (at n) 0 in
      let even : length a ≡ length b = a_long ∙ sym b_long in
      let delta_long : length (row_sum a b) ≡ 4096 * pages = row_sum_length a b even ∙ a_long in
      let same : length (sum_to n) ≡ length (scaled_row c (row_sum a b)) =
      h.long ∙ sym (scaled_row_length c (row_sum a b) ∙ delta_long) in
      let is_sum : sum_to (suc n) ≡ row_sum (sum_to n) (scaled_row c (row_sum a b)) =
      ap sum_to (let e : suc n ≡ n + 1 = omega arith in e)
      ∙ patched_more factors wa wb own order.taken n l in
      record {
        long = ap length is_sum ∙ row_sum_length (sum_to n) (scaled_row c (row_sum a b)) same
            ∙ h.long;
        bytes = λ column. ap (λ (row : List ℕ). get_or row column 0) is_sum
            ∙ row_sum_by_byte (sum_to n) (scaled_row c (row_sum a b)) column same
            ∙ ap₂ ◌⊕◌ (h.bytes column)
            (scaled_row_by_byte c (row_sum a b) column
            ∙ ap (λ (v : ℕ). c ⊗ v) (row_sum_by_byte a b column even
            ∙ ap₂ ◌⊕◌ (ap (λ (row : List ℕ). get_or row column 0) (sym (x.old_rows n l)))
            (ap (λ (row : List ℕ). get_or row column 0) (sym (x.new_rows n l)))))
            ∙ sum_associates (byte_at order.parities j column) (added_byte table order n j column)
            (c ⊗ (byte_at order.old n column ⊕ byte_at order.new n column));
      }

  have_bytes : (n : ℕ) → n ≤ length order.taken → HasBytes n
  have_bytes zero l = no_bytes
  have_bytes (suc n) l = more_bytes n (omega (arith, l)) (have_bytes n (omega (arith, l)))

  pub is_merged : AreCoefficients order.k order.r table → (rows m : List (List ℕ))
      → ArePatched table order rows → IsMergedWord pages order.k order.r order.taken wa wb m
      → row_at rows j ≡ row_at m (order.k + j)
  is_merged coeffs rows m done merged =
      let count = length order.taken in
      let h = have_bytes count (omega arith) in
      let e = done.count in
      let i = is.parity_count in
      let long : length (row_at rows j) ≡ width order = done.wide j [] (omega (arith, e, within)) in
      let wide : width order ≡ 4096 * pages =
      sym (is.parities_wide j [] (omega (arith, i, within))) ∙ ap length (x.parity_rows j within)
      ∙ wide_row pages order.k order.r wa (order.k + j) x.a_word (omega (arith, within)) in
      ext_get_or 0 (row_at rows j) (sum_to count) (long ∙ wide ∙ sym h.long)
      (λ column l. done.bytes j column within (omega (arith, l, long)) ∙ sym (h.bytes column))
      ∙ ap (patched factors wa wb own) (take_all count order.taken (omega arith))
      ∙ merged_parity pages order.k order.r table wa wb m order.taken (record {
        range = is.range;
        coefficients = coeffs;
        a_word = x.a_word;
        b_word = x.b_word;
      }) (are_taken order.k order.taken (AllPairs-from_increasing order.taken is.ascend) is.below)
      merged j within

pub patched_merged : (table : List (List ℕ)) (order : DeltaOrder) (rows : List (List ℕ))
    → IsOrder order → AreCoefficients order.k order.r table → ArePatched table order rows
    → AreMergedParities order rows
patched_merged table order rows is coeffs done pages wa wb m x merged j l =
    is_merged table order is pages wa wb x j l coeffs rows m done merged
