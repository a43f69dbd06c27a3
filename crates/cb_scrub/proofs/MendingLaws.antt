-- A row that is replaced byte by byte.
use Rattle.std.proofs.Common.{◌≡◌, ◌≢◌, ℕ, ◌+◌, ◌<◌, cond, eqb, List, [], length, get_or, set, refl, sym, ap, subst, ext_get_or, ◌∙◌, ⊎_elim, arith}
use Rattle.std.proofs.lemmas.Bool.{cases_eq, eq-eqb}
use Rattle.std.proofs.lemmas.List.{length-set, get_or-set_same, get_or-set_other}
use Rattle.cb_gf256.specs.Sum.{sum_over}
use Rattle.cb_gf256.specs.Rows.{row_at, byte_at, HaveLength}
use Rattle.cb_gf256.specs.Block.{with_row}
use Rattle.cb_gf256.proofs.PublicLaws.{sum_over_same, written_row}
use Rattle.cb_scrub.specs.Wrong.{HaveParities, IsWordBut, IsOneWrong}
use Rattle.cb_scrub.specs.Mended.{sum_of_others, row_of_others, mended}
use Rattle.cb_scrub.proofs.Differing.{length-mended, length-others, get_or-others, mended_row, other_row}
use Rattle.cb_scrub.proofs.Words.{word_fits, mended_is_word, one_word}

-- the bytes of row p below a column are the sums of all others; the other rows are as they were
pub record Mending (len p column : ℕ) (before now : List (List ℕ)) : Type 0 where
  pub count : length now ≡ length before
  pub lengths : HaveLength len now
  pub others : (i : ℕ) → i ≢ p → row_at now i ≡ row_at before i
  pub done : (x : ℕ) → x < column → byte_at now p x ≡ sum_of_others before p x

pub mending_none : (len p : ℕ) (rows : List (List ℕ)) → HaveLength len rows → Mending len p 0 rows rows
mending_none len p rows h = record { count = refl; lengths = h; others = λ i apart. refl; done = λ x l. absurd (omega arith) }

-- the sum of the others is the same while row p alone changes
same_sum : (p column : ℕ) (before now : List (List ℕ)) → length now ≡ length before → ((i : ℕ) → i ≢ p → row_at now i ≡ row_at before i) → sum_of_others now p column ≡ sum_of_others before p column
same_sum p column before now count others =
    ap (λ n. sum_over n (λ i. cond (eqb i p) 0 (byte_at now i column))) count
    ∙ sum_over_same (length before) (λ i. cond (eqb i p) 0 (byte_at now i column)) (λ i. cond (eqb i p) 0 (byte_at before i column))
    (λ i l.
    ⊎_elim
    (λ same. let yes_same = eq-eqb i p same in ap (λ b. cond b 0 (byte_at now i column)) yes_same ∙ sym (ap (λ b. cond b 0 (byte_at before i column)) yes_same))
    (λ apart. ap (λ row. cond (eqb i p) 0 (get_or row column 0)) (others i apart))
    (cases_eq i p))

pub mending_more : (len p column sum : ℕ) (before now : List (List ℕ)) → p < length before → column < len → Mending len p column before now → sum ≡ sum_of_others now p column
    → Mending len p (column + 1) before (with_row now p (set (row_at now p) column sum))
mending_more len p column sum before now inside within m e =
    let row = set (row_at now p) column sum in
    let here : p < length now = let count = m.count in omega arith in
    let old_len : length (row_at now p) ≡ len = m.lengths p [] here in
    let long : length row ≡ len = length-set (row_at now p) column sum ∙ old_len in
    let sized : HaveLength (length row) now = λ i d l. m.lengths i d l ∙ sym long in
    let write : set now p row ≡ with_row now p row = sym (written_row now p row sized here) in
    subst (Mending len p (column + 1) before) write
    (record {
      count = length-set now p row ∙ m.count;
      lengths = λ i d l.
          let inside_now : i < length now = let size = length-set now p row in omega arith in
          ⊎_elim
          (λ same. ap (λ y. length (get_or (set now p row) y d)) same ∙ ap length (get_or-set_same now p row d here) ∙ long)
          (λ apart. ap length (get_or-set_other now p i row d apart) ∙ m.lengths i d inside_now)
          (cases_eq i p);
      others = λ i apart. get_or-set_other now p i row [] apart ∙ m.others i apart;
      done = λ x l.
          ap (λ y. get_or y x 0) (get_or-set_same now p row [] here)
          ∙ ⊎_elim
          (λ same.
          ap (λ y. get_or row y 0) same ∙ get_or-set_same (row_at now p) column sum 0 (omega arith) ∙ e ∙ same_sum p column before now m.count m.others
          ∙ ap (sum_of_others before p) (sym same))
          (λ apart. get_or-set_other (row_at now p) column x sum 0 apart ∙ m.done x (omega arith))
          (cases_eq x column);
    })

pub mending_done : (len p : ℕ) (before now : List (List ℕ)) → p < length before → len ≡ length (row_at before 0) → Mending len p len before now → now ≡ mended before p
mending_done len p before now inside size m =
    ext_get_or [] now (mended before p) (m.count ∙ sym (length-mended before p)) (λ i l.
    ⊎_elim
    (λ same.
    let here : p < length now = let count = m.count in omega arith in
    ap (λ y. row_at now y) same
    ∙ ext_get_or 0 (row_at now p) (row_of_others before p) (m.lengths p [] here ∙ size ∙ sym (length-others before p)) (λ x k.
    let within : x < len = let long = m.lengths p [] here in omega arith in
    m.done x within ∙ sym (get_or-others before p x (omega arith)))
    ∙ sym (mended_row before p inside)
    ∙ ap (λ y. row_at (mended before p) y) (sym same))
    (λ apart. m.others i apart ∙ sym (other_row before p i apart))
    (cases_eq i p))

pub mended_word : (r p : ℕ) (before now : List (List ℕ)) → now ≡ mended before p → HaveParities r before → IsOneWrong r before p → IsWordBut r before p now
mended_word r p before now e h one =
    subst (IsWordBut r before p) (sym e)
    (mended_is_word r p before h one.agreeing.1.inside (λ x from to j least below. word_fits r p before one.agreeing.0 h one.agreeing.1 j x below to))

pub mended_only : (r p q : ℕ) (before now word : List (List ℕ)) → now ≡ mended before p → HaveParities r before → IsOneWrong r before p → IsWordBut r before q word → word ≡ now
mended_only r p q before now word e h one w = one_word r q p before word now h one.parities w (mended_word r p before now e h one)
