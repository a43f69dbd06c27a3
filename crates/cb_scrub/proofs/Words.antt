-- The code words that differ from the rows in one row, and the syndromes that fit one.
use Rattle.std.proofs.Common.{◌≡◌, ◌≢◌, ℕ, zero, suc, ◌*◌, ◌<◌, ◌≤◌, List, [], length, get_or, refl, sym, ap, subst, ◌∙◌, ⊎_elim, arith}
use Rattle.std.proofs.Math.Nat.{mul-one}
use Rattle.std.proofs.lemmas.Bool.{cases_eq}
use Rattle.std.proofs.lemmas.List.{get_or_default}
use Rattle.cb_gf256.specs.Sum.{◌⊕◌}
use Rattle.cb_gf256.specs.Product.{◌⊗◌}
use Rattle.cb_gf256.specs.Power.{power}
use Rattle.cb_gf256.specs.Rows.{row_at, byte_at}
use Rattle.cb_gf256.specs.CodeWord.{syndrome}
use Rattle.cb_gf256.proofs.PublicLaws.{sum_commutes, sum_with_zero, sum_is_byte, product_commutes, product_with_zero, factor_cancels, power_is_byte, powers_of_two_differ, same_rows, HoldBytes-from_byte_at}
use Rattle.cb_scrub.specs.Wrong.{HaveParities, IsWord, IsWordBut, IsOneWrong}
use Rattle.cb_scrub.specs.Fitting.{FitsColumns}
use Rattle.cb_scrub.specs.Mended.{sum_of_others, mended}
use Rattle.cb_scrub.proofs.Differing.{byte_lt, syndrome_lt, differ_at, times_first, nothing_added, other_of_sum, others_and_row, others_lt, length-mended, other_row, mended_byte, mended_lengths}

-- ---- what a word that agrees with all rows but one says of the syndromes
word_count : (r p : ℕ) (rows word : List (List ℕ)) → HaveParities r rows → IsWordBut r rows p word → length word ≡ length rows
word_count r p rows word h w = let count = w.code_word.count in let more = h.more in omega arith

other_place : (p : ℕ) → (q : ℕ) × (q < 2) × (q ≢ p)
other_place zero = (1, omega arith, λ e. omega arith)
other_place (suc p) = (0, omega arith, λ e. omega arith)

word_len : (r p : ℕ) (rows word : List (List ℕ)) → HaveParities r rows → IsWordBut r rows p word → length (row_at word 0) ≡ length (row_at rows 0)
word_len r p rows word h w =
    let q = other_place p in
    let some = h.some in
    let more = h.more in
    let in_rows : q.0 < length rows = omega (arith, q.1) in
    let in_word : q.0 < length word = omega (arith, word_count r p rows word h w) in
    sym (w.code_word.equal_lengths q.0 [] in_word) ∙ ap length (w.agrees q.0 in_rows q.2) ∙ h.are_rows.equal_lengths q.0 [] in_rows

-- the row that differs, by the syndrome of power 0
pub row_differs : (r p column : ℕ) (rows word : List (List ℕ)) → HaveParities r rows → IsWordBut r rows p word → column < length (row_at rows 0) → (j : ℕ) → j < r
    → syndrome j rows column ≡ power 2 (p * j) ⊗ (byte_at rows p column ⊕ byte_at word p column)
row_differs r p column rows word h w within j below =
    let zeroes : syndrome j word column ≡ 0 = w.code_word.syndromes_zero j column below (omega (arith, word_len r p rows word h w)) in
    sym (sum_with_zero (syndrome j rows column)) ∙ ap (λ x. syndrome j rows column ⊕ x) (sym zeroes)
    ∙ differ_at j p (length rows) column rows word refl (word_count r p rows word h w) w.inside (λ i l apart. ap (λ row. get_or row column 0) (sym (w.agrees i l apart)))

word_byte : (r p column : ℕ) (rows word : List (List ℕ)) → HaveParities r rows → IsWordBut r rows p word → column < length (row_at rows 0) → byte_at word p column < 256
word_byte r p column rows word h w within =
    let inside = w.inside in
    let here : p < length word = omega (arith, word_count r p rows word h w) in
    w.bytes p [] here column 0 (omega (arith, w.code_word.equal_lengths p [] here, word_len r p rows word h w))

pub sum_is_difference : (r p column : ℕ) (rows word : List (List ℕ)) → HaveParities r rows → IsWordBut r rows p word → column < length (row_at rows 0)
    → byte_at rows p column ⊕ byte_at word p column ≡ syndrome 0 rows column
sum_is_difference r p column rows word h w within =
    let d = byte_at rows p column ⊕ byte_at word p column in
    let some = h.some in
    sym (row_differs r p column rows word h w within 0 (omega arith)
    ∙ times_first p d (sum_is_byte (byte_at rows p column) (byte_at word p column) (byte_lt rows h.are_rows p column w.inside within) (word_byte r p column rows word h w within)))

-- the syndromes fit the position
pub word_fits : (r p : ℕ) (rows word : List (List ℕ)) → HaveParities r rows → IsWordBut r rows p word → (j column : ℕ) → j < r → column < length (row_at rows 0)
    → syndrome j rows column ≡ power 2 (p * j) ⊗ syndrome 0 rows column
word_fits r p rows word h w j column below within =
    row_differs r p column rows word h w within j below ∙ ap (λ x. power 2 (p * j) ⊗ x) (sum_is_difference r p column rows word h w within)

-- ---- rows whose syndromes fit a position are a word once they are mended
mended_sum : (r p column : ℕ) (rows : List (List ℕ)) → HaveParities r rows → p < length rows → column < length (row_at rows 0) → byte_at rows p column ⊕ byte_at (mended rows p) p column ≡ syndrome 0 rows column
mended_sum r p column rows h inside within =
    ap (λ x. byte_at rows p column ⊕ x) (mended_byte rows p column inside within) ∙ sum_commutes (byte_at rows p column) (sum_of_others rows p column)
    ∙ others_and_row rows p column h.are_rows inside within

fits_each : (r p column : ℕ) (rows : List (List ℕ)) → HaveParities r rows → FitsColumns r rows p 0 (length (row_at rows 0)) → column < length (row_at rows 0) → (j : ℕ) → j < r → syndrome j rows column ≡ power 2 (p * j) ⊗ syndrome 0 rows column
fits_each r p column rows h fits within zero below = sym (times_first p (syndrome 0 rows column) (syndrome_lt 0 column rows h.are_rows within))
fits_each r p column rows h fits within (suc j) below = fits column (omega arith) within (suc j) (omega arith) below

pub mended_is_word : (r p : ℕ) (rows : List (List ℕ)) → HaveParities r rows → p < length rows → FitsColumns r rows p 0 (length (row_at rows 0)) → IsWordBut r rows p (mended rows p)
mended_is_word r p rows h inside fits =
    let now = mended rows p in
    let more = h.more in
    let count : length now ≡ length rows = length-mended rows p in
    let lengths : (i : ℕ) → i < length rows → length (row_at now i) ≡ length (row_at rows 0) = mended_lengths rows p h.are_rows inside in
    let first : length (row_at now 0) ≡ length (row_at rows 0) = lengths 0 (omega arith) in
    let each : (i : ℕ) (d : List ℕ) → i < length now → length (get_or now i d) ≡ length (row_at now 0) =
    λ i d l. ap length (get_or_default now i d [] l) ∙ lengths i (omega arith) ∙ sym first in
    record {
      inside = inside;
      code_word = record {
        count = omega arith;
        equal_lengths = each;
        syndromes_zero = λ j column below within.
            let here : column < length (row_at rows 0) = omega arith in
            nothing_added (syndrome j rows column) (syndrome j now column)
            (differ_at j p (length rows) column rows now refl count inside (λ i l apart. ap (λ row. get_or row column 0) (sym (other_row rows p i apart)))
            ∙ ap (λ x. power 2 (p * j) ⊗ x) (mended_sum r p column rows h inside here)
            ∙ sym (fits_each r p column rows h fits here j below));
      };
      bytes = HoldBytes-from_byte_at now (λ i column l m.
          let in_rows : i < length rows = omega arith in
          let here : column < length (row_at rows 0) = omega (arith, lengths i in_rows) in
          ⊎_elim
          (λ same. subst (λ x. byte_at now x column < 256) (sym same) (omega (arith, mended_byte rows p column inside here, others_lt rows p column h.are_rows here)))
          (λ apart. omega (arith, ap (λ row. get_or row column 0) (other_row rows p i apart), byte_lt rows h.are_rows i column in_rows here))
          (cases_eq i p));
      agrees = λ i l apart. other_row rows p i apart;
    }

-- ---- with two parities there is one such word
-- two positions that fit a column have one syndrome alike: 0, where they differ
pub apart_is_zero : (p q s t : ℕ) → p < 255 → q < 255 → s < 256 → p ≢ q → t ≡ power 2 p ⊗ s → t ≡ power 2 q ⊗ s → s ≡ 0
apart_is_zero p q s t hp hq small apart a b =
    ⊎_elim
    (λ e. e)
    (λ some.
    absurd (apart (powers_of_two_differ p q hp hq
    (factor_cancels s (power 2 p) (power 2 q) (omega arith) small (power_is_byte 2 p (omega arith)) (power_is_byte 2 q (omega arith))
    (product_commutes s (power 2 p) small (power_is_byte 2 p (omega arith)) ∙ sym a ∙ b ∙ product_commutes (power 2 q) s (power_is_byte 2 q (omega arith)) small)))))
    (cases_eq s 0)

pub at_one : (p x : ℕ) → power 2 (p * 1) ⊗ x ≡ power 2 p ⊗ x
at_one p x = ap (λ m. power 2 m ⊗ x) (mul-one p)

pub sums_are_zero : (r p q : ℕ) (rows a b : List (List ℕ)) → HaveParities r rows → 2 ≤ r → IsWordBut r rows p a → IsWordBut r rows q b → p ≢ q → (column : ℕ) → column < length (row_at rows 0) → syndrome 0 rows column ≡ 0
sums_are_zero r p q rows a b h two wa wb apart column within =
    let few = h.few in
    let pa = wa.inside in
    let pb = wb.inside in
    apart_is_zero p q (syndrome 0 rows column) (syndrome 1 rows column) (omega arith) (omega arith) (syndrome_lt 0 column rows h.are_rows within) apart
    (word_fits r p rows a h wa 1 column (omega arith) within ∙ at_one p (syndrome 0 rows column))
    (word_fits r q rows b h wb 1 column (omega arith) within ∙ at_one q (syndrome 0 rows column))

-- two such words at different positions: then the rows are a word
pub then_word : (r p q : ℕ) (rows a b : List (List ℕ)) → HaveParities r rows → 2 ≤ r → IsWordBut r rows p a → IsWordBut r rows q b → p ≢ q → IsWord r rows
then_word r p q rows a b h two wa wb apart =
    let more = h.more in
    record {
      count = omega arith;
      equal_lengths = h.are_rows.equal_lengths;
      syndromes_zero = λ j column below within.
          word_fits r p rows a h wa j column below within ∙ ap (λ x. power 2 (p * j) ⊗ x) (sums_are_zero r p q rows a b h two wa wb apart column within) ∙ product_with_zero (power 2 (p * j));
    }

pub one_position : (r p q : ℕ) (rows : List (List ℕ)) → HaveParities r rows → IsOneWrong r rows p → IsOneWrong r rows q → p ≡ q
one_position r p q rows h a b =
    ⊎_elim (λ e. e) (λ apart. absurd (a.wrong (then_word r p q rows a.agreeing.0 b.agreeing.0 h a.parities a.agreeing.1 b.agreeing.1 apart))) (cases_eq p q)

-- the byte of such a word
byte_of_word : (r p : ℕ) (rows word : List (List ℕ)) → HaveParities r rows → IsWordBut r rows p word → (i column : ℕ) → i < length rows → column < length (row_at rows 0)
    → (i ≢ p → byte_at word i column ≡ byte_at rows i column) × (i ≡ p → byte_at word i column ≡ byte_at rows i column ⊕ syndrome 0 rows column)
byte_of_word r p rows word h w i column l within = (
  λ apart. ap (λ row. get_or row column 0) (w.agrees i l apart),
  λ same. ap (λ m. byte_at word m column) same ∙ other_of_sum (byte_at rows p column) (byte_at word p column) (syndrome 0 rows column) (sum_is_difference r p column rows word h w within)
      ∙ ap (λ m. byte_at rows m column ⊕ syndrome 0 rows column) (sym same),
)

byte_by_zero : (r p : ℕ) (rows word : List (List ℕ)) → HaveParities r rows → IsWordBut r rows p word → (i column : ℕ) → i < length rows → column < length (row_at rows 0) → syndrome 0 rows column ≡ 0 → byte_at word i column ≡ byte_at rows i column
byte_by_zero r p rows word h w i column l within e =
    let bytes = byte_of_word r p rows word h w i column l within in
    ⊎_elim (λ same. bytes.1 same ∙ ap (λ x. byte_at rows i column ⊕ x) e ∙ sum_with_zero (byte_at rows i column)) (λ apart. bytes.0 apart) (cases_eq i p)

pub one_word : (r p q : ℕ) (rows a b : List (List ℕ)) → HaveParities r rows → 2 ≤ r → IsWordBut r rows p a → IsWordBut r rows q b → a ≡ b
one_word r p q rows a b h two wa wb =
    let len = length (row_at rows 0) in
    let ca : length a ≡ length rows = word_count r p rows a h wa in
    let cb : length b ≡ length rows = word_count r q rows b h wb in
    same_rows len a b (ca ∙ sym cb)
    (λ i d l. wa.code_word.equal_lengths i d l ∙ word_len r p rows a h wa)
    (λ i d l. wb.code_word.equal_lengths i d l ∙ word_len r q rows b h wb)
    (λ i column l within.
    let here : i < length rows = omega arith in
    ⊎_elim
    (λ same.
    let wq : IsWordBut r rows p b = subst (λ x. IsWordBut r rows x b) (sym same) wb in
    let of_a = byte_of_word r p rows a h wa i column here within in
    let of_b = byte_of_word r p rows b h wq i column here within in
    ⊎_elim (λ e. of_a.1 e ∙ sym (of_b.1 e)) (λ n. of_a.0 n ∙ sym (of_b.0 n)) (cases_eq i p))
    (λ apart.
    let e = sums_are_zero r p q rows a b h two wa wb apart column within in
    byte_by_zero r p rows a h wa i column here within e ∙ sym (byte_by_zero r q rows b h wb i column here within e))
    (cases_eq p q))
