-- What the first wrong column tells.
use Rattle.std.proofs.Common.{◌≡◌, ℕ, ◌+◌, ◌-◌, ◌*◌, ◌/◌, ◌<◌, ◌≤◌, Bool, true, false, List, Option, None, Some, IfNone, IfSome, length, sym, ap, subst, ◌∙◌, ⊎_elim, arith}
use Rattle.std.proofs.lemmas.Bool.{cases_eq, cases_lt}
use Rattle.cb_gf256.specs.Product.{◌⊗◌}
use Rattle.cb_gf256.specs.Power.{power}
use Rattle.cb_gf256.specs.Rows.{row_at}
use Rattle.cb_gf256.specs.CodeWord.{syndrome}
use Rattle.cb_gf256.proofs.PublicLaws.{product_commutes, product_associates, product_with_one, product_with_zero, product_is_nonzero, power_is_byte, power_of_nonzero}
use Rattle.cb_scrub.specs.Wrong.{HaveParities, IsOneWrong, AreZero, IsFirstWrong}
use Rattle.cb_scrub.specs.Fitting.{FitsColumns}
use Rattle.cb_scrub.specs.Mended.{mended}
use Rattle.cb_scrub.proofs.Differing.{syndrome_lt}
use Rattle.cb_scrub.proofs.Words.{word_fits, mended_is_word, apart_is_zero, at_one}

pub not_both : (b : Bool) → b ≡ true → b ≡ false → ⊥
not_both b x y = let e : true ≡ false = sym x ∙ y in cc

-- ---- the first wrong column, after columns of zeros
joined : (r at len : ℕ) (rows : List (List ℕ)) → AreZero r rows 0 at → AreZero r rows at len → AreZero r rows 0 len
joined r at len rows a b j column below from to = ⊎_elim (λ l. a j column below from l) (λ l. b j column below l to) (cases_lt column at)

pub zero_more : (r from at : ℕ) (rows : List (List ℕ)) → AreZero r rows from at → ((j : ℕ) → j < r → syndrome j rows at ≡ 0) → AreZero r rows from (at + 1)
zero_more r from at rows h here j x below l m =
    ⊎_elim (λ before. h j x below l before) (λ after. let same : at ≡ x = omega arith in subst (λ column. syndrome j rows column ≡ 0) same (here j below)) (cases_lt x at)

pub zero_block : (r block : ℕ) (rows : List (List ℕ)) → AreZero r rows 0 (block * 64) → ((j l : ℕ) → j < r → l < 64 → syndrome j rows (block * 64 + l) ≡ 0) → AreZero r rows 0 ((block + 1) * 64)
zero_block r block rows h here j x below l m =
    ⊎_elim
    (λ before. h j x below l before)
    (λ after.
    let place : block * 64 + (x - block * 64) ≡ x = omega arith in
    subst (λ column. syndrome j rows column ≡ 0) place (here j (x - block * 64) below (omega arith)))
    (cases_lt x (block * 64))

pub later_wrong : (r at len : ℕ) (rows : List (List ℕ)) (o : Option ℕ) → AreZero r rows 0 at → IfSome o (λ column. IsFirstWrong r rows at column len) → IfSome o (λ column. IsFirstWrong r rows 0 column len)
later_wrong r at len rows None z h = h
later_wrong r at len rows (Some column) z h = record { least = omega arith; inside = h.inside; before = joined r at column rows z h.before; wrong = h.wrong }

pub later_zero : (r at len : ℕ) (rows : List (List ℕ)) (o : Option ℕ) → AreZero r rows 0 at → IfNone o (AreZero r rows at len) → IfNone o (AreZero r rows 0 len)
later_zero r at len rows None z h = joined r at len rows z h
later_zero r at len rows (Some column) z h = h

-- ---- the quotient of two syndromes
pub told : (sum next inverse product p : ℕ) → sum < 256 → next < 256 → inverse < 256 → sum ⊗ inverse ≡ 1 → product ≡ next ⊗ inverse → power 2 p ≡ product → next ≡ power 2 p ⊗ sum
told sum next inverse product p a b c one e f =
    sym (ap (λ x. x ⊗ sum) (f ∙ e) ∙ product_associates next inverse sum b c a
    ∙ ap (λ x. next ⊗ x) (product_commutes inverse sum c a ∙ one) ∙ product_with_one next b)

pub quotient_is_some : (sum next inverse : ℕ) → 0 < next → next < 256 → inverse < 256 → sum ⊗ inverse ≡ 1 → 0 < next ⊗ inverse
quotient_is_some sum next inverse some small byte one =
    ⊎_elim
    (λ zero. let nothing : sum ⊗ inverse ≡ 0 = ap (λ x. sum ⊗ x) zero ∙ product_with_zero sum in absurd (omega arith))
    (λ other. product_is_nonzero next inverse some small (omega arith) byte)
    (cases_eq inverse 0)

-- a syndrome of 0 tells of a sum of 0
pub told_zero : (sum next p : ℕ) → sum < 256 → next ≡ 0 → next ≡ power 2 p ⊗ sum → sum ≡ 0
told_zero sum next p small zero e =
    ⊎_elim (λ z. z)
    (λ some.
    let positive : 0 < power 2 p ⊗ sum = product_is_nonzero (power 2 p) sum (power_of_nonzero 2 p (omega arith) (omega arith)) (power_is_byte 2 p (omega arith)) (omega arith) small in
    absurd (omega arith))
    (cases_eq sum 0)

-- a position that is told and no position is another one, or the sum is 0
pub told_past : (sum next p q : ℕ) → sum < 256 → p < 255 → q < 255 → p < q → next ≡ power 2 p ⊗ sum → next ≡ power 2 q ⊗ sum → sum ≡ 0
told_past sum next p q small hp hq below a b = apart_is_zero p q sum next hp hq small (λ e. omega arith) a b

-- ---- the position
sum_is_some : (r p column len : ℕ) (rows : List (List ℕ)) → HaveParities r rows → len ≡ length (row_at rows 0) → IsFirstWrong r rows 0 column len → IsOneWrong r rows p → syndrome 0 rows column ≡ 0 → ⊥
sum_is_some r p column len rows h size first one zero =
    first.wrong (λ j below.
    word_fits r p rows one.agreeing.0 h one.agreeing.1 j column below (let inside = first.inside in omega arith)
    ∙ ap (λ x. power 2 (p * j) ⊗ x) zero ∙ product_with_zero (power 2 (p * j)))

-- where no position is told, no one row is wrong
pub none_told : (r column len sum next : ℕ) (rows : List (List ℕ)) → HaveParities r rows → len ≡ length (row_at rows 0) → IsFirstWrong r rows 0 column len → sum ≡ syndrome 0 rows column → next ≡ syndrome 1 rows column
    → ((p : ℕ) → p < length rows → next ≡ power 2 p ⊗ sum → sum ≡ 0) → (p : ℕ) → ¬ (IsOneWrong r rows p)
none_told r column len sum next rows h size first s t none p one =
    let two = one.parities in
    let inside = first.inside in
    sum_is_some r p column len rows h size first one
    (sym s ∙ none p one.agreeing.1.inside (t ∙ word_fits r p rows one.agreeing.0 h one.agreeing.1 1 column (omega arith) (omega arith) ∙ at_one p (syndrome 0 rows column) ∙ ap (λ x. power 2 p ⊗ x) (sym s)))

fits_all : (r p column len : ℕ) (rows : List (List ℕ)) → HaveParities r rows → IsFirstWrong r rows 0 column len → FitsColumns r rows p (column / 64 * 64) len → FitsColumns r rows p 0 len
fits_all r p column len rows h first fits x from to j some below =
    let one = h.some in
    ⊎_elim
    (λ l.
    first.before j x below from l
    ∙ sym (ap (λ y. power 2 (p * j) ⊗ y) (first.before 0 x (omega arith) from l) ∙ product_with_zero (power 2 (p * j))))
    (λ l. fits x (omega arith) to j some below)
    (cases_lt x column)

-- where the syndromes fit the position, the row there is wrong alone
pub one_wrong : (r p column len : ℕ) (rows : List (List ℕ)) → HaveParities r rows → len ≡ length (row_at rows 0) → 2 ≤ r → p < length rows → IsFirstWrong r rows 0 column len
    → FitsColumns r rows p (column / 64 * 64) len → IsOneWrong r rows p
one_wrong r p column len rows h size two inside first fits = record {
  parities = two;
  wrong = λ word. first.wrong (λ j below. word.syndromes_zero j column below (let within = first.inside in omega arith));
  agreeing = (mended rows p, mended_is_word r p rows h inside (subst (FitsColumns r rows p 0) size (fits_all r p column len rows h first fits)));
}

-- where they do not fit it, no one row is wrong
pub none_fits : (r p column len sum next : ℕ) (rows : List (List ℕ)) → HaveParities r rows → len ≡ length (row_at rows 0) → IsFirstWrong r rows 0 column len → sum ≡ syndrome 0 rows column → next ≡ syndrome 1 rows column
    → p < length rows → 0 < sum → next ≡ power 2 p ⊗ sum → (FitsColumns r rows p (column / 64 * 64) len → ⊥) → (q : ℕ) → ¬ (IsOneWrong r rows q)
none_fits r p column len sum next rows h size first s t inside some e not q one =
    let two = one.parities in
    let few = h.few in
    let within = first.inside in
    let here : column < length (row_at rows 0) = omega arith in
    let word = one.agreeing.1 in
    let q_inside = word.inside in
    ⊎_elim
    (λ same.
    not (λ x from to j least below.
    subst (λ m. syndrome j rows x ≡ power 2 (m * j) ⊗ syndrome 0 rows x) (sym same)
    (word_fits r q rows one.agreeing.0 h word j x below (omega arith))))
    (λ apart.
    let zero : syndrome 0 rows column ≡ 0 =
    apart_is_zero p q (syndrome 0 rows column) (syndrome 1 rows column) (omega arith) (omega arith) (syndrome_lt 0 column rows h.are_rows here) apart
    (sym t ∙ e ∙ ap (λ x. power 2 p ⊗ x) s)
    (word_fits r q rows one.agreeing.0 h word 1 column (omega arith) here ∙ at_one q (syndrome 0 rows column)) in
    absurd (omega arith))
    (cases_eq p q)
