-- Two data rows and two parities of one byte, by hand: 01, 00, C8, C9 are a code word; with 05 in place of 00 the syndromes are 05 and 2 * 05; with C8 for C9 too they are 04 and 02.
use Rattle.std.proofs.Common.{◌≡◌, ◌≢◌, ℕ, zero, suc, ◌*◌, ◌<◌, List, [], ◌∷◌, get_or, length, All, refl, sym, ap, ◌∙◌, arith}
use Rattle.cb_gf256.specs.Product.{◌⊗◌}
use Rattle.cb_gf256.specs.Power.{power}
use Rattle.cb_gf256.specs.Rows.{row_at, HaveLength, HoldBytes}
use Rattle.cb_gf256.specs.CodeWord.{syndrome}
use Rattle.cb_scrub.specs.declared.found.Found.TheVariants.{Clean, One, Many}
use Rattle.cb_scrub.specs.Wrong.{HaveParities, IsWord, IsWordBut, IsOneWrong, AreZero, IsFirstWrong}
use Rattle.cb_scrub.specs.Fitting.{FitsAt}
use Rattle.cb_scrub.specs.Mended.{mended}
use Rattle.cb_scrub.specs.Finds.{IsFinding, IsFirstSum, IsMended}
use Rattle.cb_scrub.proofs.Words.{word_fits}

abbrev pub four : (a b c d : ℕ) → List (List ℕ)
four a b c d = (a ∷ []) ∷ (b ∷ []) ∷ (c ∷ []) ∷ (d ∷ []) ∷ []

abbrev pub word : List (List ℕ)
word = four 0x01 0x00 0xC8 0xC9

abbrev pub one : List (List ℕ)
one = four 0x01 0x05 0xC8 0xC9

abbrev pub many : List (List ℕ)
many = four 0x01 0x05 0xC8 0xC8

pub lengths : (a b c d : ℕ) → HaveLength 1 (four a b c d)
lengths a b c d zero e l = refl
lengths a b c d (suc zero) e l = refl
lengths a b c d (suc (suc zero)) e l = refl
lengths a b c d (suc (suc (suc zero))) e l = refl
lengths a b c d (suc (suc (suc (suc i)))) e l = absurd (omega arith)

one_byte : (a : ℕ) → a < 256 → All (λ x. x < 256) (a ∷ [])
one_byte a h zero e l = h
one_byte a h (suc i) e l = absurd (omega arith)

pub bytes : (a b c d : ℕ) → a < 256 → b < 256 → c < 256 → d < 256 → HoldBytes (four a b c d)
bytes a b c d p q r s zero e l = one_byte a p
bytes a b c d p q r s (suc zero) e l = one_byte b q
bytes a b c d p q r s (suc (suc zero)) e l = one_byte c r
bytes a b c d p q r s (suc (suc (suc zero))) e l = one_byte d s
bytes a b c d p q r s (suc (suc (suc (suc i)))) e l = absurd (omega arith)

pub parities : (a b c d : ℕ) → a < 256 → b < 256 → c < 256 → d < 256 → HaveParities 2 (four a b c d)
parities a b c d p q r s = record {
  are_rows = record { equal_lengths = lengths a b c d; bytes = bytes a b c d p q r s };
  some = omega arith;
  most = omega arith;
  more = omega arith;
  few = omega arith;
}

pub without_parities : HaveParities 0 word → ⊥
without_parities h = absurd (omega (arith, h.some))

pub with_five_parities : (rows : List (List ℕ)) → HaveParities 5 rows → ⊥
with_five_parities rows h = absurd (omega (arith, h.most))

pub without_data : HaveParities 4 word → ⊥
without_data h = absurd (omega (arith, h.more))

pub with_twenty_one : (rows : List (List ℕ)) → length rows ≡ 21 → HaveParities 1 rows → ⊥
with_twenty_one rows e h = absurd (omega (arith, e, h.few))

pub of_two_lengths : HaveParities 1 ([] ∷ (0x01 ∷ []) ∷ []) → ⊥
of_two_lengths h = absurd (omega (arith, h.are_rows.equal_lengths 1 [] (omega arith)))

-- ---- the syndromes
of_word : (syndrome 0 word 0 ≡ 0) × (syndrome 1 word 0 ≡ 0)
unfolding ◌⊗◌ power
of_word = (refl, refl)

of_one : (syndrome 0 one 0 ≡ 0x05) × (syndrome 1 one 0 ≡ 0x0A)
unfolding ◌⊗◌ power
of_one = (refl, refl)

of_many : (syndrome 0 many 0 ≡ 0x04) × (syndrome 1 many 0 ≡ 0x02)
unfolding ◌⊗◌ power
of_many = (refl, refl)

zeros : (j column : ℕ) → j < 2 → column < 1 → syndrome j word column ≡ 0
zeros zero zero p q = of_word.0
zeros (suc zero) zero p q = of_word.1
zeros (suc (suc j)) zero p q = absurd (omega arith)
zeros j (suc column) p q = absurd (omega arith)

pub is_word : IsWord 2 word
is_word = record { count = refl; equal_lengths = lengths 0x01 0x00 0xC8 0xC9; syndromes_zero = zeros }

pub no_word : IsWord 2 one → ⊥
no_word h = absurd (omega (arith, h.syndromes_zero 0 0 (omega arith) (omega arith), of_one.0))

many_no_word : IsWord 2 many → ⊥
many_no_word h = absurd (omega (arith, h.syndromes_zero 0 0 (omega arith) (omega arith), of_many.0))

-- ---- a word but for one row
other_rows : (i : ℕ) → i < 4 → i ≢ 1 → row_at word i ≡ row_at one i
other_rows zero l n = refl
other_rows (suc zero) l n = absurd (n refl)
other_rows (suc (suc zero)) l n = refl
other_rows (suc (suc (suc zero))) l n = refl
other_rows (suc (suc (suc (suc i)))) l n = absurd (omega arith)

pub word_but : IsWordBut 2 one 1 word
word_but = record {
  inside = omega arith;
  code_word = is_word;
  bytes = bytes 0x01 0x00 0xC8 0xC9 (omega arith) (omega arith) (omega arith) (omega arith);
  agrees = other_rows;
}

pub but_for_no_row : IsWordBut 2 word 4 word → ⊥
but_for_no_row h = absurd (omega (arith, h.inside))

pub but_no_word : IsWordBut 2 one 1 one → ⊥
but_no_word h = no_word h.code_word

pub but_no_bytes : IsWordBut 2 one 1 (four 0x01 0x100 0xC8 0xC9) → ⊥
but_no_bytes h = absurd (omega (arith, h.bytes 1 [] (omega arith) 0 0 (omega arith)))

pub but_another_row : IsWordBut 2 one 0 word → ⊥
but_another_row h = absurd (omega (arith, ap (λ row. get_or row 0 0) (h.agrees 1 (omega arith) (omega arith))))

-- ---- one wrong row
pub one_is_wrong : IsOneWrong 2 one 1
one_is_wrong = record { parities = omega arith; wrong = no_word; agreeing = (word, word_but) }

pub one_of_one_parity : (rows : List (List ℕ)) (p : ℕ) → IsOneWrong 1 rows p → ⊥
one_of_one_parity rows p h = absurd (omega (arith, h.parities))

pub none_of_a_word : (p : ℕ) → IsOneWrong 2 word p → ⊥
none_of_a_word p h = h.wrong is_word

-- no power of 2 below 2^4 takes 04 to 02
no_power : (p : ℕ) → p < 4 → power 2 (p * 1) ⊗ 0x04 ≢ 0x02
unfolding ◌⊗◌ power
no_power zero l e = absurd (omega arith)
no_power (suc zero) l e = absurd (omega arith)
no_power (suc (suc zero)) l e = absurd (omega arith)
no_power (suc (suc (suc zero))) l e = absurd (omega arith)
no_power (suc (suc (suc (suc p)))) l e = absurd (omega arith)

pub none_of_many : (p : ℕ) → IsOneWrong 2 many p → ⊥
none_of_many p h =
    no_power p h.agreeing.1.inside
    (ap (λ x. power 2 (p * 1) ⊗ x) (sym of_many.0)
    ∙ sym (word_fits 2 p many h.agreeing.0 (parities 0x01 0x05 0xC8 0xC8 (omega arith) (omega arith) (omega arith) (omega arith)) h.agreeing.1 1 0 (omega arith) (omega arith))
    ∙ of_many.1)

-- ---- the first wrong column
no_column : (r : ℕ) (rows : List (List ℕ)) → AreZero r rows 0 0
no_column r rows j column below from to = absurd (omega arith)

pub first_wrong : IsFirstWrong 2 one 0 0 1
first_wrong = record {
  least = omega arith;
  inside = omega arith;
  before = no_column 2 one;
  wrong = λ h. absurd (omega (arith, h 0 (omega arith), of_one.0));
}

pub wrong_before : IsFirstWrong 2 one 1 0 1 → ⊥
wrong_before h = absurd (omega (arith, h.least))

pub wrong_behind : IsFirstWrong 2 one 0 1 1 → ⊥
wrong_behind h = absurd (omega (arith, h.inside))

pub wrong_second : IsFirstWrong 2 one 0 1 2 → ⊥
wrong_second h = absurd (omega (arith, h.before 0 0 (omega arith) (omega arith) (omega arith), of_one.0))

pub wrong_nowhere : IsFirstWrong 2 word 0 0 1 → ⊥
wrong_nowhere h = h.wrong (λ j l. zeros j 0 l (omega arith))

-- ---- syndromes that fit a position
fits_one : power 2 (1 * 1) ⊗ 0x05 ≡ 0x0A
unfolding ◌⊗◌ power
fits_one = refl

pub fit : FitsAt 2 one 1 0
fit zero least below = absurd (omega arith)
fit (suc zero) least below = of_one.1 ∙ sym fits_one ∙ ap (λ x. power 2 (1 * 1) ⊗ x) (sym of_one.0)
fit (suc (suc j)) least below = absurd (omega arith)

fits_two : power 2 (2 * 1) ⊗ 0x05 ≡ 0x14
unfolding ◌⊗◌ power
fits_two = refl

pub fit_no_other : FitsAt 2 one 2 0 → ⊥
fit_no_other h = absurd (omega (arith, sym of_one.1 ∙ h 1 (omega arith) (omega arith) ∙ ap (λ x. power 2 (2 * 1) ⊗ x) of_one.0 ∙ fits_two))

-- ---- the mended rows
pub mended_one : mended one 1 ≡ word
mended_one = refl

-- ---- the first syndrome that is not 0
pub first_sum : IsFirstSum 2 many 0 0 0x04
first_sum = record {
  below = omega arith;
  inside = omega arith;
  value = sym of_many.0;
  wrong = λ e. absurd (omega arith);
  columns = no_column 2 many;
  powers = λ j l. absurd (omega arith);
}

pub sum_of_no_power : (s : ℕ) → IsFirstSum 2 many 2 0 s → ⊥
sum_of_no_power s h = absurd (omega (arith, h.below))

pub sum_of_no_column : (s : ℕ) → IsFirstSum 2 many 0 1 s → ⊥
sum_of_no_column s h = absurd (omega (arith, h.inside))

pub another_sum : IsFirstSum 2 many 0 0 0x05 → ⊥
another_sum h = absurd (omega (arith, h.value, of_many.0))

pub no_sum : IsFirstSum 2 word 0 0 0 → ⊥
no_sum h = h.wrong refl

-- the same in two columns
abbrev twice : List (List ℕ)
twice = (0x01 ∷ 0x01 ∷ []) ∷ (0x05 ∷ 0x05 ∷ []) ∷ (0xC8 ∷ 0xC8 ∷ []) ∷ (0xC8 ∷ 0xC8 ∷ []) ∷ []

first_of_two : syndrome 0 twice 0 ≡ 0x04
unfolding ◌⊗◌ power
first_of_two = refl

pub second_column : IsFirstSum 2 twice 0 1 0x04 → ⊥
second_column h = absurd (omega (arith, h.columns 0 0 (omega arith) (omega arith) (omega arith), first_of_two))

pub second_power : IsFirstSum 2 many 1 0 0x02 → ⊥
second_power h = absurd (omega (arith, h.powers 0 (omega arith), of_many.0))

-- ---- what is found
pub found_clean : IsFinding 2 word Clean
found_clean = is_word

pub found_one : IsFinding 2 one (One 1)
found_one = one_is_wrong

pub found_many : IsFinding 2 many (Many 0 0 0x04)
found_many = (first_sum, none_of_many)

pub found_no_word : IsFinding 2 one Clean → ⊥
found_no_word = no_word

pub found_no_one : (p : ℕ) → IsFinding 2 many (One p) → ⊥
found_no_one = none_of_many

pub found_not_many : (j column s : ℕ) → IsFinding 2 one (Many j column s) → ⊥
found_not_many j column s h = h.1 1 one_is_wrong

pub near_clean : IsMended word 1 word Clean
near_clean = refl

pub near_one : IsMended one 1 word (One 1)
near_one = refl

pub near_another : IsMended one 1 word (One 2) → ⊥
near_another e = absurd (omega arith)

pub near_many : (j column s : ℕ) → IsMended one 1 word (Many j column s) → ⊥
near_many j column s h = h
