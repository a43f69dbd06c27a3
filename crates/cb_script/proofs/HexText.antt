-- Lower-case hexadecimal and the bytes that it spells.
use Rattle.std.proofs.Common.{◌≡◌, ℕ, ◌+◌, ◌*◌, ◌/◌, ◌%◌, ◌<◌, ◌≤◌, Bool, true, false, ◌&&◌, ◌||◌, not, eqb, leb, List, [], ◌∷◌, ◌++◌, length, get_or, drop, drop-cons, suc, append_assoc, ltb, Ok, All, inl, inr, refl, sym, ap, ◌∙◌, arith}
use Rattle.std.proofs.lemmas.List.{get_or_past, append-nil, drop_all}
use Rattle.std.proofs.lemmas.Bool.{cases_lt, agree_below_at, eqb-true, leb-true, le-leb, and_parts, or_cases, and_from, or_left, or_right, true≢false, ltb-true, lt-ltb}
use Rattle.std.proofs.lemmas.List.Elements.{All-nil, All-cons, All-head, All-tail, All-get_or}
use Rattle.hex.specs.Hex.{IsBytes, lower_digits, encode_with, encode_lower, decode_of}
use Rattle.hex.proofs.HexLemmas.{length-encode_with, decode_of-encode_lower}
use Rattle.cb_types.specs.Config.{most_bytes}
use Rattle.cb_script.specs.Form.{IsContents}
use Rattle.cb_script.specs.declared.digits.TheConstants.{VALUES}
use Rattle.cb_script.specs.Hexadecimal.{IsLowerDigit, IsHexadecimal}

-- the test of a lower-case digit
abbrev is_lower : ℕ → Bool
is_lower c = (leb 48 c && leb c 57) || (leb 97 c && leb c 102)

lower_from_test : (c : ℕ) → is_lower c ≡ true → IsLowerDigit c
lower_from_test c h =
    elim (or_cases (leb 48 c && leb c 57) (leb 97 c && leb c 102) h) [
      | inl digit ↦
          let p = and_parts (leb 48 c) (leb c 57) digit in
          inl (leb-true 48 c p.0, leb-true c 57 p.1)
      | inr letter ↦
          let p = and_parts (leb 97 c) (leb c 102) letter in
          inr (leb-true 97 c p.0, leb-true c 102 p.1)
    ]

test_from_lower : (c : ℕ) → IsLowerDigit c → is_lower c ≡ true
test_from_lower c (inl digit) = or_left (leb 48 c && leb c 57) (leb 97 c && leb c 102) (and_from (leb 48 c) (leb c 57) (le-leb 48 c digit.0) (le-leb c 57 digit.1))
test_from_lower c (inr letter) = or_right (leb 48 c && leb c 57) (leb 97 c && leb c 102) (and_from (leb 97 c) (leb c 102) (le-leb 97 c letter.0) (le-leb c 102 letter.1))

from_not : (b c : Bool) → (not b || c) ≡ true → b ≡ true → c ≡ true
from_not true c h e = h
from_not false c h e = absurd (true≢false (sym e))

digits_are_lower : (d : ℕ) → d < 16 → IsLowerDigit (get_or lower_digits d 0)
digits_are_lower d small = lower_from_test (get_or lower_digits d 0) (agree_below_at (λ e. is_lower (get_or lower_digits e 0)) (λ _. true) 16 d refl small)

-- ---- from the text to the bytes and back

encode_none : encode_lower [] ≡ []
unfolding encode_with
encode_none = refl

-- the two digits of a byte
abbrev digits_of : ℕ → List ℕ
digits_of b = get_or lower_digits (b / 16) 0 ∷ get_or lower_digits (b % 16) 0 ∷ []

encode_more : (bytes : List ℕ) (b : ℕ) → encode_lower (bytes ++ b ∷ []) ≡ encode_lower bytes ++ digits_of b
unfolding encode_with
encode_more [] b = refl
encode_more (x ∷ bytes) b = ap (λ (l : List ℕ). get_or lower_digits (x / 16) 0 ∷ get_or lower_digits (x % 16) 0 ∷ l) (encode_more bytes b)

two_more : (text : List ℕ) (i j k : ℕ) → j ≡ 2 * i → k ≡ 2 * (i + 1) → k ≤ length text
    → drop j text ≡ get_or text j 0 ∷ get_or text (j + 1) 0 ∷ drop k text
two_more text i j k at next within =
    let one : suc j ≡ j + 1 = omega arith in
    let two : suc (j + 1) ≡ k = omega arith in
    drop-cons text j 0 (omega arith)
    ∙ ap (λ (n : ℕ). get_or text j 0 ∷ drop n text) one
    ∙ ap (λ (l : List ℕ). get_or text j 0 ∷ l) (drop-cons text (j + 1) 0 (omega arith) ∙ ap (λ (n : ℕ). get_or text (j + 1) 0 ∷ drop n text) two)

-- what the bytes so far spell, and what is left of the text
abbrev pub IsReadTo : List ℕ → List ℕ → ℕ → Type 0
IsReadTo text bytes i = encode_lower bytes ++ drop (2 * i) text ≡ text

pub read_none : (text : List ℕ) → IsReadTo text [] 0
read_none text = ap (λ (l : List ℕ). l ++ text) encode_none

-- one more byte, of two digits
pub read_more : (text bytes : List ℕ) (i high low : ℕ) → 2 * (i + 1) ≤ length text → high < 16 → low < 16
    → get_or lower_digits high 0 ≡ get_or text (2 * i) 0 → get_or lower_digits low 0 ≡ get_or text (2 * i + 1) 0
    → IsReadTo text bytes i → IsReadTo text (bytes ++ (high * 16 + low) ∷ []) (i + 1)
read_more text bytes i high low within small also first second so_far =
    let b : ℕ = high * 16 + low in
    let front : b / 16 ≡ high = omega arith in
    let back : b % 16 ≡ low = omega arith in
    let digits : digits_of b ≡ get_or text (2 * i) 0 ∷ get_or text (2 * i + 1) 0 ∷ [] = rw (front, back, first, second) refl in
    let rest : List ℕ = drop (2 * (i + 1)) text in
    ap (λ (l : List ℕ). l ++ rest) (encode_more bytes b)
    ∙ append_assoc (encode_lower bytes) (digits_of b) rest
    ∙ ap (λ (l : List ℕ). encode_lower bytes ++ (l ++ rest)) digits
    ∙ ap (λ (l : List ℕ). encode_lower bytes ++ l) (sym (two_more text i (2 * i) (2 * (i + 1)) refl refl within))
    ∙ so_far

pub read_all : (text bytes : List ℕ) (i : ℕ) → length text ≤ 2 * i → IsReadTo text bytes i → text ≡ encode_lower bytes
read_all text bytes i past so_far =
    sym so_far ∙ ap (λ (l : List ℕ). encode_lower bytes ++ l) (drop_all (2 * i) text past) ∙ append-nil (encode_lower bytes)

-- ---- the table of values

value_is_place : (c : ℕ) → (not (ltb (get_or VALUES c 0) 16) || eqb (get_or lower_digits (get_or VALUES c 0) 0) c) ≡ true → get_or VALUES c 0 < 16
    → get_or lower_digits (get_or VALUES c 0) 0 ≡ c
value_is_place c test small = eqb-true _ c (from_not (ltb (get_or VALUES c 0) 16) _ test (lt-ltb _ 16 small))

pub digit_of_value : (c : ℕ) → c < 256 → get_or VALUES c 0 < 16 → get_or lower_digits (get_or VALUES c 0) 0 ≡ c
digit_of_value c byte small =
    value_is_place c (agree_below_at (λ x. not (ltb (get_or VALUES x 0) 16) || eqb (get_or lower_digits (get_or VALUES x 0) 0) x) (λ _. true) 256 c refl byte) small

pub value_of_digit : (c : ℕ) → c < 256 → IsLowerDigit c → get_or VALUES c 0 < 16
value_of_digit c byte lower =
    ltb-true _ 16 (from_not (is_lower c) (ltb (get_or VALUES c 0) 16) (agree_below_at (λ x. not (is_lower x) || ltb (get_or VALUES x 0) 16) (λ _. true) 256 c refl byte) (test_from_lower c lower))

-- ---- contents

pub contents_spelled : (text bytes : List ℕ) → 0 < length text → length text ≤ 2 * most_bytes → All (λ b. b < 256) bytes → text ≡ encode_lower bytes
    → IsContents bytes × (text ≡ encode_lower bytes)
contents_spelled text bytes some few each is =
    let n : length text ≡ 2 * length bytes = ap length is ∙ length-encode_with lower_digits bytes in
    (record { some = omega (arith, n); few = omega (arith, n); each = each }, is)

pub lower_encoded : (bytes : List ℕ) → All (λ b. b < 256) bytes → All IsLowerDigit (encode_lower bytes)
unfolding encode_with
lower_encoded [] each = All-nil IsLowerDigit
lower_encoded (b ∷ bytes) each =
    let small : b < 256 = All-head (λ b. b < 256) b bytes each in
    All-cons IsLowerDigit (get_or lower_digits (b / 16) 0) (get_or lower_digits (b % 16) 0 ∷ encode_lower bytes) (digits_are_lower (b / 16) (omega arith))
    (All-cons IsLowerDigit (get_or lower_digits (b % 16) 0) (encode_lower bytes) (digits_are_lower (b % 16) (omega arith)) (lower_encoded bytes (All-tail (λ b. b < 256) b bytes each)))

pub contents_hexadecimal : (bytes : List ℕ) → IsContents bytes → IsHexadecimal (encode_lower bytes) × (length (encode_lower bytes) ≤ 2 * most_bytes)
contents_hexadecimal bytes contents =
    let n = length-encode_with lower_digits bytes in
    let some = contents.some in
    let few = contents.few in
    (record { some = omega arith; even = omega arith; each = lower_encoded bytes contents.each }, omega arith)

-- the bytes of contents, at each index
pub bytes_at : (bytes : List ℕ) → All (λ b. b < 256) bytes → IsBytes bytes
bytes_at bytes each i = elim (cases_lt i (length bytes)) [ inl within ↦ All-get_or (λ b. b < 256) bytes i 0 within each | inr past ↦ omega (arith, get_or_past bytes i 0 past) ]

-- contents are spelled in one way alone
pub encode_injective : (xs ys : List ℕ) → IsContents xs → IsContents ys → encode_lower xs ≡ encode_lower ys → xs ≡ ys
encode_injective xs ys x y e =
    let both : Ok xs ≡ Ok ys = sym (decode_of-encode_lower xs (bytes_at xs x.each)) ∙ ap decode_of e ∙ decode_of-encode_lower ys (bytes_at ys y.each) in
    cc
