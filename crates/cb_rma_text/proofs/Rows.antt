-- Rows and factors in hexadecimal.
use Rattle.std.proofs.Common.{◌≡◌, ℕ, ◌*◌, ◌<◌, List, [], ◌∷◌, length, get_or, Option, Some, None, Result, Ok, Err, All, ap, ◌∙◌, arith}
use Rattle.std.specs.Prelude.{MatchOption, IfOk}
use Rattle.std.proofs.lemmas.List.Elements.{All-nil, All-cons, All-head}
use Rattle.hex.specs.Hex.{encode_lower, decode_of, lower_digits}
use Rattle.hex.proofs.HexLemmas.{length-encode_with, decode_of-encode_lower}
use Rattle.cb_script.specs.Found.{Finds}
use Rattle.cb_script.specs.Hexadecimal.{IsLowerDigit}
use Rattle.cb_script.proofs.PublicLaws.{bytes_at, lower_encoded}
use Rattle.cb_rma_text.specs.Form.{IsRow}
use Rattle.cb_rma_text.specs.Reading.{HasRowLength}

-- the row has this text
abbrev IsRowOf : List ℕ → List ℕ → Type 0
IsRowOf text row = IsRow row × (text ≡ encode_lower row)

-- a row's text has its length
pub row_length : (text row : List ℕ) → IsRowOf text row → HasRowLength text
row_length text row is =
    let n : length text ≡ 2 * length row = ap length is.1 ∙ length-encode_with lower_digits row in
    let some = is.0.some in
    let few = is.0.few in
    record { some = omega arith; few = omega arith; even = omega arith }

row_found : (text : List ℕ) (found : Option (List ℕ)) → HasRowLength text
    → MatchOption found (All IsLowerDigit text → ⊥) (λ bytes. All (λ b. b < 256) bytes × (text ≡ encode_lower bytes))
    → Finds found (IsRowOf text)
row_found text None long none = λ row is.
    none (rw is.1 (lower_encoded row is.0.each))
row_found text (Some row) long found =
    let n : length text ≡ 2 * length row = ap length found.1 ∙ length-encode_with lower_digits row in
    let some = long.some in
    let few = long.few in
    (record { some = omega arith; few = omega arith; each = found.0 }, found.1)

pub row_read : {E : Type 0} (text : List ℕ) (result : Result (Option (List ℕ)) E) → HasRowLength text
    → IfOk result (λ found. MatchOption found (All IsLowerDigit text → ⊥)
    (λ bytes. All (λ b. b < 256) bytes × (text ≡ encode_lower bytes)))
    → IfOk result (λ found. Finds found (IsRowOf text))
row_read text (Ok found) long read = row_found text found long read
row_read text (Err e) long read = tt

-- ---- one byte

-- two digits spell one byte
pub one_byte : (text bytes : List ℕ) → length text ≡ 2 → All (λ b. b < 256) bytes → text ≡ encode_lower bytes
    → (0 < length bytes) × (get_or bytes 0 0 < 256) × (text ≡ encode_lower (get_or bytes 0 0 ∷ []))
one_byte text [] two each is = absurd (omega (arith, two, ap length is, length-encode_with lower_digits []))
one_byte text (b ∷ []) two each is = (omega arith, All-head (λ b. b < 256) b [] each, is)
one_byte text (b ∷ c ∷ bytes) two each is =
    absurd (omega (arith, two, ap length is, length-encode_with lower_digits (b ∷ c ∷ bytes)))

pub one_byte_text : (text : List ℕ) (c : ℕ) → text ≡ encode_lower (c ∷ []) → length text ≡ 2
one_byte_text text c is = ap length is ∙ length-encode_with lower_digits (c ∷ [])

pub one_byte_lower : (text : List ℕ) (c : ℕ) → c < 256 → text ≡ encode_lower (c ∷ []) → All IsLowerDigit text
one_byte_lower text c small is =
    rw is (lower_encoded (c ∷ []) (All-cons (λ b. b < 256) c [] small (All-nil (λ b. b < 256))))

-- ---- back

pub one_byte_all : (c : ℕ) → c < 256 → All (λ b. b < 256) (c ∷ [])
one_byte_all c small = All-cons (λ b. b < 256) c [] small (All-nil (λ b. b < 256))

-- the bytes of a text in hexadecimal, none where it is none
abbrev pub decoded_or : {E : Type 0} → Result (List ℕ) E → List ℕ
decoded_or (Ok bytes) = bytes
decoded_or (Err e) = []

abbrev pub decoded : List ℕ → List ℕ
decoded text = decoded_or (decode_of text)

pub decoded_encoded : (bytes : List ℕ) → All (λ b. b < 256) bytes → decoded (encode_lower bytes) ≡ bytes
decoded_encoded bytes each = ap decoded_or (decode_of-encode_lower bytes (bytes_at bytes each))
