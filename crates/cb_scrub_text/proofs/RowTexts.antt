-- Rows and their texts.
use Rattle.std.proofs.Common.{◌≡◌, ℕ, ◌*◌, ◌/◌, ◌<◌, List, [], length, set, All, Ok, sym, ap, ◌∙◌, subst, arith}
use Rattle.hex.specs.Hex.{lower_digits, encode_lower, decode_of}
use Rattle.hex.proofs.HexLemmas.{length-encode_with, decode_of-encode_lower}
use Rattle.cb_gf256.specs.Rows.{HaveLength}
use Rattle.cb_script.specs.Hexadecimal.{IsLowerDigit}
use Rattle.cb_script.proofs.PublicLaws.{bytes_at, lower_encoded}
use Rattle.cb_scrub_text.specs.Reading.{SpellsRow, IsNoRow}

pub encoded_length : (row : List ℕ) → length (encode_lower row) ≡ 2 * length row
encoded_length row = length-encode_with lower_digits row

pub text_length : (len : ℕ) (text row : List ℕ) → SpellsRow len text row → length text ≡ 2 * len
text_length len text row is = omega (arith, ap length is.text_is, encoded_length row, is.long)

-- rows of bytes with one text are one row
pub one_row : (xs ys : List ℕ) → All (λ b. b < 256) xs → All (λ b. b < 256) ys → encode_lower xs ≡ encode_lower ys → xs ≡ ys
one_row xs ys x y e =
    let both : Ok xs ≡ Ok ys = sym (decode_of-encode_lower xs (bytes_at xs x)) ∙ ap decode_of e ∙ decode_of-encode_lower ys (bytes_at ys y) in
    cc

-- rows of the same length as others have their length
pub same_length : (m n : ℕ) (rows : List (List ℕ)) (i : ℕ) → i < length rows → HaveLength m rows → HaveLength n rows → m ≡ n
same_length m n rows i within h k = sym (h i [] within) ∙ k i [] within

-- a text of another length spells no such row
pub other_length : (len n : ℕ) (rows : List (List ℕ)) (i : ℕ) (text row : List ℕ) → i < length rows → HaveLength len rows → HaveLength n rows
    → (length text ≡ 2 * n → ⊥) → SpellsRow len text row → ⊥
other_length len n rows i text row within h k not is =
    not (omega (arith, text_length len text row is, same_length len n rows i within h k))

-- the text of a row has its digits alone
pub digits_alone : (len : ℕ) (text row : List ℕ) → SpellsRow len text row → (All IsLowerDigit text → ⊥) → ⊥
digits_alone len text row is none = none (subst (λ (t : List ℕ). All IsLowerDigit t) (sym is.text_is) (lower_encoded row is.bytes))

-- the row that is read stands in its place
pub row_is_read : (len n : ℕ) (rows now : List (List ℕ)) (i : ℕ) (text row bytes : List ℕ) → i < length rows → HaveLength len rows → HaveLength n rows
    → length text ≡ 2 * n → row ≡ bytes → All (λ b. b < 256) bytes → text ≡ encode_lower bytes → (HaveLength (length row) rows → now ≡ set rows i row)
    → (x : List ℕ) × SpellsRow len text x × (now ≡ set rows i x)
row_is_read len n rows now i text row bytes within h k long same each is written =
    let lengths : len ≡ n = same_length len n rows i within h k in
    let sized : length bytes ≡ len = omega (arith, lengths, long, ap length is, encoded_length bytes) in
    let row_sized : length row ≡ len = ap length same ∙ sized in (
      bytes,
      record { long = sized; bytes = each; text_is = is },
      written (λ j d below. h j d below ∙ sym row_sized) ∙ ap (set rows i) same,
    )

-- a text of no byte, or of too many, spells no row
pub no_short_row : (text : List ℕ) → length text / 2 < 1 → IsNoRow text
no_short_row text less = λ len some most row is. omega (arith, less, some, text_length len text row is)

pub no_long_row : (text : List ℕ) → 4096 < length text / 2 → IsNoRow text
no_long_row text more = λ len some most row is. omega (arith, more, most, text_length len text row is)
