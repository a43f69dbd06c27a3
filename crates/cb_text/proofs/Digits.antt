-- Text in hexadecimal, piece after piece, and text that is added in four parts.
use Rattle.std.proofs.Common.{◌≡◌, ℕ, ◌/◌, ◌%◌, List, [], ◌∷◌, ◌++◌, refl, sym, ap, ◌∙◌, append_assoc}
use Rattle.std.specs.Prelude.{slice_index}
use Rattle.std.proofs.lemmas.List.{append-nil}
use Rattle.hex.specs.Hex.{encode_lower, encode_with, lower_digits}

encode_joined : (xs ys : List ℕ) → encode_lower (xs ++ ys) ≡ encode_lower xs ++ encode_lower ys
unfolding encode_with
encode_joined [] ys = refl
encode_joined (x ∷ xs) ys =
    ap (λ (l : List ℕ). slice_index lower_digits (x / 16) ∷ slice_index lower_digits (x % 16) ∷ l) (encode_joined xs ys)

-- the front of the bytes that are left is added
pub one_piece : (text made rest piece behind : List ℕ) → made ≡ text ++ encode_lower piece → piece ++ behind ≡ rest
    → made ++ encode_lower behind ≡ text ++ encode_lower rest
one_piece text made rest piece behind is parts =
    ap (λ (l : List ℕ). l ++ encode_lower behind) is
    ∙ append_assoc text (encode_lower piece) (encode_lower behind)
    ∙ ap (λ (l : List ℕ). text ++ l) (sym (encode_joined piece behind) ∙ ap encode_lower parts)

encode_none : encode_lower [] ≡ []
unfolding encode_with
encode_none = refl

-- none are left
pub none_left : (text rest : List ℕ) → rest ≡ [] → text ++ encode_lower rest ≡ text
none_left text rest is =
    ap (λ (l : List ℕ). text ++ encode_lower l) is ∙ ap (λ (l : List ℕ). text ++ l) encode_none ∙ append-nil text

pub four_parts : (text a b c d : List ℕ)
    → (((text ++ a) ++ b) ++ c) ++ d ≡ text ++ (((a ++ b) ++ c) ++ d)
four_parts text a b c d = simp append_assoc

pub three_parts : (text a b c : List ℕ) → ((text ++ a) ++ b) ++ c ≡ text ++ ((a ++ b) ++ c)
three_parts text a b c = simp append_assoc
