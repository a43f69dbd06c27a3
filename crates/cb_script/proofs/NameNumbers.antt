-- The numbers by which names are kept: names with one number are one name.
use Rattle.std.proofs.Common.{◌≡◌, ℕ, zero, suc, ◌^◌, ◌<◌, ◌≤◌, List, [], ◌∷◌, length, drop, All, inl, inr, refl, ap₂, arith}
use Rattle.std.proofs.Math.Nat.{pow-suc}
use Rattle.std.proofs.lemmas.List.{length-drop}
use Rattle.std.proofs.lemmas.List.Elements.{All-head, All-tail, All-drop}
use Rattle.cb_script.specs.Form.{IsName, IsNameByte}
use Rattle.cb_script.specs.Reading.{number_of_name}

low_byte : (b : ℕ) → IsNameByte b → (1 ≤ b) × (b < 256)
low_byte b (inl letter) = (omega (arith, letter.0), omega (arith, letter.1))
low_byte b (inr digit) = (omega (arith, digit.0), omega (arith, digit.1))

-- bytes that are not 0 are told by their number
same_number : (xs ys : List ℕ) → All IsNameByte xs → All IsNameByte ys → number_of_name xs ≡ number_of_name ys → xs ≡ ys
same_number [] [] p q e = refl
same_number [] (y ∷ ys) p q e =
    let byte = low_byte y (All-head IsNameByte y ys q) in absurd (omega (arith, e, byte.0))
same_number (x ∷ xs) [] p q e =
    let byte = low_byte x (All-head IsNameByte x xs p) in absurd (omega (arith, e, byte.0))
same_number (x ∷ xs) (y ∷ ys) p q e =
    let own = low_byte x (All-head IsNameByte x xs p) in
    let other = low_byte y (All-head IsNameByte y ys q) in
    let first : x ≡ y = omega (arith, e, own.1, other.1) in
    let rest : number_of_name xs ≡ number_of_name ys = omega (arith, e, own.1, other.1) in
    ap₂ ◌∷◌ first (same_number xs ys (All-tail IsNameByte x xs p) (All-tail IsNameByte y ys q) rest)

pub one_name : (name other : List ℕ) → IsName name → IsName other → number_of_name name ≡ number_of_name other → name ≡ other
one_name name other is also e = same_number name other is.each also.each e

pub number_below : (m : ℕ) (xs : List ℕ) → length xs ≤ m → All IsNameByte xs → number_of_name xs < 256 ^ m
number_below zero [] fits p = omega arith
number_below zero (x ∷ xs) fits p = absurd (omega arith)
number_below (suc m) [] fits p =
    let below : 0 < 256 ^ m = number_below m [] (omega arith) p in omega (arith, below, pow-suc 256 m)
number_below (suc m) (x ∷ xs) fits p =
    let byte = low_byte x (All-head IsNameByte x xs p) in
    let below = number_below m xs (omega arith) (All-tail IsNameByte x xs p) in
    omega (arith, below, byte.1, pow-suc 256 m)

-- the number so far leaves room for one more byte
pub number_fits : (name : List ℕ) (end number : ℕ) → IsName name → 1 ≤ end → number ≡ number_of_name (drop end name) → number < 256 ^ 15
number_fits name end number is some so_far =
    let short : length (drop end name) ≤ 15 = omega (arith, length-drop end name, is.few) in
    let below = number_below 15 (drop end name) short (All-drop IsNameByte end name is.each) in
    rw so_far below
