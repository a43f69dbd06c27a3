-- The names of the objects that are made: each has its lane and its number in it.
use Rattle.std.proofs.Common.{◌≡◌, ℕ, zero, suc, ◌+◌, ◌<◌, ◌≤◌, ◌^◌, List, [], ◌∷◌, ◌++◌, length, inl, inr, refl, sym, ap, ◌∙◌, arith, append_assoc, length-append}
use Rattle.std.specs.Char.{digit_value}
use Rattle.std.specs.Fmt.{decimal}
use Rattle.std.specs.List.{All}
use Rattle.std.specs.Str.Parse.{AllDigits}
use Rattle.std.proofs.lemmas.Fmt.{decimal_injective, decimal_is_IsNumeral, length-decimal-le}
use Rattle.std.proofs.lemmas.List.Elements.{All-append}
use Rattle.std.proofs.lemmas.Str.Parse.{digit_at}
use Rattle.cb_script.specs.Form.{IsName, IsNameByte}
use Rattle.cb_gen.specs.Drawn.{object_name}

-- the letter n between the two numbers is no digit
not_n : (c : ℕ) → digit_value c < 10 → c ≡ 110 → ⊥
not_n c low is =
    let large : digit_value c ≡ 23 = ap digit_value is in
    omega (arith, low, large)

split_at_n : (xs ys us vs : List ℕ) → AllDigits 10 xs → AllDigits 10 us
    → xs ++ 110 ∷ ys ≡ us ++ 110 ∷ vs → (xs ≡ us) × (ys ≡ vs)
split_at_n [] ys [] vs p q e = (refl, cc)
split_at_n [] ys (u ∷ us) vs p q e = absurd (not_n u q.0 cc)
split_at_n (x ∷ xs) ys [] vs p q e = absurd (not_n x p.0 cc)
split_at_n (x ∷ xs) ys (u ∷ us) vs p q e =
    let tails : xs ++ 110 ∷ ys ≡ us ++ 110 ∷ vs = cc in
    let rest = split_at_n xs ys us vs p.1 q.1 tails in
    let heads : x ≡ u = cc in
    ((λ i. heads i ∷ rest.0 i), rest.1)

digits : (n : ℕ) → n < 2 ^ 64 → AllDigits 10 (decimal n)
digits n small = (decimal_is_IsNumeral n small).0.1

name_parts : (lane before : ℕ)
    → object_name lane before ≡ 108 ∷ (decimal lane ++ 110 ∷ decimal before)
name_parts lane before =
    ap (λ (t : List ℕ). 108 ∷ t) (append_assoc (decimal lane) (110 ∷ []) (decimal before))

-- one name is of one lane and one number
pub one_object : (a b m n : ℕ) → a < 2 ^ 64 → b < 2 ^ 64 → m < 2 ^ 64 → n < 2 ^ 64
    → object_name a m ≡ object_name b n → (a ≡ b) × (m ≡ n)
one_object a b m n p q r s e =
    let whole : 108 ∷ (decimal a ++ 110 ∷ decimal m) ≡ 108 ∷ (decimal b ++ 110 ∷ decimal n) =
    sym (name_parts a m) ∙ e ∙ name_parts b n in
    let tails : decimal a ++ 110 ∷ decimal m ≡ decimal b ++ 110 ∷ decimal n = cc in
    let both =
    split_at_n (decimal a) (decimal m) (decimal b) (decimal n) (digits a p) (digits b q) tails in
    (decimal_injective a b p q both.0, decimal_injective m n r s both.1)

each_digit : (ds : List ℕ) → AllDigits 10 ds → All IsNameByte ds
each_digit [] all k d within = absurd (omega (arith, within))
each_digit (c ∷ cs) all zero d within = inr (digit_at (c ∷ []) 0 (all.0, tt) (omega arith))
each_digit (c ∷ cs) all (suc k) d within = each_digit cs all.1 k d (omega (arith, within))

one_byte : (b : ℕ) → IsNameByte b → All IsNameByte (b ∷ [])
one_byte b is zero d within = is
one_byte b is (suc k) d within = absurd (omega (arith, within))

-- what stands before an object's number
abbrev object_front : ℕ → List ℕ
object_front lane = (108 ∷ decimal lane) ++ 110 ∷ []

-- and is a name
pub is_object_name : (lane before : ℕ) → lane ≤ 15 → before < 10000
    → IsName (object_name lane before)
is_object_name lane before low few =
    let a : length (decimal lane) ≤ 2 =
    length-decimal-le 2 lane (omega arith) (omega arith) (omega arith) in
    let b : length (decimal before) ≤ 4 =
    length-decimal-le 4 before (omega arith) (omega arith) (omega arith) in
    let count : length (object_name lane before) ≡ suc (length (decimal lane) + suc (length (decimal before))) =
    ap length (name_parts lane before)
    ∙ ap suc (length-append (decimal lane) (110 ∷ decimal before)) in
    record {
      some = omega (arith, count);
      few = omega (arith, count, a, b);
      each =
          All-append IsNameByte (object_front lane) (decimal before) (All-append IsNameByte
          (108 ∷ decimal lane) (110 ∷ []) (All-append IsNameByte (108 ∷ []) (decimal lane)
          (one_byte 108 (inl (omega arith, omega arith))) (each_digit (decimal lane)
          (digits lane (omega arith)))) (one_byte 110 (inl (omega arith, omega arith))))
          (each_digit (decimal before) (digits before (omega arith)));
    }
