-- Orders at worked values: one that meets each definition, and for each part one that breaks it
-- alone.
use Rattle.std.proofs.Common.{◌≡◌, ℕ, zero, suc, ◌+◌, ◌<◌, List, [], ◌∷◌, length, get_or, slice_index, All, refl, arith}
use Rattle.cb_gf256.specs.InRange.{IsInRange}
use Rattle.cb_gf256.specs.Positions.{ArePositions}
use Rattle.cb_types.specs.declared.order.DecodeOrder.{DecodeOrder}
use Rattle.cb_types.specs.declared.order.EncodeOrder.{EncodeOrder}
use Rattle.cb_types.specs.Orders.{IsDecodable, IsEncodable}

abbrev pub encode_order : ℕ → ℕ → List (List ℕ) → EncodeOrder
encode_order k r rows = record { set = 7; k = k; r = r; rows = rows }

abbrev pub decode_order : ℕ → ℕ → ℕ → List ℕ → List (List ℕ) → DecodeOrder
decode_order position k r present rows = record {
  set = 7;
  position = position;
  k = k;
  r = r;
  present = present;
  rows = rows;
}

-- a row of one byte
abbrev pub row : ℕ → List ℕ
row x = x ∷ []

two_by_two : IsInRange 2 2
two_by_two = record {
  data_least = omega arith;
  data_most = omega arith;
  parities_least = omega arith;
  parities_most = omega arith;
}

one_long : (x y i : ℕ) (d : List ℕ) → i < 2 → length (get_or (row x ∷ row y ∷ []) i d) ≡ 1
one_long x y zero d l = refl
one_long x y (suc zero) d l = refl
one_long x y (suc (suc i)) d l = absurd (omega (arith, l))

-- ---- orders to encode
pub encodable : IsEncodable (encode_order 2 2 (row 0x01 ∷ row 0x00 ∷ []))
encodable = record { range = two_by_two; count = refl; lengths = one_long 0x01 0x00 }

no_code_without_parities : IsEncodable (encode_order 2 0 (row 0x01 ∷ row 0x00 ∷ [])) → ⊥
no_code_without_parities x = let l = x.range.parities_least in omega (arith, l)

no_data_row_missing : IsEncodable (encode_order 2 2 (row 0x01 ∷ [])) → ⊥
no_data_row_missing x = let e : 1 ≡ 2 = x.count in omega (arith, e)

no_longer_data_row : IsEncodable (encode_order 2 2 (row 0x01 ∷ (0x00 ∷ 0x00 ∷ []) ∷ [])) → ⊥
no_longer_data_row x = let e : 2 ≡ 1 = x.lengths 1 [] (omega arith) in omega (arith, e)

-- ---- orders to decode
pub one_and_three : ArePositions 4 2 (1 ∷ 3 ∷ [])
one_and_three = record { count = refl; ascend = ascending; below = below_four }
  where
    ascending : (i : ℕ) → i + 1 < 2 → slice_index (1 ∷ 3 ∷ []) i < slice_index (1 ∷ 3 ∷ []) (i + 1)
    ascending zero l = omega arith
    ascending (suc i) l = absurd (omega (arith, l))

    below_four : All (λ p. p < 4) (1 ∷ 3 ∷ [])
    below_four zero d l = omega arith
    below_four (suc zero) d l = omega arith
    below_four (suc (suc i)) d l = absurd (omega (arith, l))

-- the second and the fourth row of the word 01, 00, C8, C9
abbrev pub shown : List (List ℕ)
shown = row 0x00 ∷ row 0xC9 ∷ []

pub decodable : IsDecodable (decode_order 0 2 2 (1 ∷ 3 ∷ []) shown)
decodable = record {
  range = two_by_two;
  positions = one_and_three;
  wanted = omega arith;
  count = refl;
  lengths = one_long 0x00 0xC9;
}

-- a row that is at hand can be asked for too
pub one_at_hand : IsDecodable (decode_order 3 2 2 (1 ∷ 3 ∷ []) shown)
one_at_hand = record {
  range = two_by_two;
  positions = one_and_three;
  wanted = omega arith;
  count = refl;
  lengths = one_long 0x00 0xC9;
}

no_code_of_five_parities : IsDecodable (decode_order 0 2 5 (1 ∷ 3 ∷ []) shown) → ⊥
no_code_of_five_parities x = let l = x.range.parities_most in omega (arith, l)

not_in_descending_order : IsDecodable (decode_order 0 2 2 (3 ∷ 1 ∷ []) shown) → ⊥
not_in_descending_order x =
    let l : 3 < 1 = x.positions.ascend 0 (omega arith) in omega (arith, l)

no_position_twice : IsDecodable (decode_order 0 2 2 (1 ∷ 1 ∷ []) shown) → ⊥
no_position_twice x = let l : 1 < 1 = x.positions.ascend 0 (omega arith) in omega (arith, l)

no_position_past_the_code : IsDecodable (decode_order 0 2 2 (1 ∷ 4 ∷ []) shown) → ⊥
no_position_past_the_code x =
    let l : 4 < 4 = x.positions.below 1 0 (omega arith) in omega (arith, l)

no_position_missing : IsDecodable (decode_order 0 2 2 (1 ∷ []) shown) → ⊥
no_position_missing x = let e : 1 ≡ 2 = x.positions.count in omega (arith, e)

no_row_past_the_code : IsDecodable (decode_order 4 2 2 (1 ∷ 3 ∷ []) shown) → ⊥
no_row_past_the_code x = let l : 4 < 4 = x.wanted in omega (arith, l)

no_row_missing : IsDecodable (decode_order 0 2 2 (1 ∷ 3 ∷ []) (row 0x00 ∷ [])) → ⊥
no_row_missing x = let e : 1 ≡ 2 = x.count in omega (arith, e)

no_longer_row : IsDecodable (decode_order 0 2 2 (1 ∷ 3 ∷ []) (row 0x00 ∷ (0xC9 ∷ 0x00 ∷ []) ∷ []))
    → ⊥
no_longer_row x = let e : 2 ≡ 1 = x.lengths 1 [] (omega arith) in omega (arith, e)
