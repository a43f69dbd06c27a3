-- The rows of done orders at worked values, of the word 01, 00, C8, C9: what meets each definition,
-- and for each part what breaks it alone.
use Rattle.std.proofs.Common.{◌≡◌, ℕ, zero, suc, ◌^◌, ◌<◌, List, [], ◌∷◌, length, get_or, refl, ap, arith}
use Rattle.cb_gf256.specs.CodeWord.{IsCodeWord, syndrome}
use Rattle.cb_gf256.specs.Power.{power}
use Rattle.cb_gf256.specs.Product.{◌⊗◌}
use Rattle.cb_gf256.specs.Rows.{HaveLength, HoldBytes}
use Rattle.cb_erase.specs.Weights.{IsSolution}
use Rattle.cb_types.specs.declared.order.DecodeOrder.{DecodeOrder}
use Rattle.cb_types.specs.declared.order.EncodeOrder.{EncodeOrder}
use Rattle.cb_orders.specs.Done.{IsDecoded, IsEncoded, IsOfWord}
use Rattle.cb_orders.proofs.DecodedRow.{word_decoded}
use Rattle.cb_orders.proofs.WorkedOrders.{decodable, decode_order, encode_order, row, shown}

abbrev the_word : List (List ℕ)
the_word = row 0x01 ∷ row 0x00 ∷ row 0xC8 ∷ row 0xC9 ∷ []

one_long : HaveLength 1 the_word
one_long zero d l = refl
one_long (suc zero) d l = refl
one_long (suc (suc zero)) d l = refl
one_long (suc (suc (suc zero))) d l = refl
one_long (suc (suc (suc (suc i)))) d l = absurd (omega arith)

no_syndrome : (j column : ℕ) → j < 2 → column < 1 → syndrome j the_word column ≡ 0
unfolding ◌⊗◌ power
no_syndrome zero zero p q = refl
no_syndrome (suc zero) zero p q = refl
no_syndrome (suc (suc j)) zero p q = absurd (omega arith)
no_syndrome j (suc column) p q = absurd (omega arith)

is_word : IsCodeWord 2 2 the_word
is_word = record { count = refl; equal_lengths = one_long; syndromes_zero = no_syndrome }

-- ---- parities
abbrev to_encode : EncodeOrder
to_encode = encode_order 2 2 (row 0x01 ∷ row 0x00 ∷ [])

pub encoded : IsEncoded to_encode (row 0xC8 ∷ row 0xC9 ∷ [])
encoded = record {
  count = refl;
  equal_lengths = one_long;
  syndromes_zero = λ j column p q. no_syndrome j column (omega (arith, p)) q;
}

no_parity_missing : IsEncoded to_encode (row 0xC8 ∷ []) → ⊥
no_parity_missing x = let e : 3 ≡ 4 = x.count in omega (arith, e)

no_longer_parity : IsEncoded to_encode (row 0xC8 ∷ (0xC9 ∷ 0x00 ∷ []) ∷ []) → ⊥
no_longer_parity x = let e : 2 ≡ 1 = x.equal_lengths 3 [] (omega arith) in omega (arith, e)

zero_is_wrong : syndrome 0 (row 0x01 ∷ row 0x00 ∷ row 0xC8 ∷ row 0x00 ∷ []) 0 ≡ 0xC9
unfolding ◌⊗◌ power
zero_is_wrong = refl

no_parity_of_zeros : IsEncoded to_encode (row 0xC8 ∷ row 0x00 ∷ []) → ⊥
no_parity_of_zeros x =
    let e = x.syndromes_zero 0 0 (omega arith) (omega arith) in
    absurd (omega (arith, e, zero_is_wrong))

-- the sum of all is 0, but not that by the powers of 2
swapped_is_wrong : syndrome 1 (row 0x01 ∷ row 0x00 ∷ row 0xC9 ∷ row 0xC8 ∷ []) 0 ≡ 0x0C
unfolding ◌⊗◌ power
swapped_is_wrong = refl

no_swapped_parities : IsEncoded to_encode (row 0xC9 ∷ row 0xC8 ∷ []) → ⊥
no_swapped_parities x =
    let e = x.syndromes_zero 1 0 (omega arith) (omega arith) in
    absurd (omega (arith, e, swapped_is_wrong))

-- ---- a row: the first one, of the second and the fourth
abbrev to_decode : DecodeOrder
to_decode = decode_order 0 2 2 (1 ∷ 3 ∷ []) shown

word_bytes : (i : ℕ) (d : List ℕ) → i < 4 → (c z : ℕ) → c < length (get_or the_word i d)
    → get_or (get_or the_word i d) c z < 2 ^ 8
word_bytes zero d h zero z k = omega arith
word_bytes (suc zero) d h zero z k = omega arith
word_bytes (suc (suc zero)) d h zero z k = omega arith
word_bytes (suc (suc (suc zero))) d h zero z k = omega arith
word_bytes i d h (suc c) z k = absurd (omega (arith, k, one_long i d h))
word_bytes (suc (suc (suc (suc i)))) d h c z k = absurd (omega arith)

of_bytes : HoldBytes the_word
of_bytes = λ i d h c z k. word_bytes i d h c z k

solution : IsSolution 2 2 (1 ∷ 3 ∷ []) shown the_word
solution = record { is_word = is_word; agrees = refl }

pub of_word : IsOfWord to_decode (row 0x01)
of_word = (the_word, of_bytes, solution, refl)

pub decoded : IsDecoded to_decode (row 0x01)
decoded = word_decoded to_decode (row 0x01) decodable of_word

-- no other row is decoded: none of another position, no longer and no shorter one
only_row : (made : List ℕ) → IsDecoded to_decode made → made ≡ row 0x01
only_row made x = x the_word of_bytes solution

no_row_of_another_position : IsDecoded to_decode (row 0xC8) → ⊥
no_row_of_another_position x =
    let e = ap (λ (made : List ℕ). get_or made 0 0) (only_row (row 0xC8) x) in omega (arith, e)

no_longer_row : IsDecoded to_decode (0x01 ∷ 0x00 ∷ []) → ⊥
no_longer_row x = let e : 2 ≡ 1 = ap length (only_row (0x01 ∷ 0x00 ∷ []) x) in omega (arith, e)

no_empty_row : IsDecoded to_decode [] → ⊥
no_empty_row x = let e : 0 ≡ 1 = ap length (only_row [] x) in omega (arith, e)

-- the third row of the same rows is another
abbrev third : DecodeOrder
third = decode_order 2 2 2 (1 ∷ 3 ∷ []) shown

pub third_decoded : IsDecoded third (row 0xC8)
third_decoded = word_decoded third (row 0xC8) (record {
  range = decodable.range;
  positions = decodable.positions;
  wanted = omega arith;
  count = decodable.count;
  lengths = decodable.lengths;
}) (the_word, of_bytes, solution, refl)
