-- The definitions at worked values: the products and the code word for two data rows and two parities.
use Rattle.std.proofs.Common.{◌≡◌, ℕ, zero, suc, List, [], ◌∷◌, refl, arith, true, eqb}
use Rattle.std.proofs.lemmas.Bool.{eqb-true}
use Rattle.cb_gf256.specs.Product.{◌⊗◌, plain_product, reduced}
use Rattle.cb_gf256.specs.Power.{power}
use Rattle.cb_gf256.specs.Rows.{HaveLength}
use Rattle.cb_gf256.specs.CodeWord.{IsCodeWord, syndrome}
use Rattle.cb_gf256.proofs.FieldLaws.{each_below, each_below_at}

-- (x + 1) (x^2 + 1) = x^3 + x^2 + x + 1
plain : plain_product 3 5 ≡ 15
plain = refl

-- x^8 is x^4 + x^3 + x^2 + 1
polynomial : reduced 0x100 ≡ 0x1D
polynomial = refl

product_4_C8 : 0x04 ⊗ 0xC8 ≡ 0x07
unfolding ◌⊗◌
product_4_C8 = refl

product_8_C9 : 0x08 ⊗ 0xC9 ≡ 0x06
unfolding ◌⊗◌
product_8_C9 = refl

power_12 : power 2 12 ≡ 0xCD
unfolding ◌⊗◌ power
power_12 = refl

abbrev word : List (List ℕ)
word =
    (0x01 ∷ 0x00 ∷ 0x01 ∷ []) ∷ (0x00 ∷ 0x01 ∷ 0x01 ∷ []) ∷ (0xC8 ∷ 0x8F ∷ 0x47 ∷ []) ∷ (0xC9 ∷ 0x8E ∷ 0x47 ∷ []) ∷ []

syndromes : each_below 2 (λ j. each_below 3 (λ column. eqb (syndrome j word column) 0)) ≡ true
unfolding ◌⊗◌ power
syndromes = refl

lengths : HaveLength 3 word
lengths zero d h = refl
lengths (suc zero) d h = refl
lengths (suc (suc zero)) d h = refl
lengths (suc (suc (suc zero))) d h = refl
lengths (suc (suc (suc (suc k)))) d h = absurd (omega arith)

pub word_is_code_word : IsCodeWord 2 2 word
word_is_code_word = record {
  count = refl;
  equal_lengths = lengths;
  syndromes_zero = λ j column p q.
      eqb-true (syndrome j word column) 0
      (each_below_at 3 (λ c. eqb (syndrome j word c) 0) (each_below_at 2 (λ i. each_below 3 (λ c. eqb (syndrome i word c) 0)) syndromes j p) column q);
}
