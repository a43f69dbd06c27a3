-- Worked classes: what meets each definition, and what breaks one of its parts alone.
use Rattle.std.proofs.Common.{◌≡◌, ◌<◌, ℕ, List, [], ◌∷◌, map, true, ltb, refl, arith}
use Rattle.std.proofs.lemmas.Bool.{agree_below, agree_below_at, ltb-true}
use Rattle.cb_class.specs.declared.class.Class.{Class}
use Rattle.cb_class.specs.Class.{IsClass, IsClassOf, IsClassOfSpan, bytes_of, largest, pages_of, slots_of, words_of}

abbrev at : ℕ → Class
at i = record { index = i }

abbrev indices : List ℕ
indices = 0 ∷ 1 ∷ 2 ∷ 3 ∷ 4 ∷ 5 ∷ 6 ∷ 7 ∷ 8 ∷ 9 ∷ 10 ∷ 11 ∷ 12 ∷ 13 ∷ 14 ∷ 15 ∷ []

bytes : map (λ i. bytes_of (at i)) indices
    ≡ 16 ∷ 32 ∷ 48 ∷ 64 ∷ 96 ∷ 128 ∷ 192 ∷ 256 ∷ 384 ∷ 512 ∷ 768 ∷ 1024
    ∷ 1536 ∷ 2048 ∷ 3072 ∷ 4096 ∷ []
unfolding bytes_of
bytes = refl

slot_counts : map (λ i. slots_of (at i)) indices
    ≡ 256 ∷ 128 ∷ 85 ∷ 64 ∷ 42 ∷ 32 ∷ 21 ∷ 16 ∷ 10 ∷ 8 ∷ 5 ∷ 4 ∷ 5 ∷ 4 ∷ 5 ∷ 4 ∷ []
unfolding slots_of pages_of bytes_of
slot_counts = refl

word_counts : map (λ i. words_of (at i)) indices
    ≡ 2 ∷ 4 ∷ 6 ∷ 8 ∷ 12 ∷ 16 ∷ 24 ∷ 32 ∷ 48 ∷ 64 ∷ 96 ∷ 128
    ∷ 192 ∷ 256 ∷ 384 ∷ 512 ∷ []
unfolding words_of bytes_of
word_counts = refl

page_counts : map (λ i. pages_of (at i)) indices
    ≡ 1 ∷ 1 ∷ 1 ∷ 1 ∷ 1 ∷ 1 ∷ 1 ∷ 1 ∷ 1 ∷ 1 ∷ 1 ∷ 1 ∷ 2 ∷ 2 ∷ 4 ∷ 4 ∷ []
unfolding pages_of
page_counts = refl

-- the last class has the largest slots
largest_slots : bytes_of (at 15) ≡ largest
unfolding bytes_of
largest_slots = refl

-- five slots: of 768 bytes in one page, of 1,536 in two and of 3,072 in four
class_of_five : IsClassOfSpan 1 5 (at 10)
unfolding slots_of pages_of bytes_of
class_of_five = record { in_table = omega arith; paged = refl; counted = refl }

in_two_pages : IsClassOfSpan 2 5 (at 12)
unfolding slots_of pages_of bytes_of
in_two_pages = record { in_table = omega arith; paged = refl; counted = refl }

in_four_pages : IsClassOfSpan 4 5 (at 14)
unfolding slots_of pages_of bytes_of
in_four_pages = record { in_table = omega arith; paged = refl; counted = refl }

other_slots : ¬ (IsClassOfSpan 1 5 (at 11))
unfolding slots_of pages_of bytes_of
other_slots h = absurd (omega (arith, h.counted))

other_pages : ¬ (IsClassOfSpan 2 5 (at 10))
unfolding slots_of pages_of bytes_of
other_pages h = absurd (omega (arith, h.paged))

last_class : IsClass (at 15)
last_class = omega arith

past_the_table : ¬ (IsClass (at 16))
past_the_table h = absurd (omega (arith, h))

-- 17 bytes take slots of 32
class_of_17 : IsClassOf 17 (at 1)
unfolding bytes_of
class_of_17 = record {
  in_table = omega arith;
  holds = omega arith;
  least = λ smaller less. let first : smaller.index ≡ 0 = omega arith in rw first (omega arith);
}

-- slots of 16 are too small for 17 bytes, and of 48 too large
too_small : ¬ (IsClassOf 17 (at 0))
unfolding bytes_of
too_small h = absurd (omega (arith, h.holds))

too_large : ¬ (IsClassOf 17 (at 2))
unfolding bytes_of
too_large h = absurd (omega (arith, h.least (at 1) (omega arith)))

-- a length that fills a class has that class
next_for_an_exact_length : ¬ (IsClassOf 16 (at 1))
unfolding bytes_of
next_for_an_exact_length h = absurd (omega (arith, h.least (at 0) (omega arith)))

-- that all classes before one have smaller slots is computed
abbrev are_smaller : ℕ → ℕ → Type 0
are_smaller len n = agree_below (λ (i : ℕ). ltb (bytes_of (at i)) len) (λ _. true) n ≡ true

smaller_than : (len n i : ℕ) → are_smaller len n → i < n → bytes_of (at i) < len
smaller_than len n i all below =
    ltb-true (bytes_of (at i)) len
    (agree_below_at (λ (k : ℕ). ltb (bytes_of (at k)) len) (λ _. true) n i all below)

-- one byte more than 1,024 takes slots in two pages
class_of_1025 : IsClassOf 1025 (at 12)
unfolding bytes_of
class_of_1025 = record {
  in_table = omega arith;
  holds = omega arith;
  least = λ smaller less. smaller_than 1025 12 smaller.index refl less;
}

-- and the longest object the last class
class_of_4096 : IsClassOf 4096 (at 15)
unfolding bytes_of
class_of_4096 = record {
  in_table = omega arith;
  holds = omega arith;
  least = λ smaller less. smaller_than 4096 15 smaller.index refl less;
}

-- beyond the table no class holds anything, though each class of the table is too small
not_in_the_table : ¬ (IsClassOf 4097 (at 16))
not_in_the_table h = past_the_table h.in_table
