-- What is put into rows, and how positions split, at worked values: what meets each definition, and for each part what breaks it.
use Rattle.std.proofs.Common.{◌≡◌, ℕ, zero, suc, ◌<◌, ◌≤◌, ◌+◌, List, [], ◌∷◌, length, slice_index, refl, ap, arith, inl, inr}
use Rattle.cb_gf256.specs.Product.{◌⊗◌}
use Rattle.cb_gf256.specs.Rows.{row_at, byte_at}
use Rattle.cb_gf256.specs.Combination.{combination}
use Rattle.cb_gf256.specs.Placing.{Placed, Combined, Restored, AreDisjoint}
use Rattle.cb_gf256.specs.Split.{Splits}
use Rattle.cb_gf256.proofs.Splitting.{split_none, split_with_present, split_with_lost}

-- ---- one byte, 7, is put into row 1 from the place 1 on
abbrev before : List (List ℕ)
before = (1 ∷ 2 ∷ 3 ∷ []) ∷ (4 ∷ 5 ∷ 6 ∷ []) ∷ []

abbrev now : List (List ℕ)
now = (1 ∷ 2 ∷ 3 ∷ []) ∷ (4 ∷ 7 ∷ 6 ∷ []) ∷ []

abbrev seven : ℕ → ℕ → ℕ
seven j l = 7

abbrev Puts : List (List ℕ) → Type 0
Puts rows = Placed 1 1 (1 ∷ []) seven before rows 1

same_lengths : (i : ℕ) → length (row_at now i) ≡ length (row_at before i)
same_lengths zero = refl
same_lengths (suc zero) = refl
same_lengths (suc (suc i)) = refl

put_there : (j l : ℕ) → j < 1 → l < 1 → byte_at now (slice_index (1 ∷ []) j) (1 + l) ≡ 7
put_there zero zero p q = refl
put_there zero (suc l) p q = absurd (omega arith)
put_there (suc j) l p q = absurd (omega arith)

same_front : (i c : ℕ) → c < 1 → byte_at now i c ≡ byte_at before i c
same_front zero zero p = refl
same_front (suc zero) zero p = refl
same_front (suc (suc i)) zero p = refl
same_front i (suc c) p = absurd (omega arith)

same_back : (i c : ℕ) → 2 ≤ c → byte_at now i c ≡ byte_at before i c
same_back i zero p = absurd (omega arith)
same_back i (suc zero) p = absurd (omega arith)
same_back zero (suc (suc c)) p = refl
same_back (suc zero) (suc (suc c)) p = refl
same_back (suc (suc i)) (suc (suc c)) p = refl

same_others : (i : ℕ) → ((j : ℕ) → j < 1 → slice_index (1 ∷ []) j ≡ i → ⊥) → row_at now i ≡ row_at before i
same_others zero other = refl
same_others (suc zero) other = absurd (other 0 (omega arith) refl)
same_others (suc (suc i)) other = refl

pub is_put : Puts now
is_put = record {
  count = refl;
  lengths = same_lengths;
  placed = put_there;
  front = same_front;
  back = same_back;
  others = same_others;
}

pub no_row_more : Puts ((1 ∷ 2 ∷ 3 ∷ []) ∷ (4 ∷ 7 ∷ 6 ∷ []) ∷ [] ∷ []) → ⊥
no_row_more h = absurd (omega (arith, h.count))

pub no_longer_target : Puts ((1 ∷ 2 ∷ 3 ∷ []) ∷ (4 ∷ 7 ∷ 6 ∷ 0 ∷ []) ∷ []) → ⊥
no_longer_target h = absurd (omega (arith, h.lengths 1))

pub no_other_byte : Puts ((1 ∷ 2 ∷ 3 ∷ []) ∷ (4 ∷ 8 ∷ 6 ∷ []) ∷ []) → ⊥
no_other_byte h = absurd (omega (arith, h.placed 0 0 (omega arith) (omega arith)))

pub no_other_front : Puts ((1 ∷ 2 ∷ 3 ∷ []) ∷ (9 ∷ 7 ∷ 6 ∷ []) ∷ []) → ⊥
no_other_front h = absurd (omega (arith, h.front 1 0 (omega arith)))

pub no_other_back : Puts ((1 ∷ 2 ∷ 3 ∷ []) ∷ (4 ∷ 7 ∷ 9 ∷ []) ∷ []) → ⊥
no_other_back h = absurd (omega (arith, h.back 1 2 (omega arith)))

is_row : (xs : List ℕ) (ys : List ℕ) → xs ≡ ys → slice_index xs 1 ≡ slice_index ys 1
is_row xs ys e = ap (λ (row : List ℕ). slice_index row 1) e

pub no_other_row : Puts ((1 ∷ 9 ∷ 3 ∷ []) ∷ (4 ∷ 7 ∷ 6 ∷ []) ∷ []) → ⊥
no_other_row h =
    let same : 9 ≡ 2 = is_row (1 ∷ 9 ∷ 3 ∷ []) (1 ∷ 2 ∷ 3 ∷ []) (h.others 0 (λ j l e. not_first j l e)) in
    absurd (omega (arith, same))
  where
    not_first : (j : ℕ) → j < 1 → slice_index (1 ∷ []) j ≡ 0 → ⊥
    not_first zero l e = absurd (omega (arith, e))
    not_first (suc j) l e = absurd (omega arith)

-- ---- the sum of rows 0 and 1, times C8 and 8F, is put into row 2
abbrev table : List (List ℕ)
table = (0xC8 ∷ 0x8F ∷ []) ∷ []

abbrev shown : List (List ℕ)
shown = (0x01 ∷ []) ∷ (0x01 ∷ []) ∷ []

abbrev blank : List (List ℕ)
blank = (0x01 ∷ []) ∷ (0x01 ∷ []) ∷ (0x00 ∷ []) ∷ (0x09 ∷ []) ∷ []

abbrev summed : List (List ℕ)
summed = (0x01 ∷ []) ∷ (0x01 ∷ []) ∷ (0x47 ∷ []) ∷ (0x09 ∷ []) ∷ []

abbrev Sums : List (List ℕ) → Type 0
Sums rows = Combined table shown (2 ∷ []) blank rows 0 1

summed_lengths : (i : ℕ) → length (row_at summed i) ≡ length (row_at blank i)
summed_lengths zero = refl
summed_lengths (suc zero) = refl
summed_lengths (suc (suc zero)) = refl
summed_lengths (suc (suc (suc zero))) = refl
summed_lengths (suc (suc (suc (suc i)))) = refl

sum_there : (j c : ℕ) → j < 1 → 0 ≤ c → c < 1 → byte_at summed (slice_index (2 ∷ []) j) c ≡ combination (row_at table j) shown c
unfolding ◌⊗◌
sum_there zero zero p q r = refl
sum_there zero (suc c) p q r = absurd (omega arith)
sum_there (suc j) c p q r = absurd (omega arith)

summed_others : (i : ℕ) → ((j : ℕ) → j < 1 → slice_index (2 ∷ []) j ≡ i → ⊥) → row_at summed i ≡ row_at blank i
summed_others zero other = refl
summed_others (suc zero) other = refl
summed_others (suc (suc zero)) other = absurd (other 0 (omega arith) refl)
summed_others (suc (suc (suc zero))) other = refl
summed_others (suc (suc (suc (suc i)))) other = refl

pub is_summed : Sums summed
is_summed = record { count = refl; lengths = summed_lengths; sums = sum_there; others = summed_others }

first_sum : combination (0xC8 ∷ 0x8F ∷ []) shown 0 ≡ 0x47
unfolding ◌⊗◌
first_sum = refl

pub no_row_behind : Sums ((0x01 ∷ []) ∷ (0x01 ∷ []) ∷ (0x47 ∷ []) ∷ (0x09 ∷ []) ∷ [] ∷ []) → ⊥
no_row_behind h = absurd (omega (arith, h.count))

pub no_longer_sum : Sums ((0x01 ∷ []) ∷ (0x01 ∷ []) ∷ (0x47 ∷ 0x00 ∷ []) ∷ (0x09 ∷ []) ∷ []) → ⊥
no_longer_sum h = absurd (omega (arith, h.lengths 2))

pub no_other_sum : Sums ((0x01 ∷ []) ∷ (0x01 ∷ []) ∷ (0x46 ∷ []) ∷ (0x09 ∷ []) ∷ []) → ⊥
no_other_sum h = absurd (omega (arith, h.sums 0 0 (omega arith) (omega arith) (omega arith), first_sum))

not_three : (j : ℕ) → j < 1 → slice_index (2 ∷ []) j ≡ 3 → ⊥
not_three zero l e = absurd (omega (arith, e))
not_three (suc j) l e = absurd (omega arith)

first_of : (xs ys : List ℕ) → xs ≡ ys → slice_index xs 0 ≡ slice_index ys 0
first_of xs ys e = ap (λ (row : List ℕ). slice_index row 0) e

pub no_other_row_summed : Sums ((0x01 ∷ []) ∷ (0x01 ∷ []) ∷ (0x47 ∷ []) ∷ (0x08 ∷ []) ∷ []) → ⊥
no_other_row_summed h =
    absurd (omega (arith, first_of (0x08 ∷ []) (0x09 ∷ []) (h.others 3 not_three)))

-- ---- and the shown rows are put into rows 0 and 1
abbrev empty : List (List ℕ)
empty = (0x00 ∷ []) ∷ (0x00 ∷ []) ∷ (0x00 ∷ []) ∷ (0x09 ∷ []) ∷ []

abbrev Restores : List (List ℕ) → Type 0
Restores rows = Restored table shown (2 ∷ []) (0 ∷ 1 ∷ []) empty rows 0 1

restored_lengths : (i : ℕ) → length (row_at summed i) ≡ length (row_at empty i)
restored_lengths zero = refl
restored_lengths (suc zero) = refl
restored_lengths (suc (suc zero)) = refl
restored_lengths (suc (suc (suc zero))) = refl
restored_lengths (suc (suc (suc (suc i)))) = refl

kept_there : (i c : ℕ) → i < 2 → 0 ≤ c → c < 1 → byte_at summed (slice_index (0 ∷ 1 ∷ []) i) c ≡ byte_at shown i c
kept_there zero zero p q r = refl
kept_there (suc zero) zero p q r = refl
kept_there (suc (suc i)) c p q r = absurd (omega arith)
kept_there i (suc c) p q r = absurd (omega arith)

restored_others : (i : ℕ) → ((j : ℕ) → j < 1 → slice_index (2 ∷ []) j ≡ i → ⊥)
    → ((j : ℕ) → j < 2 → slice_index (0 ∷ 1 ∷ []) j ≡ i → ⊥) → row_at summed i ≡ row_at empty i
restored_others zero target source = absurd (source 0 (omega arith) refl)
restored_others (suc zero) target source = absurd (source 1 (omega arith) refl)
restored_others (suc (suc zero)) target source = absurd (target 0 (omega arith) refl)
restored_others (suc (suc (suc zero))) target source = refl
restored_others (suc (suc (suc (suc i)))) target source = refl

pub is_restored : Restores summed
is_restored = record {
  count = refl;
  lengths = restored_lengths;
  sums = sum_there;
  kept = kept_there;
  others = restored_others;
}

pub no_row_restored_behind : Restores ((0x01 ∷ []) ∷ (0x01 ∷ []) ∷ (0x47 ∷ []) ∷ (0x09 ∷ []) ∷ [] ∷ []) → ⊥
no_row_restored_behind h = absurd (omega (arith, h.count))

pub no_longer_source : Restores ((0x01 ∷ 0x00 ∷ []) ∷ (0x01 ∷ []) ∷ (0x47 ∷ []) ∷ (0x09 ∷ []) ∷ []) → ⊥
no_longer_source h = absurd (omega (arith, h.lengths 0))

pub no_other_sum_restored : Restores ((0x01 ∷ []) ∷ (0x01 ∷ []) ∷ (0x46 ∷ []) ∷ (0x09 ∷ []) ∷ []) → ⊥
no_other_sum_restored h = absurd (omega (arith, h.sums 0 0 (omega arith) (omega arith) (omega arith), first_sum))

pub no_row_left_blank : Restores ((0x01 ∷ []) ∷ (0x00 ∷ []) ∷ (0x47 ∷ []) ∷ (0x09 ∷ []) ∷ []) → ⊥
no_row_left_blank h = absurd (omega (arith, h.kept 1 0 (omega arith) (omega arith) (omega arith)))

not_a_source : (j : ℕ) → j < 2 → slice_index (0 ∷ 1 ∷ []) j ≡ 3 → ⊥
not_a_source zero l e = absurd (omega (arith, e))
not_a_source (suc zero) l e = absurd (omega (arith, e))
not_a_source (suc (suc j)) l e = absurd (omega arith)

pub no_other_row_restored : Restores ((0x01 ∷ []) ∷ (0x01 ∷ []) ∷ (0x47 ∷ []) ∷ (0x08 ∷ []) ∷ []) → ⊥
no_other_row_restored h =
    absurd (omega (arith, first_of (0x08 ∷ []) (0x09 ∷ []) (h.others 3 not_three not_a_source)))

-- the sources and the target are apart, and a target that is a source is not
pub are_apart : AreDisjoint (0 ∷ 1 ∷ []) (2 ∷ [])
are_apart zero zero p q e = absurd (omega (arith, e))
are_apart (suc zero) zero p q e = absurd (omega (arith, e))
are_apart (suc (suc i)) j p q e = absurd (omega arith)
are_apart i (suc j) p q e = absurd (omega arith)

pub no_source_is_target : AreDisjoint (0 ∷ 1 ∷ []) (1 ∷ []) → ⊥
no_source_is_target h = h 1 0 (omega arith) (omega arith) refl

-- ---- of the positions 0 to 3 the rows 1 and 2 are present, and 0 and 3 are lost
abbrev pub present : ℕ → ℕ
present i = slice_index (1 ∷ 2 ∷ []) i

abbrev pub lost : ℕ → ℕ
lost e = slice_index (0 ∷ 3 ∷ []) e

pub splits : Splits 4 2 2 present lost
splits =
    let at_0 = split_with_lost 0 0 0 present lost (split_none present lost) refl in
    let at_1 = split_with_present 1 0 1 present lost at_0 refl in
    let at_2 = split_with_present 2 1 1 present lost at_1 refl in
    split_with_lost 3 2 1 present lost at_2 refl

pub no_count_but_all : Splits 5 2 2 present lost → ⊥
no_count_but_all h = absurd (omega (arith, h.count))

pub no_present_beyond : Splits 4 2 2 (λ i. slice_index (1 ∷ 4 ∷ []) i) lost → ⊥
no_present_beyond h = absurd (omega (arith, h.present_below 1 (omega arith)))

pub no_lost_beyond : Splits 4 2 2 present (λ e. slice_index (0 ∷ 4 ∷ []) e) → ⊥
no_lost_beyond h = absurd (omega (arith, h.lost_below 1 (omega arith)))

pub no_lost_out_of_order : Splits 4 2 2 present (λ e. slice_index (3 ∷ 0 ∷ []) e) → ⊥
no_lost_out_of_order h = absurd (omega (arith, h.lost_ascend 0 1 (omega arith) (omega arith)))

pub no_position_both : Splits 4 2 2 present (λ e. slice_index (0 ∷ 2 ∷ []) e) → ⊥
no_position_both h = h.apart 1 1 (omega arith) (omega arith) refl

-- position 2 is neither
pub no_position_left_out : Splits 4 2 2 (λ i. slice_index (1 ∷ 1 ∷ []) i) lost → ⊥
no_position_left_out h = elim (h.covers 2 (omega arith)) [
  | inl (i, below, is) ↦ never_two i below is
  | inr (e, below, is) ↦ not_lost e below is
]
  where
    never_two : (i : ℕ) → i < 2 → slice_index (1 ∷ 1 ∷ []) i ≡ 2 → ⊥
    never_two zero l e = absurd (omega (arith, e))
    never_two (suc zero) l e = absurd (omega (arith, e))
    never_two (suc (suc i)) l e = absurd (omega arith)

    not_lost : (i : ℕ) → i < 2 → slice_index (0 ∷ 3 ∷ []) i ≡ 2 → ⊥
    not_lost zero l e = absurd (omega (arith, e))
    not_lost (suc zero) l e = absurd (omega (arith, e))
    not_lost (suc (suc i)) l e = absurd (omega arith)

-- a position that stands twice: 0 and 0 in place of 0 and 1
pub no_position_twice : Splits 2 2 0 (λ i. 0) lost → ⊥
no_position_twice h = absurd (omega (arith, h.sums (λ p. p)))
