-- Worked examples of loose spans by their lengths, of any spans that have these; a world with spans
-- of three lengths, and a batch of it, stand in WorkedThreeLengths.
use Rattle.std.proofs.Common.{◌≡◌, ℕ, max, Bool, cond, nat_eq, List, [], ◌∷◌, length, take, Option, None, Some, sym, ap, ◌∙◌, arith}
use Rattle.cb_span.specs.Contents.{Contents}
use Rattle.cb_world.specs.FarState.{pages_at}
use Rattle.cb_evict.specs.Lengths.{batch_pages, loose_of, most_loose, without}
use Rattle.cb_evict.proofs.LooseLengths.{most_is, of_four, of_none, of_one}
use Rattle.cb_evict.proofs.Options.{none_some, some_same}

-- of five frames those whose lengths are p
abbrev pick : Bool → ℕ → List ℕ → List ℕ
pick b f rest = cond b (f ∷ rest) rest

abbrev those : (p v w x y z : ℕ) → List ℕ
those p v w x y z = pick (nat_eq v p) 0 (pick (nat_eq w p) 1 (pick (nat_eq x p) 2
    (pick (nat_eq y p) 3 (pick (nat_eq z p) 4 []))))

abbrev all : List ℕ
all = 0 ∷ 1 ∷ 2 ∷ 3 ∷ 4 ∷ []

-- ---- spans of 1, 4, 1, 2 and 1 pages
module _ (spans : List (Option Contents)) (a : pages_at spans 0 ≡ 1) (b : pages_at spans 1 ≡ 4)
    (c : pages_at spans 2 ≡ 1) (d : pages_at spans 3 ≡ 2) (e : pages_at spans 4 ≡ 1) where
  by_lengths : (p : ℕ) → loose_of spans p all ≡ those p 1 4 1 2 1
  by_lengths p = λ i. those p (a i) (b i) (c i) (d i) (e i)

  ones : loose_of spans 1 all ≡ 0 ∷ 2 ∷ 4 ∷ []
  ones = by_lengths 1

  twos : loose_of spans 2 all ≡ 3 ∷ []
  twos = by_lengths 2

  fours : loose_of spans 4 all ≡ 1 ∷ []
  fours = by_lengths 4

  -- no span has three pages
  threes : loose_of spans 3 all ≡ []
  threes = by_lengths 3

  -- the most of one length, and not of all
  most : most_loose spans all ≡ 3
  most = most_is spans all
      ∙ (λ i. max (length (fours i)) (max (length (twos i)) (length (ones i))))

  not_all : most_loose spans all ≡ 5 → ⊥
  not_all is = omega (arith, most, is)

  -- the greatest length that has enough: where one is enough 4 pages, though more have 1
  one_is_enough : batch_pages 1 spans all ≡ Some 4
  one_is_enough =
      let n = ap (λ (l : List ℕ). length l) fours in of_four 1 spans all (omega (arith, n))

  not_the_smallest : batch_pages 1 spans all ≡ Some 1 → ⊥
  not_the_smallest is = let same = some_same 4 1 (sym one_is_enough ∙ is) in omega (arith, same)

  -- where two are it is 1 page
  two_are : batch_pages 2 spans all ≡ Some 1
  two_are =
      let n = ap (λ (l : List ℕ). length l) fours in let m = ap (λ (l : List ℕ). length l) twos in
      let k = ap (λ (l : List ℕ). length l) ones in
      of_one 2 spans all (omega (arith, n)) (omega (arith, m)) (omega (arith, k))

  -- and four of one length there are not, though there are five spans
  four_are_not : batch_pages 4 spans all ≡ None
  four_are_not =
      let n = ap (λ (l : List ℕ). length l) fours in let m = ap (λ (l : List ℕ). length l) twos in
      let k = ap (λ (l : List ℕ). length l) ones in
      of_none 4 spans all (omega (arith, n)) (omega (arith, m)) (omega (arith, k))

  not_of_any : (pages : ℕ) → batch_pages 4 spans all ≡ Some pages → ⊥
  not_of_any pages is = none_some pages (sym four_are_not ∙ is)

  -- the first ones of the length, and not those of the length among the first ones
  first_ones : take 2 (loose_of spans 1 all) ≡ 0 ∷ 2 ∷ []
  first_ones = ap (take 2) ones

  among_first : loose_of spans 1 (take 2 all) ≡ 0 ∷ []
  among_first = λ i. pick (nat_eq (a i) 1) 0 (pick (nat_eq (b i) 1) 1 [])

  -- a span that is lost is one fewer of its length, and of no other
  one_lost : loose_of spans 1 (without (nat_eq 2) all) ≡ 0 ∷ 4 ∷ []
  one_lost = λ i. pick (nat_eq (a i) 1) 0 (pick (nat_eq (b i) 1) 1 (pick (nat_eq (d i) 1) 3
      (pick (nat_eq (e i) 1) 4 [])))

  others_there : loose_of spans 4 (without (nat_eq 2) all) ≡ 1 ∷ []
  others_there = λ i. pick (nat_eq (a i) 4) 0 (pick (nat_eq (b i) 4) 1 (pick (nat_eq (d i) 4) 3
      (pick (nat_eq (e i) 4) 4 [])))
