-- The first so many of all pairs of a bucket, of which one is written, added or dropped.
use Rattle.std.proofs.Common.{◌≡◌, ℕ, suc, ◌+◌, ◌-◌, ◌<◌, ◌≤◌, List, [], ◌∷◌, ◌++◌, length, slice_set, take, refl, sym, ap, ◌∙◌, arith}
use Rattle.std.proofs.lemmas.List.{get_or-take, length-take-le, set-get_or, take-take, take_all}
use Rattle.cb_farmap.specs.Pairs.{Pair, dropped, pair_of}
use Rattle.cb_farmap.proofs.Pieces.{take_more, take_set}

-- a pair more, in the next place
pub take_next : (l : List Pair) (n : ℕ) (p : Pair) → n < length l
    → take (n + 1) (slice_set l n p) ≡ take n l ++ p ∷ []
take_next l n p within = (let e : n + 1 ≡ suc n = omega arith in ap (λ (m : ℕ). take m (slice_set l n p)) e)
    ∙ take_more l n p within

-- or the first of more
next_more : (l more : List Pair) → 0 < length more → take (suc (length l)) (l ++ more) ≡ l ++ pair_of more 0 ∷ []
next_more [] [] some = absurd (omega (arith, some))
next_more [] (p ∷ more) some = refl
next_more (y ∷ l) more some = ap (λ (m : List Pair). y ∷ m) (next_more l more some)

pub take_added : (l more : List Pair) (n : ℕ) → n ≡ length l → 0 < length more
    → take (n + 1) (l ++ more) ≡ take n l ++ pair_of more 0 ∷ []
take_added l more n e some =
    (let z : n + 1 ≡ suc (length l) = omega (arith, e) in ap (λ (m : ℕ). take m (l ++ more)) z)
    ∙ next_more l more some
    ∙ ap (λ (m : List Pair). m ++ pair_of more 0 ∷ []) (sym (take_all n l (omega (arith, e))))

-- a pair less: the last one stands in the gap, or was the one
module _ (l : List Pair) (n i : ℕ) (within : i < n) (fits : n ≤ length l) where
  long : length (take n l) ≡ n
  long = length-take-le n l fits

  abbrev last_pair : Pair
  last_pair = pair_of l (n - 1)

  last_is : pair_of (take n l) (length (take n l) - 1) ≡ last_pair
  last_is = ap (λ (m : ℕ). pair_of (take n l) (m - 1)) long ∙ get_or-take n l (n - 1) (0, 0) (omega (arith, within))

  pub take_dropped : take (n - 1) (slice_set l i last_pair) ≡ dropped (take n l) i
  take_dropped = sym (take-take (n - 1) n (slice_set l i last_pair) (omega arith))
      ∙ ap (take (n - 1)) (take_set l n i last_pair)
      ∙ ap (λ (m : ℕ). take (m - 1) (slice_set (take n l) i last_pair)) (sym long)
      ∙ ap (λ (p : Pair). take (length (take n l) - 1) (slice_set (take n l) i p)) (sym last_is)

  pub take_last : i ≡ n - 1 → take (n - 1) l ≡ dropped (take n l) i
  take_last e = ap (take (n - 1)) (sym (set-get_or l i (0, 0)) ∙ ap (λ (m : ℕ). slice_set l i (pair_of l m)) e)
      ∙ take_dropped
