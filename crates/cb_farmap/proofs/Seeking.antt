-- The keys among the first pairs of an object.
use Rattle.std.proofs.Common.{◌≡◌, ℕ, ◌*◌, ◌<◌, ◌≤◌, List, length, take, sym, ap, ◌∙◌, arith}
use Rattle.std.proofs.lemmas.List.{get_or-take, length-take-le}
use Rattle.cb_farmap.specs.Numbers.{number_at, pairs}
use Rattle.cb_farmap.specs.Pairs.{Pair, HasNot, IsFirst, pair_of}
use Rattle.cb_farmap.proofs.PairNumbers.{long_pairs, pair_is}

module _ (bytes : List ℕ) (few : ℕ) (low : few ≤ 64) where
  pub few_long : length (take few (pairs bytes)) ≡ few
  few_long = length-take-le few (pairs bytes) (let n = long_pairs bytes in omega (arith, low, n))

  key_in : (i : ℕ) → i < few → (pair_of (take few (pairs bytes)) i).0 ≡ number_at bytes (2 * i)
  key_in i less = ap (λ (p : Pair). p.0)
      (get_or-take few (pairs bytes) i (0, 0) less ∙ pair_is bytes i (omega (arith, less, low)))

  pub found_first : (i key : ℕ) → i < few → number_at bytes (2 * i) ≡ key
      → ((j : ℕ) → j < i → number_at bytes (2 * j) ≡ key → ⊥) → IsFirst key (take few (pairs bytes)) i
  found_first i key less is none = (
    (let n = few_long in omega (arith, less, n)),
    key_in i less ∙ is,
    λ j below same. none j below (sym (key_in j (omega (arith, below, less))) ∙ same),
  )

  pub found_none : (key : ℕ) → ((j : ℕ) → j < few → number_at bytes (2 * j) ≡ key → ⊥)
      → HasNot key (take few (pairs bytes))
  found_none key none i less same = let below : i < few = (let n = few_long in omega (arith, less, n)) in
      none i below (sym (key_in i below) ∙ same)
