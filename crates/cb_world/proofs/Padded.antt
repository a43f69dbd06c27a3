-- Words with zeros behind them.
use Rattle.std.proofs.Common.{◌≡◌, ℕ, ◌-◌, ◌≤◌, List, ◌++◌, length, replicate, take, ap, ◌∙◌, arith, append_assoc, length-append}
use Rattle.std.proofs.lemmas.List.{length-replicate, replicate-append-replicate, take_all}
use Rattle.cb_world.specs.LocalMemory.{padded}

abbrev zeros : ℕ → List ℕ
zeros n = replicate n 0

-- zeros that are written out are the ones that were behind
pub padded_longer : (words : List ℕ) (n count : ℕ) → length words ≤ n → n ≤ count
    → padded (take n words ++ zeros (n - length words)) count ≡ padded words count
padded_longer words n count some more =
    ap (λ (l : List ℕ). padded (l ++ zeros (n - length words)) count) (take_all n words some)
    ∙ ap (λ (m : ℕ). (words ++ zeros (n - length words)) ++ zeros (count - m)) long
    ∙ append_assoc words (zeros (n - length words)) (zeros (count - n))
    ∙ ap (λ (l : List ℕ). words ++ l) (replicate-append-replicate (n - length words) (count - n) 0)
    ∙ ap (λ (m : ℕ). words ++ zeros m) (omega (arith, some, more))
  where
    long : length (words ++ zeros (n - length words)) ≡ n
    long = let a = length-append words (zeros (n - length words)) in
        let b : length (zeros (n - length words)) ≡ n - length words =
        length-replicate (n - length words) 0 in omega (arith, a, b, some)
