-- Bytes are put in place of others.
use Rattle.std.proofs.Common.{◌≡◌, ◌⊎◌, ℕ, ◌+◌, ◌-◌, ◌<◌, ◌≤◌, List, ◌++◌, length}
use Rattle.std.proofs.Common.{get_or, take, drop, sym, ap, ◌∙◌, arith, inl, inr}
use Rattle.std.proofs.lemmas.List.{get_or_append_left, get_or-append-add}
use Rattle.std.proofs.lemmas.List.{get_or-append_right, get_or-drop, get_or-take, length-append}
use Rattle.std.proofs.lemmas.List.{length-drop, length-take-le}

-- a list with so many of its elements, from a place on, replaced by the first of another
abbrev pub replaced : ℕ → ℕ → List ℕ → List ℕ → List ℕ
replaced a e old b = take a old ++ take e b ++ drop (a + length (take e b)) old

module _ (a e : ℕ) (old b : List ℕ) (fits : a + e ≤ length old) (long : e ≤ length b) where
  front : length (take a old) ≡ a
  front = length-take-le a old (omega (arith, fits))

  middle : length (take e b) ≡ e
  middle = length-take-le e b long

  both : length (take a old ++ take e b) ≡ a + e
  both = let n = length-append (take a old) (take e b) in omega (arith, n, front, middle)

  pub replaced_inside : (j : ℕ) → j < e → get_or (replaced a e old b) (a + j) 0 ≡ get_or b j 0
  replaced_inside j less =
      get_or_append_left (take a old ++ take e b) (drop (a + length (take e b)) old) 0 (a + j)
      (omega (arith, both, less))
      ∙ ap (λ (n : ℕ). get_or (take a old ++ take e b) (n + j) 0) (sym front)
      ∙ get_or-append-add (take a old) (take e b) j 0
      ∙ get_or-take e b j 0 less

  pub replaced_outside : (p : ℕ) → (p < a) ⊎ (a + e ≤ p)
      → get_or (replaced a e old b) p 0 ≡ get_or old p 0
  replaced_outside p (inl less) =
      get_or_append_left (take a old ++ take e b) (drop (a + length (take e b)) old) 0 p
      (omega (arith, both, less))
      ∙ get_or_append_left (take a old) (take e b) 0 p (omega (arith, front, less))
      ∙ get_or-take a old p 0 less
  replaced_outside p (inr more) =
      get_or-append_right (take a old ++ take e b) (drop (a + length (take e b)) old) (a + e) p 0
      both more
      ∙ get_or-drop (a + length (take e b)) old (p - (a + e)) 0
      ∙ (let z : a + length (take e b) + (p - (a + e)) ≡ p = omega (arith, middle, more) in
      ap (λ (n : ℕ). get_or old n 0) z)

  pub replaced_length : length (replaced a e old b) ≡ length old
  replaced_length =
      let n = length-append (take a old ++ take e b) (drop (a + length (take e b)) old) in
      let d = length-drop (a + length (take e b)) old in
      omega (arith, n, d, both, middle, fits)
