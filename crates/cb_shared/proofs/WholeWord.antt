-- A write over a whole word.
use Rattle.std.proofs.Common.{◌≡◌, ◌⊎◌, ℕ, ◌+◌, ◌-◌, ◌<◌, ◌≤◌, ◌∙◌, List, length, get_or, take}
use Rattle.std.proofs.Common.{drop, sym, ap, subst, arith, inl, inr}
use Rattle.std.proofs.lemmas.Bool.{cases_lt}
use Rattle.std.proofs.lemmas.List.{get_or_past, get_or-drop, get_or-take, length-drop}
use Rattle.std.proofs.lemmas.List.{length-take-le}
use Rattle.std.proofs.lemmas.Nat.{le_bytes_8}
use Rattle.std.specs.Int.{from_le_bytes, to_le_bytes, w64}
use Rattle.byteorder.specs.Endian.{little_number}
use Rattle.cb_mutate.specs.Merged.{IsWordMerged}

-- eight bytes from the place k on
module _ (bytes : List ℕ) (k : ℕ) (fits : k + 8 ≤ length bytes) where
  abbrev part : List ℕ
  part = take 8 (drop k bytes)

  part_length : length part ≡ 8
  part_length = let d = length-drop k bytes in
      length-take-le 8 (drop k bytes) (omega (arith, d, fits))

  part_at : (j : ℕ) → j < 8 → get_or part j 0 ≡ get_or bytes (k + j) 0
  part_at j low = get_or-take 8 (drop k bytes) j 0 low ∙ get_or-drop k bytes j 0

  part_below : ((i : ℕ) → get_or bytes i 0 < 256) → (j : ℕ) → get_or part j 0 < 256
  part_below below j = go (cases_lt j 8)
    where
      go : (j < 8) ⊎ (8 ≤ j) → get_or part j 0 < 256
      go (inl low) = subst (λ (n : ℕ). n < 256) (sym (part_at j low)) (below (k + j))
      go (inr high) = subst (λ (n : ℕ). n < 256)
          (sym (get_or_past part j 0 (let l = part_length in omega (arith, l, high))))
          (omega arith)

-- the word of these bytes is the merged one over any old word
pub whole_merged : (old first at x : ℕ) (bytes : List ℕ) → at ≤ first
    → first + 8 ≤ at + length bytes → ((i : ℕ) → get_or bytes i 0 < 256)
    → x ≡ little_number 8 (take (first - at + 8 - (first - at)) (drop (first - at) bytes))
    → IsWordMerged old first at bytes x
whole_merged old first at x bytes from end below read =
    let k = first - at in
    let fits : k + 8 ≤ length bytes = omega (arith, from, end) in
    let l : List ℕ = part bytes k fits in
    let count : k + 8 - k ≡ 8 = omega arith in
    let eight : little_number 8 l ≡ from_le_bytes w64 l = omega arith in
    let same : to_le_bytes w64 x ≡ l = le_bytes_8 l x (part_length bytes k fits)
    (part_below bytes k fits below)
    (read ∙ ap (λ (n : ℕ). little_number 8 (take n (drop k bytes))) count ∙ eight) in
    record {
      sized = ap length same ∙ part_length bytes k fits;
      bytes_below = λ j. subst (λ (m : List ℕ). get_or m j 0 < 256) (sym same)
          (part_below bytes k fits below j);
      inside = λ j low _ _. ap (λ (m : List ℕ). get_or m j 0) same ∙ part_at bytes k fits j low
          ∙ (let e : k + j ≡ first + j - at = omega (arith, from) in
          ap (λ (n : ℕ). get_or bytes n 0) e);
      outside = λ j low off. absurd (none j low off);
    }
  where
    none : (j : ℕ) → j < 8 → (8 ≤ j) ⊎ ((first + j < at) ⊎ (at + length bytes ≤ first + j)) → ⊥
    none j low (inl high) = omega (arith, low, high)
    none j low (inr (inl before)) = omega (arith, from, before)
    none j low (inr (inr behind)) = omega (arith, low, end, behind)
