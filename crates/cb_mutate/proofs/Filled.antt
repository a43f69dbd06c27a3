-- The bytes of an object are put into their room word by word.
use Rattle.std.proofs.Common.{◌≡◌, ◌⊎◌, ℕ, ◌+◌, ◌*◌, ◌/◌, ◌%◌, ◌<◌, ◌≤◌, List, length}
use Rattle.std.proofs.Common.{get_or, map, sym, ap, ◌∙◌, arith, inl, inr}
use Rattle.std.proofs.lemmas.Bool.{cases_lt}
use Rattle.std.proofs.lemmas.List.{ext_get_or}
use Rattle.std.proofs.lemmas.List.FromFn.{get_or-map-range_with_len, length-map-range_with_len}
use Rattle.std.specs.Int.{to_le_bytes, w64}
use Rattle.std.specs.List.{range_with_len}
use Rattle.cb_world.specs.Memory.{bytes_in, memory_byte}

-- the word with this number was put into the room, as far as it has place
pub record IsPutInto (old new : List ℕ) (i x : ℕ) : Type 0 where
  pub inside : (j : ℕ) → j < 8 → 8 * i + j < length old
      → get_or new (8 * i + j) 0 ≡ get_or (to_le_bytes w64 x) j 0
  pub outside : (p : ℕ) → (p < 8 * i) ⊎ (8 * i + 8 ≤ p) → get_or new p 0 ≡ get_or old p 0
  pub sized : length new ≡ length old

-- the bytes of the first i words stand in the room
abbrev pub AreBytesFilled : List ℕ → ℕ → List ℕ → Type 0
AreBytesFilled words i room =
    (p : ℕ) → p < 8 * i → p < length room → get_or room p 0 ≡ memory_byte words p

pub filled_more : (words old new : List ℕ) (i x : ℕ) → x ≡ get_or words i 0
    → IsPutInto old new i x → AreBytesFilled words i old → AreBytesFilled words (i + 1) new
filled_more words old new i x is put f p below within = go (cases_lt p (8 * i))
  where
    go : (p < 8 * i) ⊎ (8 * i ≤ p) → get_or new p 0 ≡ memory_byte words p
    go (inl less) = put.outside p (inl less)
        ∙ f p less (let s = put.sized in omega (arith, within, s))
    go (inr more) =
        let j = p % 8 in
        let at : p / 8 ≡ i = omega (arith, below, more) in
        let split : 8 * i + j ≡ p = omega (arith, at) in
        let low : j < 8 = omega arith in
        ap (λ (q : ℕ). get_or new q 0) (sym split)
        ∙ put.inside j low (let s = put.sized in omega (arith, within, s, split))
        ∙ ap (λ (w : ℕ). get_or (to_le_bytes w64 w) j 0)
        (is ∙ ap (λ (n : ℕ). get_or words n 0) (sym at))

pub filled_all : (words room : List ℕ) (n i : ℕ) → length room ≡ n → n ≤ 8 * i
    → AreBytesFilled words i room → room ≡ bytes_in words n
unfolding bytes_in
filled_all words room n i sized all f =
    ext_get_or 0 room (map (memory_byte words) (range_with_len 0 n))
    (sized ∙ sym (length-map-range_with_len (memory_byte words) 0 n))
    (λ k below. f k (omega (arith, below, sized, all)) below
    ∙ sym (get_or-map-range_with_len (memory_byte words) 0 n k k 0 (omega (arith, below, sized))
    (omega arith)))
