-- One write on the words of an object.
use Rattle.std.specs.Prelude.{◌≡◌, ◌⊎◌, ℕ, ◌+◌, ◌*◌, ◌<◌, ◌≤◌, List, length, slice_index}
use Rattle.cb_world.specs.Memory.{memory_byte}

-- the words with one write as far as the byte n
pub record IsWriteBelow (n : ℕ) (old : List ℕ) (at : ℕ) (bytes : List ℕ) (new : List ℕ) : Type 0 where
  pub sized : length new ≡ length old
  pub inside : (i : ℕ) → i < length bytes → at + i < n
      → memory_byte new (at + i) ≡ slice_index bytes i
  pub outside : (p : ℕ) → p < 8 * length old → (n ≤ p) ⊎ ((p < at) ⊎ (at + length bytes ≤ p))
      → memory_byte new p ≡ memory_byte old p

-- the new words have these bytes from the position `at` on, and every other byte as it was
pub record IsWrite (old : List ℕ) (at : ℕ) (bytes : List ℕ) (new : List ℕ) : Type 0 where
  pub sized : length new ≡ length old
  pub inside : (i : ℕ) → i < length bytes → memory_byte new (at + i) ≡ slice_index bytes i
  pub outside : (p : ℕ) → p < 8 * length old → (p < at) ⊎ (at + length bytes ≤ p)
      → memory_byte new p ≡ memory_byte old p
