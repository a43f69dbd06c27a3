-- Where a put of a part of a text ends.
use Rattle.std.specs.Prelude.{◌≡◌, ◌⊎◌, ℕ, ◌+◌, ◌-◌, ◌<◌, ◌≤◌, List, length, get_or}

-- A put of what is after so many bytes ends here: it takes a byte at least and 4,096 at the most.
-- Where a line ends among the bytes that it may take, it ends after the last such end; else it
-- takes all that it may.
pub record IsPutEnd (bytes : List ℕ) (done end : ℕ) : Type 0 where
  pub more : done < end
  pub within : end ≤ length bytes
  pub few : end ≤ done + 4096
  pub line : (i : ℕ) → done ≤ i → i < done + 4096 → i < length bytes → get_or bytes i 0 ≡ 10
      → (i < end) × (get_or bytes (end - 1) 0 ≡ 10)
  pub all : (get_or bytes (end - 1) 0 ≡ 10) ⊎ ((end ≡ length bytes) ⊎ (end ≡ done + 4096))
