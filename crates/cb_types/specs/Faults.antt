-- Counts of the faults of reading and writing.
use Rattle.std.specs.Prelude.{◌≡◌, ℕ, ◌-◌, ◌^◌, ◌<◌, ◌≤◌, ◌⊎◌}

-- a count rose: it is greater than it was, or it stands at the end of its type, as it did
abbrev pub Rose : ℕ → ℕ → Type 0
Rose before after = (before < after) ⊎ ((before ≡ after) × (2 ^ 64 - 1 ≤ before))

-- the count of faults of what never fails
abbrev pub never : ℕ
never = 0
