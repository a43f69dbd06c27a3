-- Lower-case hexadecimal.
use Rattle.std.specs.Prelude.{◌≡◌, ◌<◌, ◌≤◌, ◌%◌, ◌⊎◌, ℕ, List, All, length}

-- a digit 0 to 9 or a letter a to f
abbrev pub IsLowerDigit : ℕ → Type 0
IsLowerDigit b = ((48 ≤ b) × (b ≤ 57)) ⊎ ((97 ≤ b) × (b ≤ 102))

-- two digits for each byte, and at least one byte
pub record IsHexadecimal (text : List ℕ) : Type 0 where
  pub some : 0 < length text
  pub even : length text % 2 ≡ 0
  pub each : All IsLowerDigit text
