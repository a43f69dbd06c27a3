-- What is taken of an input.
use Rattle.std.specs.Prelude.{◌≡◌, ℕ, ◌≤◌, ◌⊎◌, List, length, take, Option}
use Rattle.std.specs.Io.KnownBytes.{Consumes, IsAtEnd}

-- The bytes that were taken, all there were or as many as may be taken. The two options are what the
-- source had and has left, where it tells.
pub record AreBytesTaken (before after : Option (List ℕ)) (bytes : List ℕ) : Type 0 where
  pub front : Consumes before after bytes
  pub few : length bytes ≤ 1048577
  pub whole : IsAtEnd after ⊎ (length bytes ≡ 1048577)

-- the bytes that are taken of an input: all, or as many as may be taken
abbrev pub taken_of : List ℕ → List ℕ
taken_of input = take 1048577 input
