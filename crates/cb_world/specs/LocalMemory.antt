-- The words of local memory, of which those after the first ones are 0.
use Rattle.std.specs.Prelude.{ℕ, ◌-◌, List, ◌++◌, length, replicate}

-- so many words: these first, and zeros after them
abbrev pub padded : List ℕ → ℕ → List ℕ
padded words count = words ++ replicate (count - length words) 0
