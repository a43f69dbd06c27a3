-- What a sink has of a text that was cut short.
use Rattle.std.specs.Prelude.{ℕ, ◌<◌, List, length, take, Option}
use Rattle.std.specs.Io.KnownBytes.{Appends}

-- A sink got a front of the text, and not all of it.
abbrev pub GetsFront : Option (List ℕ) → Option (List ℕ) → List ℕ → Type 0
GetsFront before after text = (n : ℕ) × (n < length text) × Appends before after (take n text)
