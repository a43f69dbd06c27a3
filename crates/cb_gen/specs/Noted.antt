-- What is kept beside the lines that were drawn so far.
use Rattle.std.specs.Prelude.{◌≡◌, ℕ, List, [], length, get_or}
use Rattle.cb_script.specs.declared.script.Line.{Line}
use Rattle.cb_gen.specs.Drawn.{lengths_of}

-- The lists have the lengths of the objects that each lane made on these lines.
pub record AreLengthsNoted (lists : List (List ℕ)) (lines : List Line) : Type 0 where
  pub places : length lists ≡ 16
  pub noted : (lane : ℕ) → get_or lists lane [] ≡ lengths_of lines lane
