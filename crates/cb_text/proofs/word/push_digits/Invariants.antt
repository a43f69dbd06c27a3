use Rattle.std.proofs.Common.{◌≡◌, ◌++◌, length}
use Rattle.std.specs.Io.{StartsWith}
use Rattle.hex.specs.Hex.{encode_lower}
use Rattle.cb_text.proofs.word.push_digits.Given as goal

-- what is left to add makes the text whole, and it begins with what it was
abbrev pub invariant-loop-rest : goal.invariant-loop-rest
invariant-loop-rest l =
    (l.text.items ++ encode_lower l.rest ≡ l.fn.text.items ++ encode_lower l.bytes)
    × StartsWith l.text.items l.fn.text.items

abbrev pub decreases-loop-rest : goal.decreases-loop-rest
decreases-loop-rest l = length l.rest
