use Rattle.std.proofs.Common.{◌≡◌, ◌++◌, take}
use Rattle.cb_script.specs.Cut.{texts}
use Rattle.cb_script.specs.Spelling.{words_of}
use Rattle.cb_script.proofs.cut.words_into.Given as goal

-- the words so far stand in their places, and the others are in the rest
abbrev pub invariant-loop-i : goal.invariant-loop-i
invariant-loop-i l = words_of l.fn.text ≡ texts (take l.i l.words) ++ words_of l.rest
