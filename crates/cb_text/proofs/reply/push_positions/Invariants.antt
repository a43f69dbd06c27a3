use Rattle.std.proofs.Common.{◌≡◌, ◌++◌, take}
use Rattle.std.specs.List.{flat_map}
use Rattle.cb_text.specs.Line.{position_text}
use Rattle.cb_text.proofs.reply.push_positions.Given as goal

-- the text has the positions so far
abbrev pub invariant-loop-position : goal.invariant-loop-position
invariant-loop-position l =
    l.text.items ≡ l.fn.text.items ++ flat_map position_text (take l.position-index l.positions)
