use Rattle.std.proofs.Common.{◌≡◌}
use Rattle.cb_world.specs.Memory.{window}
use Rattle.cb_world.proofs.plain_desk.copy_words.Given as goal

-- the words so far
abbrev pub invariant-loop-i : goal.invariant-loop-i
invariant-loop-i l = l.words.items ≡ window l.memory l.place l.i
