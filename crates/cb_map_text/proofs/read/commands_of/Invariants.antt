use Rattle.std.proofs.Common.{length}
use Rattle.cb_map_text.proofs.Front.{FrontIsRead}
use Rattle.cb_map_text.proofs.read.commands_of.Given as goal

-- the commands that were read are those of the text but for the rest
abbrev pub invariant-loop-rest : goal.invariant-loop-rest
invariant-loop-rest l = FrontIsRead l.text l.commands l.rest

abbrev pub decreases-loop-rest : goal.decreases-loop-rest
decreases-loop-rest l = length l.rest
