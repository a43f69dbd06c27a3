use Rattle.std.proofs.Common.{length}
use Rattle.cb_rma_text.proofs.Front.{FrontIsRead}
use Rattle.cb_rma_text.proofs.read.events_of.Given as goal

-- the events that were read are those of the text but for the rest
abbrev pub invariant-loop-rest : goal.invariant-loop-rest
invariant-loop-rest l = FrontIsRead l.text l.events.items l.rest

abbrev pub decreases-loop-rest : goal.decreases-loop-rest
decreases-loop-rest l = length l.rest
