use Rattle.std.proofs.Common.{ℕ, length}
use Rattle.cb_world.specs.SetsFrom.{AreFrom}
use Rattle.cb_rebuild.proofs.Walking.{WalkedSets}
use Rattle.cb_rebuild.proofs.finding.find_weak.Given as goal

-- the sets before some number were looked at, and those from it on are left
abbrev pub invariant-loop-id : goal.invariant-loop-id
invariant-loop-id l = (from : ℕ) × WalkedSets l.far from l.gone × AreFrom l.far.sets from l.sets

abbrev pub decreases-loop-id : goal.decreases-loop-id
decreases-loop-id l = length l.sets
