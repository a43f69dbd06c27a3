use Rattle.std.proofs.Common.{ℕ, length}
use Rattle.cb_world.specs.SetsFrom.{AreFrom}
use Rattle.cb_compact.specs.Candidates.{AreFirsts, AreSeen, AreWholeBut}
use Rattle.cb_compact.proofs.Groups.{group_cmp}
use Rattle.cb_compact.proofs.candidates.firsts.Given as goal

-- the sets before some number were looked at, and those from it on are left
abbrev pub invariant-loop-id : goal.invariant-loop-id
invariant-loop-id l = (from : ℕ) × AreFirsts l.far from l.firsts.found.items
    × AreFrom l.far.sets from l.sets × AreSeen group_cmp l.firsts.found.items l.seen
    × AreWholeBut l.far from l.firsts.others.items

abbrev pub decreases-loop-id : goal.decreases-loop-id
decreases-loop-id l = length l.sets
