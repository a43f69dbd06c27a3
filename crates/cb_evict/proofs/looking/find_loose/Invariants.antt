use Rattle.std.proofs.Common.{◌≤◌, List, take}
use Rattle.std.specs.Prelude.{vec_len, vec_capacity}
use Rattle.cb_world.specs.declared.access.Access.{Access}
use Rattle.cb_evict.specs.Candidates.{AreLoose}
use Rattle.cb_evict.specs.Events.{TouchesOnly, OnlyLooks}
use Rattle.cb_evict.specs.Looking.{IsIn}
use Rattle.cb_evict.proofs.looking.find_loose.Given as goal

-- the spans in the earlier frames were looked at
abbrev pub invariant-loop-frame : goal.invariant-loop-frame
invariant-loop-frame g l = (es : List Access) × g.D.Desk.run l.fn.desk es l.desk × OnlyLooks es
    × TouchesOnly (IsIn l.spans (take l.frame-index l.frames)) (λ p. ⊥) es
    × AreLoose es l.spans (take l.frame-index l.frames) l.loose.items
    × (vec_capacity l.fn.loose ≤ vec_capacity l.loose) × (vec_len l.loose ≤ l.frame-index)
