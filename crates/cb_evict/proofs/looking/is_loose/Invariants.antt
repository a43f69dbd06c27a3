use Rattle.std.proofs.Common.{List}
use Rattle.cb_world.specs.declared.access.Access.{Access}
use Rattle.cb_evict.specs.Events.{TouchesOnly, OnlyLooks}
use Rattle.cb_evict.proofs.Slots.{HasBelow, SeesBelow, FindsBelow}
use Rattle.cb_evict.proofs.looking.is_loose.Given as goal

-- the objects in the earlier slots were looked at, and each of them can be claimed, or one can't
abbrev pub invariant-loop-slot : goal.invariant-loop-slot
invariant-loop-slot g l = (es : List Access) × g.D.Desk.run l.fn.desk es l.desk × OnlyLooks es
    × TouchesOnly (HasBelow l.span l.slot-index) (λ p. ⊥) es
    × SeesBelow l.span l.slot-index es × FindsBelow l.loose l.span l.slot-index es
