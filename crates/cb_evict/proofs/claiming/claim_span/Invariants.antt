use Rattle.std.proofs.Common.{◌≡◌, ◌+◌, ◌≤◌, ◌++◌, List, take}
use Rattle.std.specs.Prelude.{vec_len, vec_capacity}
use Rattle.cb_world.specs.declared.leaving.Former.{Former}
use Rattle.cb_world.specs.declared.access.Access.{Access}
use Rattle.cb_evict.specs.Order.{noted_of, objects_in}
use Rattle.cb_evict.proofs.Gathers.{Gathers}
use Rattle.cb_evict.proofs.Slots.{HasBelow}
use Rattle.cb_evict.proofs.claiming.claim_span.Given as goal

-- the objects in the earlier slots are claimed
abbrev pub invariant-loop-slot : goal.invariant-loop-slot
invariant-loop-slot g l = (es : List Access) × (more : List Former)
    × Gathers (λ fs. g.D.Desk.run l.fn.desk fs l.desk) (λ s. g.D.Desk.shows l.fn.desk s)
    (HasBelow l.span l.slot-index) (HasBelow l.span l.slot-index) es more
    × (l.formers.items ≡ l.fn.formers.items ++ more)
    × (vec_capacity l.fn.formers ≤ vec_capacity l.formers)
    × (vec_len l.formers ≤ vec_len l.fn.formers + l.slot-index)
    × (noted_of more ≡ objects_in (take l.slot-index l.span.slots))
