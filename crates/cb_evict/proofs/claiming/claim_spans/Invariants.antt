use Rattle.std.proofs.Common.{◌*◌, ◌≤◌, List, length}
use Rattle.std.specs.Prelude.{vec_capacity}
use Rattle.cb_world.specs.declared.access.Access.{Access}
use Rattle.cb_evict.proofs.Trying.{Tried}
use Rattle.cb_evict.proofs.claiming.claim_spans.Given as goal

-- the spans in the earlier frames were tried
abbrev pub invariant-loop-frame : goal.invariant-loop-frame
invariant-loop-frame g l = (es : List Access)
    × Tried (λ fs. g.D.Desk.run l.fn.desk fs l.desk) (λ s. g.D.Desk.shows l.fn.desk s)
    l.spans l.loose l.pages l.frame-index es l.frames.items l.formers.items
    × (length l.frames.items ≤ l.k) × (l.k ≤ vec_capacity l.frames)
    × (256 * l.k ≤ vec_capacity l.formers)
    × (length l.formers.items ≤ 256 * length l.frames.items)
    × (vec_capacity l.fn.frames ≤ vec_capacity l.frames)
    × (vec_capacity l.fn.formers ≤ vec_capacity l.formers)
