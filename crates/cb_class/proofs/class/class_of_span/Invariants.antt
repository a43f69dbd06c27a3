use Rattle.std.proofs.Common.{◌<◌}
use Rattle.cb_class.specs.declared.class.Class.{Class}
use Rattle.cb_class.specs.Class.{IsClassOfSpan}
use Rattle.cb_class.proofs.class.class_of_span.Given as goal

-- no class before the index is the one that is looked for
abbrev pub invariant-loop-index : goal.invariant-loop-index
invariant-loop-index l =
    (c : Class) → c.index < l.index → IsClassOfSpan l.page_count l.slot_count c → ⊥
