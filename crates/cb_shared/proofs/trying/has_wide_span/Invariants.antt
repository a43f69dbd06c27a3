use Rattle.std.proofs.Common.{◌≡◌, false, ltb, take}
use Rattle.std.specs.List.{list_any}
use Rattle.cb_world.specs.FarState.{pages_if}
use Rattle.cb_shared.proofs.trying.has_wide_span.Given as goal

abbrev pub invariant-loop-frame : goal.invariant-loop-frame
invariant-loop-frame l =
    list_any (λ span. ltb 1 (pages_if span)) (take l.frame l.spans) ≡ false
