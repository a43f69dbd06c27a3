use Rattle.std.proofs.Common.{◌≡◌, ℕ, ◌+◌, ◌<◌, ◌≤◌, None}
use Rattle.cb_world.specs.FarState.{span_in}
use Rattle.cb_world.proofs.spans.Spans.holder.Given as goal

-- no span stands at the frames that were looked at
abbrev pub invariant-loop-back : goal.invariant-loop-back
invariant-loop-back l =
    (h : ℕ) → h ≤ l.fn.frame → l.fn.frame < h + l.back → span_in l.self h ≡ None
