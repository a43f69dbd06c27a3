use Rattle.std.proofs.Common.{◌≡◌, ℕ, ◌<◌, None, false, get_or, is_none}
use Rattle.cb_span.proofs.span.least_none.Given as goal

abbrev pub invariant-loop-i : goal.invariant-loop-i
invariant-loop-i l = (k : ℕ) → k < l.i → is_none (get_or l.slots k None) ≡ false
