use Rattle.std.proofs.Common.{◌≡◌, ℕ, ◌<◌, ◌*◌}
use Rattle.cb_farmap.specs.Numbers.{number_at}
use Rattle.cb_farmap.proofs.pairs.seek.Given as goal

abbrev pub invariant-loop-i : goal.invariant-loop-i
invariant-loop-i l = (j : ℕ) → j < l.i → number_at l.bytes (2 * j) ≡ l.key → ⊥
