use Rattle.std.proofs.Common.{◌≡◌, ℕ, ◌<◌, true, length, get_or}
use Rattle.cb_set.specs.SetState.{dead_position}
use Rattle.cb_set.proofs.matched.live_apart.Given as goal

abbrev pub invariant-loop-x : goal.invariant-loop-x
invariant-loop-x l =
    (k : ℕ) → k < length l.yielded → (get_or l.a k dead_position).live ≡ true
    → (get_or l.b k dead_position).live ≡ true → ⊥
