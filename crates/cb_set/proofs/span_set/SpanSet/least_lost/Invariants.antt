use Rattle.std.proofs.Common.{◌≡◌, ℕ, ◌<◌, false, get_or}
use Rattle.cb_member.specs.declared.names.Shard.{Shard}
use Rattle.cb_set.specs.Lost.{is_lost}
use Rattle.cb_set.proofs.span_set.SpanSet.least_lost.Given as goal

abbrev pub invariant-loop-place : goal.invariant-loop-place
invariant-loop-place l =
    (k : ℕ) (d : Shard) → k < l.place → is_lost l.m (get_or l.shard-items k d) ≡ false
