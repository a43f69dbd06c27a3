use Rattle.std.proofs.Common.{◌≡◌, ℕ, ◌<◌, get_or}
use Rattle.cb_member.specs.declared.names.Shard.{Shard}
use Rattle.cb_compact.proofs.looking.are_same.Given as goal

abbrev pub invariant-loop-i : goal.invariant-loop-i
invariant-loop-i l = (k : ℕ) (d : Shard) → k < l.i → get_or l.a k d ≡ get_or l.b k d
