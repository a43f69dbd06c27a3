use Rattle.std.proofs.Common.{◌≡◌, None, replicate}
use Rattle.cb_world.proofs.homes.Homes.new.Given as goal

abbrev pub invariant-loop : goal.invariant-loop
invariant-loop l = l.homes.items ≡ replicate l.counter None
