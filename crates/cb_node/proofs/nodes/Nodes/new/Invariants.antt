use Rattle.std.proofs.Common.{◌≡◌, replicate}
use Rattle.std.specs.FinMap as map
use Rattle.cb_node.proofs.nodes.Nodes.new.Given as goal

abbrev pub invariant-loop : goal.invariant-loop
invariant-loop l = l.all.items ≡ replicate l.counter map.empty
