use Rattle.std.proofs.Common.{◌≡◌, replicate}
use Rattle.cb_member.specs.Membership.{fresh_node}
use Rattle.cb_member.proofs.members.Members.new.Given as goal

abbrev pub invariant-loop : goal.invariant-loop
invariant-loop l = l.all.items ≡ replicate l.counter fresh_node
