use Rattle.std.proofs.Common.{◌≡◌, drop}
use Rattle.cb_rma.proofs.sender.drop_front.Given as goal

abbrev pub invariant-loop : goal.invariant-loop
invariant-loop l = l.waiting.items ≡ drop l.counter l.initial.waiting.items
