use Rattle.std.proofs.Common.{arith, sym}
use Rattle.cb_evict.proofs.WhichWait.{least_is, least_none}
use Rattle.cb_evict.proofs.waiting.least_waiting.Goals as goal

pub returns-then-is_waiting-clause-least : goal.returns-then-is_waiting-clause-least
returns-then-is_waiting-clause-least c =
    sym (least_is c.args.members.now c.args.shards.now c.loop-p.p c.loop-p-test.true
    (sym c.if-is_waiting.ensures) c.loop-p.invariant)

pub returns-clause-least : goal.returns-clause-least
returns-clause-least c =
    sym (least_none c.args.members.now c.args.shards.now
    (λ k below. c.loop-p.invariant k (omega (arith, c.loop-p-test.false, below))))
