use Rattle.std.proofs.Common.{sym, arith}
use Rattle.cb_compact.proofs.Finding.{takes_at, takes_none}
use Rattle.cb_compact.proofs.steps.takes.Goals as goal

pub returns : goal.returns
returns c =
    sym (takes_none c.args.taken.now c.args.position
    (λ k below. c.loop-other.invariant k (let l = c.loop-other-test.false in omega (
      arith,
      l,
      below,
    ))))

pub returns-then-other-position : goal.returns-then-other-position
returns-then-other-position c =
    sym (takes_at c.args.taken.now c.loop-other.other-index c.args.position c.loop-other-test.true
    c.if-other-position.true)
