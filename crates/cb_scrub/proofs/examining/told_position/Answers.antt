use Rattle.std.proofs.Common.{arith}
use Rattle.cb_scrub.proofs.Telling.{told, quotient_is_some, told_zero, told_past}
use Rattle.cb_scrub.proofs.examining.told_position.Goals as goal

pub returns-then-sum-eq0-clause-none : goal.returns-then-sum-eq0-clause-none
returns-then-sum-eq0-clause-none c p l e = c.if-sum-eq0.true

pub returns-then-next-eq0-clause-none : goal.returns-then-next-eq0-clause-none
returns-then-next-eq0-clause-none c p l e = told_zero c.args.sum c.args.next p (omega arith) c.if-next-eq0.true e

pub logarithm-position-requires : goal.logarithm-position-requires
logarithm-position-requires c =
    let other = c.if-next-eq0.false in
    omega (arith, quotient_is_some c.args.sum c.args.next c.inv.result (omega arith) (omega arith) (omega arith) c.inv.ensures, c.mul.ensures)

pub returns-then-position-count-clause-some : goal.returns-then-position-count-clause-some
returns-then-position-count-clause-some c =
    let other = c.if-sum-eq0.false in
    let within = c.if-position-count.true in (
      omega arith,
      omega arith,
      told c.args.sum c.args.next c.inv.result c.mul.result c.logarithm-position.result (omega arith) (omega arith) (omega arith) c.inv.ensures c.mul.ensures c.logarithm-position.ensures.power,
    )

pub returns-clause-none : goal.returns-clause-none
returns-clause-none c p l e =
    let past = c.if-position-count.false in
    let few = c.requires in
    told_past c.args.sum c.args.next p c.logarithm-position.result (omega arith) (omega arith) c.logarithm-position.ensures.least (omega arith) e
    (told c.args.sum c.args.next c.inv.result c.mul.result c.logarithm-position.result (omega arith) (omega arith) (omega arith) c.inv.ensures c.mul.ensures c.logarithm-position.ensures.power)
