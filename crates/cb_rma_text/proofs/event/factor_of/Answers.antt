use Rattle.std.proofs.Common.{arith}
use Rattle.cb_rma_text.proofs.Rows.{one_byte, one_byte_lower, one_byte_text}
use Rattle.cb_rma_text.proofs.event.factor_of.Goals as goal

pub returns-then-text-ne2 : goal.returns-then-text-ne2
returns-then-text-ne2 c = λ x is. omega (arith, one_byte_text c.args.text.now x is.1, c.if-text-ne2.true)

pub bounds-as_slice-0 : goal.bounds-as_slice-0
bounds-as_slice-0 c =
    let spelled = rw c.in-Some.is at c.in_ok-bytes.ensures in
    rw c.as_slice.ensures.items
    (one_byte c.args.text.now c.in-Some.bytes c.if-text-ne2.false spelled.0 spelled.1).0

pub returns-in-Some : goal.returns-in-Some
returns-in-Some c =
    let spelled = rw c.in-Some.is at c.in_ok-bytes.ensures in
    let one = one_byte c.args.text.now c.in-Some.bytes c.if-text-ne2.false spelled.0 spelled.1 in
    rw c.as_slice.ensures.items (one.1, one.2)

pub returns-in-None : goal.returns-in-None
returns-in-None c = λ x is.
    (rw c.in-None.is at c.in_ok-bytes.ensures) (one_byte_lower c.args.text.now x is.0 is.1)
