use Rattle.std.proofs.Common.{arith}
use Rattle.cb_script.proofs.NameNumbers.{number_fits}
use Rattle.cb_script.proofs.name.name_number.Goals as goal

pub overflow_mul-number : goal.overflow_mul-number
overflow_mul-number c =
    let fits = number_fits c.args.name.now c.loop-i.i c.loop-i.number c.requires (omega (arith, c.loop-i-test.true)) c.loop-i.invariant in
    omega (arith, fits)

pub overflow_add-number : goal.overflow_add-number
overflow_add-number c =
    let fits = number_fits c.args.name.now c.loop-i.i c.loop-i.number c.requires (omega (arith, c.loop-i-test.true)) c.loop-i.invariant in
    omega (arith, fits, c.from.ensures)
