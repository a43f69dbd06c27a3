use Rattle.std.proofs.Common.{◌+◌, ◌-◌, ◌*◌, ◌∙◌, arith}
use Rattle.carbink_c.proofs.Cutting.{filled_more, filled_all}
use Rattle.carbink_c.proofs.buffers.put_rows.Goals as goal

pub loop-i-preserved : goal.loop-i-preserved
loop-i-preserved c =
    let i = c.loop-i.i in
    let len = c.args.len in
    filled_more len i (i * len + len - i * len) c.args.rows.now c.loop-i.buffer c.copy_from_slice.new.self (omega (arith, c.loop-i-test.true, c.count-written.ensures)) c.requires.lengths
    (c.loop-i.auto.buffer ∙ c.requires.size) (c.copy_from_slice.ensures.after ∙ c.row.ensures.value) c.loop-i.invariant

pub returns : goal.returns
returns c =
    filled_all c.args.len c.loop-i.i c.args.rows.now c.loop-i.buffer (omega (arith, c.loop-i-test.false, c.loop-i.auto.i-end, c.count-written.ensures)) c.requires.lengths
    (c.loop-i.auto.buffer ∙ c.requires.size) c.loop-i.invariant
