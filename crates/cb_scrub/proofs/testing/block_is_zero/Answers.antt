use Rattle.std.proofs.Common.{[], get_or, arith}
use Rattle.cb_scrub.proofs.ByRows.{one_power_more}
use Rattle.cb_scrub.proofs.testing.block_is_zero.Goals as goal

pub loop-j-preserved : goal.loop-j-preserved
loop-j-preserved g c =
    let j = c.loop-j.j in
    one_power_more j c.args.at c.args.rows.now (get_or c.block_syndromes-sums.result j []) c.loop-j.invariant (c.block_syndromes-sums.ensures.lanes j c.loop-j-test.true)
    (c.is_zero_block.ensures.0 c.if-not-is_zero_block.false)
