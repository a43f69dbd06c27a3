use Rattle.std.proofs.Common.{arith, refl}
use Rattle.cb_gf256.specs.Rows.{row_at, byte_at}
use Rattle.cb_erase.proofs.BlockSums.{block_put}
use Rattle.cb_erase.proofs.restoring.put_sums.Goals as goal

pub row_mut-requires : goal.row_mut-requires
row_mut-requires g c = omega (arith, c.from.ensures, c.loop-j.invariant.count, c.requires.below c.loop-j.j 0 (omega (arith, c.requires.targets)))

pub loop-j-preserved : goal.loop-j-preserved
loop-j-preserved g c =
    let out = c.loop-j.out in
    let j = c.loop-j.j in
    let sums = c.args.sums in
    block_put c.args.at c.args.len c.args.targets.now (byte_at sums) c.args.out.now out j (row_at sums j) c.from.result c.row_mut.result.now c.put_block.new.row c.requires.ascending (omega (arith, c.requires.targets))
    (omega (arith, c.loop-j.invariant.count, c.requires.below j 0 (omega (arith, c.requires.targets))))
    c.requires.lengths c.requires.inside (c.requires.lanes j c.loop-j-test.true) (λ l k. refl)
    c.from.ensures c.row_mut.ensures.value c.put_block.ensures c.loop-j.invariant
