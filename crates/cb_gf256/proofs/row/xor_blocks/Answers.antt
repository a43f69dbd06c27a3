use Rattle.std.proofs.Common.{◌+◌, ◌*◌, ◌≤◌, ◌∙◌, ap₂, length, arith}
use Rattle.cb_gf256.specs.Sum.{◌⊕◌}
use Rattle.cb_gf256.proofs.RowLemmas.{summed_front_block}
use Rattle.cb_gf256.proofs.row.xor_blocks.Goals as goal

pub loop-block-preserved : goal.loop-block-preserved
loop-block-preserved c =
    let at = c.loop-block.block * 64 in
    let within : (c.loop-block.block + 1) * 64 ≤ length c.args.src.now = omega arith in
    c.put_block.ensures
    ∙ summed_front_block c.args.dst.now c.args.src.now c.loop-block.dst c.add_blocks.result at ((c.loop-block.block + 1) * 64) (omega arith) (omega arith) within c.loop-block.invariant
    (record {
      count = c.add_blocks.ensures.count;
      each = λ l h. c.add_blocks.ensures.each l h ∙ ap₂ ◌⊕◌ (c.block_at.ensures.each l h) (c.block_at-in-loop-block.ensures.each l h);
    })
