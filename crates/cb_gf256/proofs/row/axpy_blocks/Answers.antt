use Rattle.std.proofs.Common.{◌≡◌, ◌+◌, ◌*◌, ◌≤◌, ◌∙◌, sym, ap, ap₂, length, arith}
use Rattle.cb_gf256.specs.Sum.{◌⊕◌}
use Rattle.cb_gf256.specs.Product.{◌⊗◌}
use Rattle.cb_gf256.specs.Row.{scaled_row}
use Rattle.cb_gf256.proofs.RowLemmas.{summed_front_block, length-scaled_row, get_or-scaled_row}
use Rattle.cb_gf256.proofs.row.axpy_blocks.Goals as goal

pub loop-block-preserved : goal.loop-block-preserved
loop-block-preserved c =
    let at = c.loop-block.block * 64 in
    let src = c.args.src.now in
    let factor = c.args.factor.now in
    let within : (c.loop-block.block + 1) * 64 ≤ length src = omega arith in
    let scaled_length : length (scaled_row factor src) ≡ length src = length-scaled_row factor src in
    c.put_block.ensures
    ∙ summed_front_block c.args.dst.now (scaled_row factor src) c.loop-block.dst c.add_blocks.result at ((c.loop-block.block + 1) * 64) (omega arith) (omega arith) (omega arith) c.loop-block.invariant
    (record {
      count = c.add_blocks.ensures.count;
      each = λ l h.
          c.add_blocks.ensures.each l h
          ∙ ap₂ ◌⊕◌ (c.block_at-in-loop-block.ensures.each l h)
          (c.times_block-product.ensures.each l h ∙ ap (λ x. factor ⊗ x) (c.block_at.ensures.each l h) ∙ sym (get_or-scaled_row factor src (at + l)));
    })
