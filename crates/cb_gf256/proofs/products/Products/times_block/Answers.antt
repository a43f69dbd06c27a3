use Rattle.std.proofs.Common.{◌/◌, ◌%◌, get_or, ap, ap₂, ◌∙◌, arith}
use Rattle.std.proofs.lemmas.Simd.{get_or-chunk}
use Rattle.cb_gf256.specs.Sum.{◌⊕◌}
use Rattle.cb_gf256.specs.Product.{◌⊗◌}
use Rattle.cb_gf256.proofs.LaneLemmas.{lane_fits}
use Rattle.cb_gf256.proofs.Halving.{looked_up}
use Rattle.cb_gf256.proofs.products.Products.times_block.Goals as goal

pub returns : goal.returns
returns c =
    let halves = c.self.inside.halves in
    let block = c.args.block in
    record {
      count = c.add_blocks.ensures.count;
      each = λ l h.
          let x = get_or block l 0 in
          let fits = lane_fits block c.fits-block.0 c.fits-block.1 l h in
          c.add_blocks.ensures.each l h
          ∙ ap₂ ◌⊕◌
          (c.at_low_halves.ensures.each l h ∙ ap (λ t. get_or t (x % 16) 0) c.table_at-low.ensures ∙ get_or-chunk 0 16 halves (x % 16) 0 (omega arith) ∙ ap (λ n. get_or halves n 0) (omega arith))
          (c.at_high_halves.ensures.each l h ∙ ap (λ t. get_or t (x / 16) 0) c.table_at-high.ensures ∙ get_or-chunk 16 16 halves (x / 16) 0 (omega arith))
          ∙ looked_up (get_or halves 1 0) x halves c.self.invariant fits
          ∙ ap (λ a. a ⊗ x) c.self.view_is;
    }
