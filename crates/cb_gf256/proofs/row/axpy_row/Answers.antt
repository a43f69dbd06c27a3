use Rattle.std.proofs.Common.{◌≡◌, ◌*◌, ◌/◌, ◌∙◌, ap, sym, arith, length, get_or, set}
use Rattle.cb_gf256.specs.Sum.{◌⊕◌}
use Rattle.cb_gf256.specs.Product.{◌⊗◌}
use Rattle.cb_gf256.specs.Row.{scaled_row, summed_front}
use Rattle.cb_gf256.proofs.RowLemmas.{summed_front_more, summed_front_all, length-scaled_row, get_or-scaled_row}
use Rattle.cb_gf256.proofs.row.axpy_row.Goals as goal

pub loop-i-init : goal.loop-i-init
loop-i-init c = c.axpy_blocks.ensures ∙ ap (λ x. summed_front c.args.dst.now (scaled_row x c.args.src.now) (length c.args.src.now / 64 * 64)) c.of-factor.ensures

pub loop-i-preserved : goal.loop-i-preserved
loop-i-preserved c =
    let src = c.args.src.now in
    let scaled = scaled_row c.args.c src in
    let i = c.loop-i.i in
    let len : length scaled ≡ length src = length-scaled_row c.args.c src in
    let term = c.times.ensures ∙ ap (λ x. x ⊗ get_or src i 0) c.of-factor.ensures ∙ sym (get_or-scaled_row c.args.c src i) in
    ap (λ x. set c.loop-i.dst i (get_or c.loop-i.dst i 0 ⊕ x)) term
    ∙ summed_front_more c.args.dst.now scaled c.loop-i.dst i (omega arith) (omega arith) c.loop-i.invariant

pub returns : goal.returns
returns c =
    let src = c.args.src.now in
    let done : c.loop-i.i ≡ length src = omega arith in
    let len : length (scaled_row c.args.c src) ≡ length src = length-scaled_row c.args.c src in
    c.loop-i.invariant ∙ summed_front_all c.args.dst.now (scaled_row c.args.c src) c.loop-i.i (omega arith) (omega arith)
