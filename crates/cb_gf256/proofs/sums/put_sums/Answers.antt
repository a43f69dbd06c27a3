use Rattle.std.proofs.Common.{◌+◌, ◌*◌, sym, ap, subst, ◌∙◌, arith, refl}
use Rattle.std.specs.Simd.Lanes.{put_chunk}
use Rattle.cb_gf256.specs.Rows.{row_at, byte_at}
use Rattle.cb_gf256.specs.Block.{cut_rows}
use Rattle.cb_gf256.specs.Placing.{Placed}
use Rattle.cb_gf256.proofs.Placing.{cut_placed}
use Rattle.cb_gf256.proofs.sums.put_sums.Goals as goal

pub loop-j-preserved : goal.loop-j-preserved
loop-j-preserved g c =
    let j = c.loop-j.j in
    let at = c.args.at in
    let len = c.args.len in
    let out = c.loop-j.out in
    let block = row_at c.args.sums j in
    subst (λ next. Placed 64 at c.args.targets.now (byte_at c.args.sums) (cut_rows c.args.count len c.args.out.now) (cut_rows c.args.count len next) (j + 1))
    (sym (c.put_block.ensures ∙ ap (λ t. put_chunk (t * len + at) out block) c.from.ensures))
    (cut_placed 64 at len c.args.count c.args.targets.now (byte_at c.args.sums) (cut_rows c.args.count len c.args.out.now) out j block c.requires.ascending (omega (arith, c.requires.targets))
    (c.requires.below j 0 (omega (arith, c.requires.targets))) (c.loop-j.auto.out ∙ c.requires.size) c.requires.inside (c.requires.lanes j c.loop-j-test.true) (λ l k. refl) c.loop-j.invariant)
