use Rattle.std.proofs.Common.{◌≡◌, ◌*◌, sym, ap, subst, arith, ◌∙◌}
use Rattle.cb_gf256.specs.Block.{cut_rows}
use Rattle.cb_gf256.specs.Rows.{row_at, rows_at}
use Rattle.cb_gf256.specs.Combination.{AreCombinations}
use Rattle.cb_gf256.proofs.BlockLemmas.{length-cut_rows, HaveLength-cut_rows}
use Rattle.cb_gf256.proofs.Placing.{combinations_at, source_rows}
use Rattle.cb_gf256.proofs.sums.set_sums_in.Goals as goal

pub set_whole_blocks-requires-clause-size : goal.set_whole_blocks-requires-clause-size
set_whole_blocks-requires-clause-size c =
    let len = source_rows c.args.rows.now c.args.sources.now c.row_len-len.result c.requires.some c.requires.sources c.row_len-len.ensures.length in
    c.requires.size ∙ ap (λ n. c.args.count * n) len.0

pub returns-clause-sums : goal.returns-clause-sums
returns-clause-sums c =
    let shown = rows_at c.args.rows.now c.args.sources.now in
    let targets = c.args.targets.now in
    let n = c.args.count in
    let long = c.row_len-len.result in
    let old = c.args.block.now in
    let new = c.set_rest.new.out in
    let len = source_rows c.args.rows.now c.args.sources.now long c.requires.some c.requires.sources c.row_len-len.ensures.length in
    subst (λ m. AreCombinations c.args.factors.now shown (rows_at (cut_rows n m new) targets)) (sym len.0)
    (combinations_at c.args.factors.now shown targets (cut_rows n long old) (cut_rows n long new) long c.requires.height len.1
    (λ j d k. omega (arith, length-cut_rows n long old, c.requires.below j d k)) (HaveLength-cut_rows n long old (c.requires.size ∙ ap (λ m. n * m) len.0))
    (c.set_rest.ensures (cut_rows n long old) c.set_whole_blocks.ensures.blocks))

pub returns-clause-others : goal.returns-clause-others
returns-clause-others c i apart =
    let n = c.args.count in
    let long = c.row_len-len.result in
    let old = c.args.block.now in
    let len = source_rows c.args.rows.now c.args.sources.now long c.requires.some c.requires.sources c.row_len-len.ensures.length in
    subst (λ m. row_at (cut_rows n m c.set_rest.new.out) i ≡ row_at (cut_rows n m old) i) (sym len.0)
    ((c.set_rest.ensures (cut_rows n long old) c.set_whole_blocks.ensures.blocks).others i (λ j k. apart j 0 k))
