use Rattle.std.proofs.Common.{◌≡◌, ◌+◌, ◌*◌, ℕ, set, sym, ap, subst, ◌∙◌, arith}
use Rattle.cb_gf256.specs.Rows.{row_at, rows_at}
use Rattle.cb_gf256.specs.Block.{cut_rows}
use Rattle.cb_gf256.specs.Combination.{combination}
use Rattle.cb_gf256.specs.Placing.{Placed}
use Rattle.cb_gf256.proofs.Placing.{byte_placed}
use Rattle.cb_gf256.proofs.sums.set_column.Goals as goal

pub loop-j-preserved : goal.loop-j-preserved
loop-j-preserved c =
    let j = c.loop-j.j in
    let at = c.args.column in
    let len = c.args.len in
    let cut = cut_rows c.args.count len in
    let out = c.loop-j.out in
    let shown = rows_at c.args.rows.now c.args.sources.now in
    let v = λ (i : ℕ) (x : ℕ). combination (row_at c.args.factors.now i) shown (at + x) in
    let zero_more : at ≡ at + 0 = omega arith in
    subst (λ t. Placed 1 at c.args.targets.now v (cut c.args.out.now) (cut (set out (t * len + at) c.sum_at-sum.result)) (j + 1)) (sym c.from.ensures)
    (byte_placed at len c.args.count c.sum_at-sum.result c.args.targets.now v (cut c.args.out.now) out j c.requires.ascending c.loop-j-test.true (c.requires.below j 0 c.loop-j-test.true)
    (c.loop-j.auto.out ∙ c.requires.size) c.requires.inside (c.sum_at-sum.ensures ∙ ap (combination (row_at c.args.factors.now j) shown) zero_more) c.loop-j.invariant)
