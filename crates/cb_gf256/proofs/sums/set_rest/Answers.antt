use Rattle.std.proofs.Common.{◌+◌, length, refl, arith}
use Rattle.cb_gf256.specs.Block.{cut_rows}
use Rattle.cb_gf256.specs.Rows.{rows_at}
use Rattle.cb_gf256.proofs.Placing.{combined_more}
use Rattle.cb_gf256.proofs.sums.set_rest.Goals as goal

pub loop-column-preserved : goal.loop-column-preserved
loop-column-preserved c =
    let at = c.loop-column.column in
    let cut = cut_rows c.args.count c.args.len in
    let targets = c.args.targets.now in (
      omega (arith, c.loop-column.invariant.0),
      λ before h.
          combined_more c.args.factors.now (rows_at c.args.rows.now c.args.sources.now) targets before (cut c.loop-column.out) (cut c.set_column.new.out) 1 0 at (length targets) (at + 1) refl refl
          (c.loop-column.invariant.1 before h) c.set_column.ensures,
    )
