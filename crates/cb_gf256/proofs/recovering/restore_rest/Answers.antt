use Rattle.std.proofs.Common.{◌+◌, length, refl, arith}
use Rattle.cb_gf256.specs.Block.{cut_rows}
use Rattle.cb_gf256.specs.Rows.{rows_at}
use Rattle.cb_gf256.proofs.Placing.{restored_more}
use Rattle.cb_gf256.proofs.recovering.restore_rest.Goals as goal

pub loop-column-preserved : goal.loop-column-preserved
loop-column-preserved c =
    let at = c.loop-column.column in
    let cut = cut_rows c.args.count c.args.len in
    let targets = c.args.targets.now in (
      omega (arith, c.loop-column.invariant.0),
      λ before h.
          restored_more c.args.factors.now (rows_at c.args.rows.now c.args.sources.now) targets c.args.sources.now before (cut c.loop-column.out) (cut c.copy_column.new.out) (cut c.set_column.new.out) 1 0 at (length targets) (at + 1)
          refl refl c.requires.apart (c.loop-column.invariant.1 before h) c.copy_column.ensures c.set_column.ensures,
    )
