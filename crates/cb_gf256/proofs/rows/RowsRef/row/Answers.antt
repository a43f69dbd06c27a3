use Rattle.std.proofs.Common.{length, ap, subst, ◌∙◌, arith}
use Rattle.cb_gf256.specs.Rows.{row_at, AreRows}
use Rattle.cb_gf256.proofs.BlockLemmas.{length-cut_rows}
use Rattle.cb_gf256.proofs.rows.RowsRef.row.Goals as goal

pub row_in-requires-clause-inside : goal.row_in-requires-clause-inside
row_in-requires-clause-inside c =
    let r = c.self.inside in
    omega (arith, c.requires, ap length c.self.view_is, length-cut_rows r.count r.len r.block.now)

pub returns-clause-value : goal.returns-clause-value
returns-clause-value c = c.row_in.ensures.value ∙ ap (λ rows. row_at rows c.args.i) c.self.view_is

pub returns-clause-rows : goal.returns-clause-rows
returns-clause-rows c = subst AreRows c.self.view_is c.row_in.ensures.rows
