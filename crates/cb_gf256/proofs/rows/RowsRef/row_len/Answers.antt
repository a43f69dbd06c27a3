use Rattle.std.proofs.Common.{subst}
use Rattle.cb_gf256.specs.Rows.{HaveLength}
use Rattle.cb_gf256.proofs.BlockLemmas.{HaveLength-cut_rows}
use Rattle.cb_gf256.proofs.rows.RowsRef.row_len.Goals as goal

pub returns-clause-length : goal.returns-clause-length
returns-clause-length c =
    let r = c.self.inside in
    subst (HaveLength r.len) c.self.view_is (HaveLength-cut_rows r.count r.len r.block.now c.self.invariant)
