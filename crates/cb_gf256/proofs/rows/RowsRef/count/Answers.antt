use Rattle.std.proofs.Common.{length, sym, ap, ◌∙◌}
use Rattle.cb_gf256.proofs.BlockLemmas.{length-cut_rows}
use Rattle.cb_gf256.proofs.rows.RowsRef.count.Goals as goal

pub returns : goal.returns
returns c =
    let r = c.self.inside in
    sym (sym (ap length c.self.view_is) ∙ length-cut_rows r.count r.len r.block.now)
