use Rattle.std.proofs.Common.{ℕ, ◌^◌, ◌<◌, get_or, subst, rules}
use Rattle.cb_gf256.specs.Rows.{AreRows}
use Rattle.cb_gf256.proofs.BlockLemmas.{AreRows-cut_rows}
use Rattle.cb_gf256.proofs.rows.Rows.copy.Goals as goal

pub returns-clause-rows : goal.returns-clause-rows
returns-clause-rows c =
    let r = c.self.inside in
    let bytes : (k : ℕ) → get_or r.block.items k 0 < 2 ^ 8 = λ k. search rules in
    subst AreRows c.self.view_is (AreRows-cut_rows r.count r.len r.block.items bytes c.self.invariant)
