use Rattle.std.proofs.Common.{length, sym, ap, ◌∙◌, arith}
use Rattle.cb_gf256.proofs.CornerLemmas.{length-corner}
use Rattle.cb_gf256.proofs.factors.Factors.height.Goals as goal

pub returns-clause-count : goal.returns-clause-count
returns-clause-count c =
    let f = c.self.inside in
    sym (length-corner f.width f.height f.products (omega (arith, c.self.invariant.0.rows, c.self.invariant.0.height))) ∙ ap length c.self.view_is
