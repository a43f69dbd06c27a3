use Rattle.std.proofs.Common.{◌<◌, length, sym, ap, subst, ◌∙◌, arith}
use Rattle.cb_gf256.specs.Rows.{row_at, byte_at}
use Rattle.cb_gf256.specs.Corner.{corner}
use Rattle.cb_gf256.proofs.CornerLemmas.{row_of_corner, byte_at-corner, at_default}
use Rattle.cb_gf256.proofs.factors.Factors.product.Goals as goal

pub returns : goal.returns
returns c =
    let f = c.self.inside in
    let j = c.args.j in
    let i = c.args.i in
    let in_table : j < length (corner f.width f.height f.products) = subst (λ t. j < length t) (sym c.self.view_is) c.requires.row in
    let in_row : i < length (row_at (corner f.width f.height f.products) j) = subst (λ t. i < length (row_at t j)) (sym c.self.view_is) c.requires.place in
    let small = row_of_corner f.width f.height f.products j i in_table in_row in
    at_default (row_at f.products j) i c.index-self-j.result 0 (omega (arith, c.self.told, c.self.invariant.0.width))
    ∙ sym (byte_at-corner f.width f.height f.products j i in_table small)
    ∙ ap (λ t. byte_at t j i) c.self.view_is
