use Rattle.std.proofs.Common.{◌<◌, length, sym, ap, subst, ◌∙◌, arith}
use Rattle.cb_gf256.specs.Rows.{row_at, byte_at}
use Rattle.cb_gf256.specs.Corner.{corner}
use Rattle.cb_gf256.proofs.PublicLaws.{corner_width, corner_byte}
use Rattle.cb_erase.proofs.table.Weights.at.Goals as goal

pub bounds-self-inside-i : goal.bounds-self-inside-i
bounds-self-inside-i c =
    let w = c.self.inside in
    let p = c.args.position in
    let i = c.args.i in
    let in_table : p < length (corner w.k w.n w.table) = subst (λ t. p < length t) (sym c.self.view_is) c.requires.position in
    let in_row : i < length (row_at (corner w.k w.n w.table) p) = subst (λ t. i < length (row_at t p)) (sym c.self.view_is) c.requires.index in
    omega (arith, corner_width w.k w.n w.table p i in_table in_row, c.self.invariant.0)

pub returns : goal.returns
returns c =
    let w = c.self.inside in
    let p = c.args.position in
    let i = c.args.i in
    let in_table : p < length (corner w.k w.n w.table) = subst (λ t. p < length t) (sym c.self.view_is) c.requires.position in
    let in_row : i < length (row_at (corner w.k w.n w.table) p) = subst (λ t. i < length (row_at t p)) (sym c.self.view_is) c.requires.index in
    sym (corner_byte w.k w.n w.table p i in_table (corner_width w.k w.n w.table p i in_table in_row)) ∙ ap (λ t. byte_at t p i) c.self.view_is
