use Rattle.std.proofs.Common.{◌≡◌, ℕ, ◌^◌, get_or, ◌+◌, ◌-◌, ◌*◌, ◌<◌, ◌≤◌, length, take, drop, sym, ap, subst, ◌∙◌, rules, arith}
use Rattle.cb_gf256.specs.Rows.{row_at, AreRows}
use Rattle.cb_gf256.proofs.BlockLemmas.{length-cut_rows, row_at-cut_rows, rows_before, AreRows-cut_rows}
use Rattle.cb_gf256.proofs.rows.Rows.row.Goals as goal

pub slice_bounds-result-end : goal.slice_bounds-result-end
slice_bounds-result-end c =
    let r = c.self.inside in
    let within : c.args.i < r.count = omega (arith, c.requires, ap length c.self.view_is, length-cut_rows r.count r.len r.block.items) in
    let room : c.args.i * r.len + r.len ≤ r.count * r.len = rows_before r.count r.len c.args.i within in
    search rules

pub returns-clause-value : goal.returns-clause-value
returns-clause-value c =
    let r = c.self.inside in
    let within : c.args.i < r.count = omega (arith, c.requires, ap length c.self.view_is, length-cut_rows r.count r.len r.block.items) in
    let size : c.args.i * r.len + r.len - c.args.i * r.len ≡ r.len = omega arith in
    ap (λ n. take n (drop (c.args.i * r.len) c.as_slice-block.result.now)) size
    ∙ ap (λ block. take r.len (drop (c.args.i * r.len) block)) c.as_slice-block.ensures.value
    ∙ sym (row_at-cut_rows r.count r.len r.block.items c.args.i within)
    ∙ ap (λ rows. row_at rows c.args.i) c.self.view_is

pub returns-clause-rows : goal.returns-clause-rows
returns-clause-rows c =
    let r = c.self.inside in
    let bytes : (k : ℕ) → get_or r.block.items k 0 < 2 ^ 8 = λ k. search rules in
    subst AreRows c.self.view_is (AreRows-cut_rows r.count r.len r.block.items bytes c.self.invariant)
