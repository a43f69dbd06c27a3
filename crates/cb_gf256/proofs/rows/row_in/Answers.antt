use Rattle.std.proofs.Common.{◌≡◌, ℕ, ◌^◌, get_or, ◌+◌, ◌-◌, ◌*◌, ◌<◌, ◌≤◌, take, drop, sym, ap, ◌∙◌, rules, arith}
use Rattle.cb_gf256.proofs.BlockLemmas.{row_at-cut_rows, rows_before, AreRows-cut_rows}
use Rattle.cb_gf256.proofs.rows.row_in.Goals as goal

pub slice_bounds-result-end : goal.slice_bounds-result-end
slice_bounds-result-end c =
    let room : c.args.i * c.args.len + c.args.len ≤ c.args.count * c.args.len = rows_before c.args.count c.args.len c.args.i c.requires.inside in
    search rules

pub returns-clause-value : goal.returns-clause-value
returns-clause-value c =
    let size : c.args.i * c.args.len + c.args.len - c.args.i * c.args.len ≡ c.args.len = omega arith in
    ap (λ n. take n (drop (c.args.i * c.args.len) c.args.block.now)) size
    ∙ sym (row_at-cut_rows c.args.count c.args.len c.args.block.now c.args.i c.requires.inside)

pub returns-clause-rows : goal.returns-clause-rows
returns-clause-rows c =
    let bytes : (k : ℕ) → get_or c.args.block.now k 0 < 2 ^ 8 = λ k. search rules in
    AreRows-cut_rows c.args.count c.args.len c.args.block.now bytes c.requires.size
