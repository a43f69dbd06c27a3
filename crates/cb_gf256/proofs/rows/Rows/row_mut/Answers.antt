use Rattle.std.proofs.Common.{◌≡◌, ◌+◌, ◌*◌, ◌-◌, ◌<◌, ◌++◌, length, take, drop, sym, ap, ◌∙◌, refl, arith}
use Rattle.cb_gf256.specs.Rows.{row_at}
use Rattle.cb_gf256.specs.Block.{cut_rows, overwritten, with_row}
use Rattle.cb_gf256.proofs.BlockLemmas.{length-cut_rows, row_at-cut_rows, rows_before, with_row-cut_rows}
use Rattle.cb_gf256.proofs.rows.Rows.row_mut.Goals as goal

pub slice_mut-requires-clause-in_bounds : goal.slice_mut-requires-clause-in_bounds
slice_mut-requires-clause-in_bounds c =
    let r = c.self.inside in
    let within : c.args.i < r.count = omega (arith, c.requires, ap length c.self.view_is, length-cut_rows r.count r.len r.block.items) in
    omega (arith, rows_before r.count r.len c.args.i within, c.self.invariant, r.block.ok.0)

pub returns : goal.returns
returns c =
    let r = c.self.inside in
    let items = r.block.items in
    let within : c.args.i < r.count = omega (arith, c.requires, ap length c.self.view_is, length-cut_rows r.count r.len items) in
    let size : c.args.i * r.len + r.len - c.args.i * r.len ≡ r.len = omega arith in (
      (
        refl,
        λ w.
            let written = overwritten items (c.args.i * r.len) w in
            ap (λ n. cut_rows r.count r.len (take n (written ++ drop (length written) items))) r.block.ok.0
            ∙ with_row-cut_rows r.count r.len c.args.i items w within c.self.invariant
            ∙ ap (λ rows. with_row rows c.args.i w) c.self.view_is,
      ),
      record {
        writes_back = tt;
        value =
            c.slice_mut.ensures.value ∙ ap (λ n. take n (drop (c.args.i * r.len) items)) size
            ∙ sym (row_at-cut_rows r.count r.len items c.args.i within) ∙ ap (λ rows. row_at rows c.args.i) c.self.view_is;
      },
    )
