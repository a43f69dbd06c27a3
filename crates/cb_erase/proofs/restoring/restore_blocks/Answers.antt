use Rattle.std.proofs.Common.{◌≡◌, ◌+◌, ◌-◌, ◌*◌, ◌/◌, ◌≤◌, length, sym, ◌∙◌, arith, refl, subst}
use Rattle.cb_gf256.specs.Rows.{row_at, rows_at, byte_at}
use Rattle.cb_gf256.specs.Combination.{combination}
use Rattle.cb_gf256.specs.Placing.{Restored}
use Rattle.cb_gf256.proofs.PublicLaws.{restored_before, restored_none, kept_lengths, placed_same}
use Rattle.cb_erase.proofs.BlockSums.{sums_by_whole}
use Rattle.cb_erase.proofs.restoring.restore_blocks.Goals as goal

pub loop-block-preserved : goal.loop-block-preserved
loop-block-preserved g c =
    let shown = rows_at c.args.rows.now c.args.sources.now in
    let n = length c.args.sources.now in
    let m = g.row.M in
    let r = g.row.R in
    let len = c.args.len in
    let at = (c.loop-block.block - 1) * 64 in
    let room : at + 64 ≤ len = omega arith in
    let kept = c.kept_sums-sums.ensures in
    let put = c.put_sums.ensures in
    let sums = c.kept_sums-sums.result in
    let long = kept_lengths len c.loop-block.out c.kept_sums-sums.new.out kept.kept.count kept.kept.lengths c.loop-block.invariant.1 in (
      put.count ∙ kept.kept.count ∙ c.loop-block.invariant.0,
      kept_lengths len c.kept_sums-sums.new.out c.put_sums.new.out put.count put.lengths long,
      λ whole closes.
          restored_before whole shown c.args.targets.now c.args.sources.now c.args.out.now c.loop-block.out c.kept_sums-sums.new.out c.put_sums.new.out 64 at r (c.loop-block.block * 64) (len / 64 * 64) (sym c.requires.targets) (omega arith) c.requires.apart
          (c.loop-block.invariant.2 whole closes)
          kept.kept
          (placed_same 64 at r c.args.targets.now (byte_at sums) (λ j l. combination (row_at whole j) shown (at + l)) c.kept_sums-sums.new.out c.put_sums.new.out
          (λ j l h k. sums_by_whole m n len at c.args.products.now shown whole sums closes room kept.by_factors kept.last j l (omega (arith, c.requires.last)) k) put),
    )

pub loop-block-init : goal.loop-block-init
loop-block-init g c = (
  refl,
  c.requires.lengths.1,
  λ whole closes. restored_none whole (rows_at c.args.rows.now c.args.sources.now) c.args.targets.now c.args.sources.now c.args.out.now (c.args.len / 64 * 64),
)

pub returns : goal.returns
returns g c whole closes =
    let shown = rows_at c.args.rows.now c.args.sources.now in
    let end : c.loop-block.block * 64 ≡ 0 = omega arith in
    subst (λ n. Restored whole shown c.args.targets.now c.args.sources.now c.args.out.now c.loop-block.out n (c.args.len / 64 * 64)) end (c.loop-block.invariant.2 whole closes)
