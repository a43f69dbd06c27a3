use Rattle.std.proofs.Common.{◌≡◌, ◌+◌, ◌*◌, ℕ, [], length, sym, ap, subst, ◌∙◌, arith}
use Rattle.std.specs.Simd.Lanes.{put_chunk}
use Rattle.cb_gf256.specs.Rows.{row_at, rows_at, byte_at}
use Rattle.cb_gf256.specs.Block.{cut_rows}
use Rattle.cb_gf256.specs.Lanes.{HasLanes}
use Rattle.cb_gf256.specs.Placing.{Placed}
use Rattle.cb_gf256.proofs.Placing.{placed_none, cut_placed}
use Rattle.cb_gf256.proofs.Summing.{block_sums_none, block_sums_more, shown_block, all_summed}
use Rattle.cb_gf256.proofs.recovering.kept_block_sums.Goals as goal

pub loop-i-init : goal.loop-i-init
loop-i-init g c =
    let shown = rows_at c.args.rows.now c.args.sources.now in (
      block_sums_none g.row.R c.args.at c.args.factors.now shown,
      placed_none 64 c.args.at c.args.sources.now (λ i l. byte_at shown i (c.args.at + l)) (cut_rows c.args.count c.args.len c.args.out.now),
    )

pub loop-i-preserved : goal.loop-i-preserved
loop-i-preserved g c =
    let rows = c.args.rows.now in
    let sources = c.args.sources.now in
    let i = c.loop-i.i in
    let at = c.args.at in
    let len = c.args.len in
    let cut = cut_rows c.args.count len in
    let out = c.loop-i.out in
    let block = c.block_at-block.result in
    let v = λ (m : ℕ) (l : ℕ). byte_at (rows_at rows sources) m (at + l) in
    let shown : HasLanes block (v i) = shown_block rows sources i at c.row.result.now block c.loop-i-test.true (c.row.ensures.value ∙ ap (row_at rows) c.from.ensures) c.block_at-block.ensures in
    let put = cut_placed 64 at len c.args.count sources v (cut c.args.out.now) out i block c.requires.ascending c.loop-i-test.true (c.requires.below i 0 c.loop-i-test.true)
    (c.loop-i.auto.out ∙ c.requires.size) c.requires.inside shown.count (λ l k. shown.each l k) c.loop-i.invariant.1 in (
      block_sums_more g.row.R i at c.args.factors.now (rows_at rows sources) c.loop-i.sums c.with_products-sums.result block
          c.loop-i.invariant.0 shown c.with_products-sums.ensures.count c.with_products-sums.ensures.lanes,
      subst (λ next. Placed 64 at sources v (cut c.args.out.now) (cut next) (i + 1)) (sym (c.put_block.ensures ∙ ap (λ t. put_chunk (t * len + at) out block) c.from-in-loop-i.ensures)) put,
    )

pub returns-clause-lanes : goal.returns-clause-lanes
returns-clause-lanes g c j h =
    let factors = row_at c.args.factors.now j in
    let sums = c.loop-i.invariant.0.lanes j h in
    let all : length factors ≡ c.loop-i.i = omega (arith, c.requires.width j [] (omega (arith, c.requires.height))) in
    record {
      count = sums.count;
      each = λ l q. sums.each l q ∙ all_summed c.loop-i.i factors (rows_at c.args.rows.now c.args.sources.now) (c.args.at + l) all;
    }

pub returns-clause-kept : goal.returns-clause-kept
returns-clause-kept g c =
    let all : c.loop-i.i ≡ length c.args.sources.now = omega arith in
    let cut = cut_rows c.args.count c.args.len in
    subst (Placed 64 c.args.at c.args.sources.now (λ i l. byte_at (rows_at c.args.rows.now c.args.sources.now) i (c.args.at + l)) (cut c.args.out.now) (cut c.loop-i.out)) all c.loop-i.invariant.1
