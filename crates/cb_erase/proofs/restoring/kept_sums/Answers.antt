use Rattle.std.proofs.Common.{◌≡◌, ◌+◌, ℕ, length, sym, ap, subst, ◌∙◌, arith}
use Rattle.cb_gf256.specs.Rows.{row_at, rows_at, byte_at}
use Rattle.cb_gf256.specs.Lanes.{HasLanes}
use Rattle.cb_gf256.specs.Placing.{Placed}
use Rattle.cb_gf256.proofs.PublicLaws.{placed_none}
use Rattle.cb_erase.specs.Closing.{sum_by}
use Rattle.cb_erase.proofs.BlockSums.{AreSums, no_sums, sums_more, closing_lanes, shown_block, block_put}
use Rattle.cb_erase.proofs.restoring.kept_sums.Goals as goal

pub loop-i-init : goal.loop-i-init
loop-i-init g c =
    let shown = rows_at c.args.rows.now c.args.sources.now in (
      no_sums g.row.M c.args.at c.args.products.now shown,
      placed_none 64 c.args.at c.args.sources.now (λ i l. byte_at shown i (c.args.at + l)) c.args.out.now,
    )

pub row_mut-requires : goal.row_mut-requires
row_mut-requires g c = omega (arith, c.from-row.ensures, c.loop-i.invariant.1.count, c.requires.below c.loop-i.i 0 c.loop-i-test.true)

pub loop-i-preserved : goal.loop-i-preserved
loop-i-preserved g c =
    let rows = c.args.rows.now in
    let sources = c.args.sources.now in
    let shown = rows_at rows sources in
    let i = c.loop-i.i in
    let at = c.args.at in
    let out = c.loop-i.out in
    let block = c.block_at-block.result in
    let v = λ (m : ℕ) (l : ℕ). byte_at shown m (at + l) in
    let is_shown : HasLanes block (v i) = shown_block rows sources i at c.row.result.now block c.loop-i-test.true (c.row.ensures.value ∙ ap (row_at rows) c.from-row.ensures) c.block_at-block.ensures in (
      sums_more g.row.M i at c.args.products.now shown c.loop-i.sums c.with_products-sums.result c.loop-i.plain c.add_blocks-plain.result block
          c.loop-i.invariant.0 is_shown c.with_products-sums.ensures.count c.with_products-sums.ensures.lanes c.add_blocks-plain.ensures,
      block_put at c.args.len sources v c.args.out.now out i block c.from-row.result c.row_mut.result.now c.put_block.new.row c.requires.ascending c.loop-i-test.true
          (omega (arith, c.loop-i.invariant.1.count, c.requires.below i 0 c.loop-i-test.true))
          c.requires.lengths.1 c.requires.inside is_shown.count (λ l k. is_shown.each l k)
          c.from-row.ensures c.row_mut.ensures.value c.put_block.ensures c.loop-i.invariant.1,
    )

pub returns-clause-by_factors : goal.returns-clause-by_factors
returns-clause-by_factors g c j h =
    let all : c.loop-i.i ≡ length c.args.sources.now = omega arith in
    subst (λ n. HasLanes (row_at c.with_last_sum.result j) (λ l. sum_by n c.args.products.now (rows_at c.args.rows.now c.args.sources.now) j (c.args.at + l))) all
    (subst (λ row. HasLanes row (λ l. sum_by c.loop-i.i c.args.products.now (rows_at c.args.rows.now c.args.sources.now) j (c.args.at + l))) (sym (c.with_last_sum.ensures.first j h)) (c.loop-i.invariant.0.by_factors j h))

pub returns-clause-last : goal.returns-clause-last
returns-clause-last g c =
    let all : c.loop-i.i ≡ length c.args.sources.now = omega arith in
    closing_lanes g.row.M (length c.args.sources.now) c.args.at c.args.products.now (rows_at c.args.rows.now c.args.sources.now) c.loop-i.sums c.loop-i.plain (row_at c.with_last_sum.result g.row.M)
    (subst (λ n. AreSums g.row.M n c.args.at c.args.products.now (rows_at c.args.rows.now c.args.sources.now) c.loop-i.sums c.loop-i.plain) all c.loop-i.invariant.0) c.with_last_sum.ensures.last

pub returns-clause-kept : goal.returns-clause-kept
returns-clause-kept g c =
    let all : c.loop-i.i ≡ length c.args.sources.now = omega arith in
    subst (Placed 64 c.args.at c.args.sources.now (λ i l. byte_at (rows_at c.args.rows.now c.args.sources.now) i (c.args.at + l)) c.args.out.now c.loop-i.out) all c.loop-i.invariant.1
