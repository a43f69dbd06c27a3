use Rattle.std.proofs.Common.{◌≡◌, ◌+◌, ◌<◌, ℕ, [], length, get_or, ap, sym, subst, ◌∙◌, arith, refl}
use Rattle.std.proofs.lemmas.Simd.{get_or-replicate}
use Rattle.cb_gf256.specs.Lanes.{HasLanes}
use Rattle.cb_gf256.specs.Rows.{row_at, rows_at, byte_at}
use Rattle.cb_gf256.proofs.Summing.{block_sums_none, block_sums_more, shown_block, row_at-rows_at}
use Rattle.cb_gf256.proofs.Words.{HoldBytes-byte_at}
use Rattle.cb_gf256.proofs.Closings.{plain_more, closed_lanes}
use Rattle.cb_gf256.proofs.closing.closed_sums.Goals as goal

pub loop-i-init : goal.loop-i-init
loop-i-init g c =
    (block_sums_none g.row.M c.args.at c.args.factors.now (rows_at c.args.rows.now c.args.sources.now), record { count = refl; each = λ l q. get_or-replicate 64 l 0 0 q })

pub loop-i-preserved : goal.loop-i-preserved
loop-i-preserved g c =
    let rows = c.args.rows.now in
    let sources = c.args.sources.now in
    let i = c.loop-i.i in
    let at = c.args.at in
    let shown = rows_at rows sources in
    let block = c.block_at-block.result in
    let here : HasLanes block (λ l. byte_at shown i (at + l)) = shown_block rows sources i at c.row.result.now block c.loop-i-test.true (c.row.ensures.value ∙ ap (row_at rows) c.from.ensures) c.block_at-block.ensures in (
      block_sums_more g.row.M i at c.args.factors.now shown c.loop-i.sums c.with_products-sums.result block c.loop-i.invariant.0 here c.with_products-sums.ensures.count c.with_products-sums.ensures.lanes,
      plain_more i at shown c.loop-i.plain block c.add_blocks-plain.result c.loop-i.invariant.1 here c.add_blocks-plain.ensures,
    )

pub returns : goal.returns
returns g c j h =
    let rows = c.args.rows.now in
    let sources = c.args.sources.now in
    let shown = rows_at rows sources in
    let i = c.loop-i.i in
    let at = c.args.at in
    let all : length sources ≡ i = omega arith in
    let bytes : (m l : ℕ) → m < i → l < 64 → byte_at shown m (at + l) < 256 =
    λ m l k q.
    let within : m < length sources = omega arith in
    let p = get_or sources m 0 in
    let inside : p < length rows = c.requires.below m 0 within in
    subst (λ row. get_or row (at + l) 0 < 256) (sym (row_at-rows_at rows sources m within))
    (HoldBytes-byte_at rows c.requires.rows.bytes p (at + l) inside (omega (arith, c.requires.lengths p [] inside, c.requires.inside))) in
    closed_lanes g.row.M i at c.args.factors.now shown c.loop-i.sums c.with_last_sum.result c.loop-i.plain (c.requires.height ∙ sym c.requires.last)
    (λ m k. c.requires.closed.ones m (omega (arith, c.requires.width 0 [] c.requires.closed.some))) (λ m k. c.requires.width m [] (omega (arith, c.requires.height, c.requires.last)) ∙ all) bytes c.loop-i.invariant.0 c.loop-i.invariant.1 c.with_last_sum.ensures.first c.with_last_sum.ensures.last j (omega (arith, c.requires.last))
