use Rattle.std.proofs.Common.{◌≡◌, ◌+◌, ◌-◌, ◌<◌, length, get_or, ap, subst, ◌∙◌, arith}
use Rattle.cb_gf256.specs.Rows.{byte_at}
use Rattle.cb_scrub.proofs.ByRows.{AreSumsFrom, sums_begin, sums_more}
use Rattle.cb_scrub.proofs.testing.block_syndromes.Goals as goal

pub loop-i-init : goal.loop-i-init
loop-i-init g c =
    let rows = c.args.rows.now in
    let at = c.args.at in
    let here : c.count-count.result - 1 ≡ length rows - 1 = omega (arith, c.count-count.ensures) in
    sums_begin g.row.R at c.args.len rows c.row.ensures.rows.bytes c.requires.lengths (λ l h. omega (arith, c.requires.inside)) (length rows - 1) c.block_at-sums.result (omega (arith, c.requires.some))
    (record {
      count = c.block_at-sums.ensures.count;
      each = λ l h. c.block_at-sums.ensures.each l h ∙ ap (λ row. get_or row (at + l) 0) c.row.ensures.value ∙ ap (λ m. byte_at rows m (at + l)) here;
    })

pub loop-i-preserved : goal.loop-i-preserved
loop-i-preserved g c =
    let rows = c.args.rows.now in
    let at = c.args.at in
    let i = c.loop-i.i in
    let place = length rows - (i + 1) in
    let here : c.count-count.result - 1 - i ≡ place = omega (arith, c.count-count.ensures) in
    let behind : length rows - i ≡ place + 1 = omega (arith, c.loop-i-test.true, c.count-count.ensures) in
    let within : place < length rows = omega (arith, c.loop-i-test.true, c.count-count.ensures) in
    sums_more g.row.R at c.args.len rows c.row.ensures.rows.bytes c.requires.lengths (λ l h. omega (arith, c.requires.inside)) place c.loop-i.sums c.with_row-sums.result c.block_at-block.result within
    (subst (λ m. AreSumsFrom g.row.R m at rows c.loop-i.sums) behind c.loop-i.invariant)
    (record {
      count = c.block_at-block.ensures.count;
      each = λ l h. c.block_at-block.ensures.each l h ∙ ap (λ row. get_or row (at + l) 0) c.row-in-loop-i.ensures.value ∙ ap (λ m. byte_at rows m (at + l)) here;
    })
    c.with_row-sums.ensures.count c.with_row-sums.ensures.lanes
