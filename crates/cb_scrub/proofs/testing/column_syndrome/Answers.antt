use Rattle.std.proofs.Common.{◌≡◌, ◌+◌, ◌-◌, ◌<◌, length, drop, get_or, ap, ap₂, ◌∙◌, arith}
use Rattle.cb_gf256.specs.Sum.{◌⊕◌}
use Rattle.cb_gf256.specs.Product.{◌⊗◌}
use Rattle.cb_gf256.specs.Power.{power}
use Rattle.cb_gf256.specs.Rows.{byte_at}
use Rattle.cb_gf256.specs.CodeWord.{syndrome}
use Rattle.cb_scrub.proofs.ByRows.{row_more, bytes_at}
use Rattle.cb_scrub.proofs.testing.column_syndrome.Goals as goal

pub loop-i-preserved : goal.loop-i-preserved
loop-i-preserved c j e =
    let rows = c.args.rows.now in
    let column = c.args.column in
    let i = c.loop-i.i in
    let place = length rows - (i + 1) in
    let here : c.count-count.result - 1 - i ≡ place = omega (arith, c.count-count.ensures) in
    let behind : length rows - i ≡ place + 1 = omega (arith, c.loop-i-test.true, c.count-count.ensures) in
    let within : place < length rows = omega (arith, c.loop-i-test.true, c.count-count.ensures) in
    c.add-sum.ensures
    ∙ ap₂ ◌⊕◌
    (c.times.ensures ∙ ap₂ ◌⊗◌ e (c.loop-i.invariant j e ∙ ap (λ m. syndrome j (drop m rows) column) behind))
    (ap (λ row. get_or row column 0) c.row.ensures.value ∙ ap (λ m. byte_at rows m column) here)
    ∙ row_more j place column rows within (bytes_at c.args.len column rows c.row.ensures.rows.bytes c.requires.lengths c.requires.inside)
