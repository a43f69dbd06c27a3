use Rattle.std.proofs.Common.{◌≡◌, ◌+◌, [], length, set, sym, subst, arith}
use Rattle.cb_gf256.specs.Rows.{row_at}
use Rattle.cb_gf256.specs.Block.{with_row}
use Rattle.cb_scrub.proofs.MendingLaws.{Mending, mending_none, mending_more, mending_done, mended_word, mended_only}
use Rattle.cb_scrub.proofs.mending.mend.Goals as goal

pub loop-column-init : goal.loop-column-init
loop-column-init c = mending_none c.row_len-len.result c.args.position c.args.rows.now c.row_len-len.ensures.length

pub loop-column-preserved : goal.loop-column-preserved
loop-column-preserved c =
    let now = c.loop-column.rows in
    let p = c.args.position in
    let at = c.loop-column.column in
    let sum = c.sum_of_others-sum.result in
    let next = mending_more c.row_len-len.result p at sum c.args.rows.now now c.requires (omega arith) c.loop-column.invariant c.sum_of_others-sum.ensures in
    subst (λ row. Mending c.row_len-len.result p (at + 1) c.args.rows.now (with_row now p (set row at sum))) (sym c.row_mut.ensures.value) next

pub returns-clause-sum : goal.returns-clause-sum
returns-clause-sum c =
    let rows = c.args.rows.now in
    let inside = c.requires in
    let size : c.row_len-len.result ≡ length (row_at rows 0) = let e = c.row_len-len.ensures.length 0 [] (omega arith) in omega arith in
    let all : c.loop-column.column ≡ c.row_len-len.result = omega arith in
    mending_done c.row_len-len.result c.args.position rows c.loop-column.rows inside size (subst (λ x. Mending c.row_len-len.result c.args.position x rows c.loop-column.rows) all c.loop-column.invariant)

pub returns-clause-count : goal.returns-clause-count
returns-clause-count c = c.loop-column.invariant.count

pub returns-clause-word : goal.returns-clause-word
returns-clause-word c r h one = mended_word r c.args.position c.args.rows.now c.loop-column.rows (returns-clause-sum c) h one

pub returns-clause-only : goal.returns-clause-only
returns-clause-only c r q word h one w = mended_only r c.args.position q c.args.rows.now c.loop-column.rows word (returns-clause-sum c) h one w
