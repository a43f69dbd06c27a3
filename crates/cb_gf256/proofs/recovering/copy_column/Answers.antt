use Rattle.std.proofs.Common.{◌≡◌, ◌+◌, ◌*◌, ℕ, length, get_or, set, sym, ap, subst, ◌∙◌, arith}
use Rattle.cb_gf256.specs.Rows.{row_at, rows_at, byte_at}
use Rattle.cb_gf256.specs.Block.{cut_rows}
use Rattle.cb_gf256.specs.Placing.{Placed}
use Rattle.cb_gf256.proofs.Placing.{byte_placed}
use Rattle.cb_gf256.proofs.Summing.{row_at-rows_at}
use Rattle.cb_gf256.proofs.recovering.copy_column.Goals as goal

pub loop-i-preserved : goal.loop-i-preserved
loop-i-preserved c =
    let rows = c.args.rows.now in
    let sources = c.args.sources.now in
    let i = c.loop-i.i in
    let at = c.args.column in
    let len = c.args.len in
    let cut = cut_rows c.args.count len in
    let out = c.loop-i.out in
    let byte = get_or c.row.result.now at 0 in
    let v = λ (m : ℕ) (l : ℕ). byte_at (rows_at rows sources) m (at + l) in
    let zero_more : at ≡ at + 0 = omega arith in
    let shown : byte ≡ v i 0 = ap (λ row. get_or row at 0) (c.row.ensures.value ∙ ap (row_at rows) c.from.ensures ∙ sym (row_at-rows_at rows sources i c.loop-i-test.true)) ∙ ap (byte_at (rows_at rows sources) i) zero_more in
    subst (λ t. Placed 1 at sources v (cut c.args.out.now) (cut (set out (t * len + at) byte)) (i + 1)) (sym c.from-in-loop-i.ensures)
    (byte_placed at len c.args.count byte sources v (cut c.args.out.now) out i c.requires.ascending c.loop-i-test.true (c.requires.below i 0 c.loop-i-test.true) (c.loop-i.auto.out ∙ c.requires.size) c.requires.inside shown c.loop-i.invariant)

pub returns : goal.returns
returns c =
    let all : c.loop-i.i ≡ length c.args.sources.now = omega arith in
    let cut = cut_rows c.args.count c.args.len in
    subst (Placed 1 c.args.column c.args.sources.now (λ i l. byte_at (rows_at c.args.rows.now c.args.sources.now) i (c.args.column + l)) (cut c.args.out.now) (cut c.loop-i.out)) all c.loop-i.invariant
