use Rattle.std.proofs.Common.{◌≡◌, true, false, refl, sym, ◌∙◌, arith}
use Rattle.carbink_c.proofs.Cutting.{same_more, same_all, other_row}
use Rattle.carbink_c.proofs.buffers.same_rows.Goals as goal

pub returns-then-ne : goal.returns-then-ne
returns-then-ne c = (
  λ t. let e : false ≡ true = t in cc,
  λ same. absurd (other_row c.args.len c.loop-i.i c.args.rows.now c.args.buffer.now c.row.result.now (omega (arith, c.loop-i-test.true, c.count-height.ensures)) c.row.ensures.value (sym c.ne.ensures ∙ c.if-ne.true) same),
)

pub loop-i-preserved : goal.loop-i-preserved
loop-i-preserved c =
    same_more c.args.len c.loop-i.i c.args.rows.now c.args.buffer.now c.row.result.now (omega (arith, c.loop-i-test.true, c.count-height.ensures)) c.row.ensures.value
    (sym c.ne.ensures ∙ c.if-ne.false) c.loop-i.invariant

pub returns : goal.returns
returns c = (λ t. same_all c.args.len c.loop-i.i c.args.rows.now c.args.buffer.now (omega (arith, c.loop-i-test.false, c.loop-i.auto.i-end, c.count-height.ensures)) c.loop-i.invariant, λ same. refl)
