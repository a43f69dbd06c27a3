use Rattle.std.proofs.Common.{◌<◌, ℕ, List, length, ap₂, ◌∙◌, arith}
use Rattle.cb_gf256.specs.Row.{row_sum, scaled_row}
use Rattle.cb_local.proofs.Adding.{one_more}
use Rattle.cb_local.proofs.running.add_delta.Goals as goal

pub loop-parity-preserved : goal.loop-parity-preserved
loop-parity-preserved c =
    let old = c.args.parities.now in let n = c.loop-parity.parity in
    let within : n < length old =
    let l = c.loop-parity-test.true in let e = c.count-parity-end.ensures in
    omega (arith, l, e) in
    one_more c.args.table.now c.args.position c.args.delta.now old c.loop-parity.parities n
    c.patch.new.parity c.loop-parity.invariant within
    (c.patch.ensures.value
    ∙ ap₂ (λ (p : List ℕ) (k : ℕ). row_sum p (scaled_row k c.args.delta.now))
    c.row_mut.ensures.value c.at.ensures)
