use Rattle.std.proofs.Common.{◌<◌, ℕ, List, length, get_or, ap, ap₂, ◌∙◌, subst}
use Rattle.cb_gf256.specs.Row.{row_sum}
use Rattle.cb_local.specs.Adding.{IsDeltaAdded}
use Rattle.cb_local.proofs.Patching.{one_patched}
use Rattle.cb_local.proofs.running.add_deltas.Goals as goal

pub loop-i-preserved : goal.loop-i-preserved
loop-i-preserved c =
    let order = c.args.order.now in let table = c.args.table.now in let n = c.loop-i.i in
    let items = c.as_slice-taken.ensures.items in
    let below : n < length order.taken =
    subst (λ (t : List ℕ). n < length t) items c.loop-i-test.true in
    let at = c.from.ensures ∙ ap (λ (t : List ℕ). get_or t n 0) items in
    one_patched table order c.requires.order n below c.delta.new.into
    (c.delta.ensures ∙ ap₂ row_sum c.row.ensures.value c.row-in-loop-i.ensures.value)
    c.loop-i.parities c.add_delta.new.parities c.loop-i.change c.loop-i.invariant
    (subst (λ (p : ℕ). IsDeltaAdded table p c.delta.new.into c.loop-i.parities
    c.add_delta.new.parities)
    at c.add_delta.ensures)
