use Rattle.std.proofs.Common.{◌-◌, ◌≤◌, ℕ, List, sym, ap, ◌∙◌, inl, inr}
use Rattle.std.proofs.lemmas.Bool.{cases_lt, false≢true}
use Rattle.cb_gf256.specs.Rows.{row_at}
use Rattle.cb_world.specs.Merged.{takes}
use Rattle.cb_local.specs.declared.order.DeltaOrder.{DeltaOrder}
use Rattle.cb_local.proofs.PutStep.{parity_row}
use Rattle.cb_local.proofs.putting.merged_row.Goals as goal

pub returns-in-None : goal.returns-in-None
returns-in-None c pages wa wb m x merged =
    let order = c.args.done.now.order in let p = c.args.position in
    let none = ap (λ (l : List ℕ). takes l p)
    (sym (c.as_slice.ensures.items ∙ ap (λ (o : DeltaOrder). o.taken) c.order-order.ensures))
    ∙ c.in-None.ensures.none in
    let past : order.k ≤ p = elim (cases_lt p order.k) [
      | inl l ↦ absurd (false≢true (sym none ∙ c.requires.taken l))
      | inr l ↦ l
    ] in
    parity_row order c.args.done.now.parities p c.row-in-None.result.now c.requires.merged
    c.requires.within past
    (c.row-in-None.ensures.value
    ∙ ap (λ (t : List (List ℕ)). row_at t (p - c.order-order.result.now.k))
    c.parities.ensures.rows ∙ ap (λ (o : DeltaOrder). row_at c.args.done.now.parities (p - o.k))
    c.order-order.ensures) pages wa wb m x merged
