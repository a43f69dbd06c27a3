use Rattle.std.proofs.Common.{ℕ, List, subst}
use Rattle.cb_local.specs.Delta.{ArePatched}
use Rattle.cb_local.proofs.Merged.{patched_merged}
use Rattle.cb_local.proofs.running.patched.Goals as goal

pub returns-clause-done : goal.returns-clause-done
returns-clause-done c table coeffs =
    let order = c.args.order.now in
    subst (λ (t : List (List ℕ)). ArePatched t order c.add_deltas.new.parities)
    (c.coefficient_laws.ensures.one_table order.k order.r c.coefficients-table.result table
    c.requires.range c.coefficients-table.ensures coeffs) c.add_deltas.ensures

pub returns-clause-merged : goal.returns-clause-merged
returns-clause-merged c =
    patched_merged c.coefficients-table.result c.args.order.now c.add_deltas.new.parities
    c.requires c.coefficients-table.ensures c.add_deltas.ensures
