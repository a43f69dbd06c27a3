use Rattle.std.proofs.Common.{◌≡◌, ℕ, ◌<◌, ◌≤◌, IfNone, IsSome, Option, None, sym, subst}
use Rattle.std.specs.FinMap as map
use Rattle.cb_world.specs.Sets.{SetMap}
use Rattle.cb_world.proofs.NextSet.{first_next, none_next}
use Rattle.cb_world.proofs.set_table.SetTable.next.Goals as goal

pub returns-in_err-id-clause-none : goal.returns-in_err-id-clause-none
returns-in_err-id-clause-none c =
    let x = none_next c.self.inside.sets c.args.from c.range.result (c.range.ensures.in_range tt)
    c.in_err-id.ensures.steps.0 in
    let none = subst (λ (m : SetMap). (j : ℕ) → c.args.from ≤ j → map.get m j ≡ None) c.self.view_is x in
    subst (λ (o : Option ℕ). IfNone o ((j : ℕ) → c.args.from ≤ j → map.get c.args.self.now j ≡ None))
    (sym c.from_residual.ensures) none

pub returns-clause-found : goal.returns-clause-found
returns-clause-found c =
    let x = first_next c.self.inside.sets c.args.from (c.in_ok-id.id.now, c.in_ok-id.field-0-1.now) c.range.result _
    (c.range.ensures.in_range tt) c.in_ok-id.ensures.steps in
    subst (λ (m : SetMap). (c.args.from ≤ c.in_ok-id.id.now) × IsSome (map.get m c.in_ok-id.id.now)) c.self.view_is (x.above, x.there)

pub returns-clause-least : goal.returns-clause-least
returns-clause-least c =
    let x = first_next c.self.inside.sets c.args.from (c.in_ok-id.id.now, c.in_ok-id.field-0-1.now) c.range.result _
    (c.range.ensures.in_range tt) c.in_ok-id.ensures.steps in
    subst (λ (m : SetMap). (j : ℕ) → c.args.from ≤ j → j < c.in_ok-id.id.now → map.get m j ≡ None) c.self.view_is x.least
