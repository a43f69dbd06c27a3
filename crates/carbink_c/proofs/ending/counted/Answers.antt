use Rattle.std.proofs.Common.{ap, sym, ◌∙◌}
use Rattle.carbink_c.proofs.Worlds.{given_told}
use Rattle.carbink_c.proofs.ending.counted.Goals as goal

pub returns-in-Some-clause-ends : goal.returns-in-Some-clause-ends
returns-in-Some-clause-ends c =
    given_told c.args.world.now.kept.world c.in-Some.held.value c.args.given.now c.given_by.result (sym (rw c.in-Some.is at c.take.ensures.world))
    (c.given_by.ensures ∙ ap (λ held. held.world.far.nodes.given) c.deref.ensures)
