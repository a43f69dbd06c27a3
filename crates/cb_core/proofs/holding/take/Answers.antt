use Rattle.std.proofs.Common.{refl, subst}
use Rattle.cb_types.specs.declared.reply.Reply.TheVariants as answer
use Rattle.cb_world.specs.World.{WorldState}
use Rattle.cb_core.specs.Holding.{TakeStep, held}
use Rattle.cb_core.proofs.holding.take.Goals as goal

pub returns-in-Some : goal.returns-in-Some
returns-in-Some c = record {
  step = subst (λ (w : WorldState). TakeStep c.args.seat w (answer.Held c.in-Some.holder) w)
      c.world.view_is (held c.in-Some.holder c.in-Some.ensures.found refl refl);
}
