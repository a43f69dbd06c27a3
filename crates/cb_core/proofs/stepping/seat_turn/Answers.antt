use Rattle.std.proofs.Common.{refl, inl}
use Rattle.cb_core.specs.Step.{free, held}
use Rattle.cb_core.proofs.Composing.{err_map, if_map}
use Rattle.cb_core.proofs.stepping.seat_turn.Goals as goal

pub returns-in-Some-clause-step : goal.returns-in-Some-clause-step
returns-in-Some-clause-step c =
    held c.in-Some.holder c.in-Some.ensures.found.0 c.in-Some.ensures.found.1 refl refl

pub returns-else-needs_order-clause-step : goal.returns-else-needs_order-clause-step
returns-else-needs_order-clause-step c = if_map _ _ c.turn_step.result c.turn_step.ensures.step
    (λ r step. free c.in-None.ensures.none step)

pub returns-else-needs_order-clause-error : goal.returns-else-needs_order-clause-error
returns-else-needs_order-clause-error c = err_map _ _ c.turn_step.result c.turn_step.ensures.error
    (λ stops. (c.in-None.ensures.none, inl stops))
