use Rattle.cb_core.specs.declared.event.Atomic.{Atomic}
use Rattle.cb_core.specs.Step.{AtomicStep}
use Rattle.cb_core.proofs.Composing.{by_result}
use Rattle.cb_core.proofs.HoldingSound.{take_step_sound, give_step_sound}
use Rattle.cb_core.proofs.OpenKeptSteps.{claim_step_sound, store_step_sound, settle_step_sound}
use Rattle.cb_core.proofs.PinsKept.{pin_step_sound, unpin_step_sound}
use Rattle.std.proofs.Common.{sym, subst}
use Rattle.cb_world.specs.World.{IsSoundWorld}
use Rattle.cb_core.proofs.stepping.atomic_step.Goals as goal

pub returns-in-Pin-clause-sound : goal.returns-in-Pin-clause-sound
returns-in-Pin-clause-sound c =
    pin_step_sound c.args.world.now c.pin.new.world c.args.seat c.in-Pin.handle.n c.pin.result
    c.requires.sound c.requires.seat (rw c.in-Pin.is at c.requires.handle) c.pin.ensures.step

pub returns-in-Unpin-clause-sound : goal.returns-in-Unpin-clause-sound
returns-in-Unpin-clause-sound c =
    unpin_step_sound c.args.world.now c.unpin.new.world c.args.seat c.in-Unpin.handle.n c.unpin.result
    c.requires.sound c.requires.seat (rw c.in-Unpin.is at c.requires.handle) c.unpin.ensures.step

pub returns-in-Claim-clause-sound : goal.returns-in-Claim-clause-sound
returns-in-Claim-clause-sound c =
    by_result _ _ _ c.claim.result c.claim.ensures.step c.claim.ensures.error
    (λ r step. claim_step_sound c.args.world.now c.claim.new.world c.args.seat c.in-Claim.handle.n
    c.in-Claim.at _ r c.requires.sound c.requires.seat (rw c.in-Claim.is at c.requires.handle) step)
    (λ same. subst IsSoundWorld (sym same) c.requires.sound)

pub returns-in-Store-clause-step : goal.returns-in-Store-clause-step
returns-in-Store-clause-step c = subst (λ (a : Atomic).
    AtomicStep c.args.seat a c.args.world.now c.store.result c.store.new.world) (sym c.in-Store.is)
    c.store.ensures.step

pub returns-in-Store-clause-sound : goal.returns-in-Store-clause-sound
returns-in-Store-clause-sound c =
    store_step_sound c.args.world.now c.store.new.world c.args.seat c.in-Store.handle.n c.store.result
    c.requires.sound c.requires.seat c.store.ensures.step

pub returns-in-Settle-clause-step : goal.returns-in-Settle-clause-step
returns-in-Settle-clause-step c = subst (λ (a : Atomic).
    AtomicStep c.args.seat a c.args.world.now c.settle.result c.settle.new.world) (sym c.in-Settle.is)
    c.settle.ensures.step

pub returns-in-Settle-clause-sound : goal.returns-in-Settle-clause-sound
returns-in-Settle-clause-sound c =
    settle_step_sound c.args.world.now c.settle.new.world c.args.seat c.in-Settle.handle.n
    c.settle.result c.requires.sound c.requires.seat c.settle.ensures.step

pub returns-in-Take-clause-step : goal.returns-in-Take-clause-step
returns-in-Take-clause-step c = subst (λ (a : Atomic).
    AtomicStep c.args.seat a c.args.world.now c.take.result c.take.new.world) (sym c.in-Take.is)
    c.take.ensures.step

pub returns-in-Take-clause-sound : goal.returns-in-Take-clause-sound
returns-in-Take-clause-sound c =
    take_step_sound c.args.world.now c.take.new.world c.args.seat c.take.result c.requires.sound
    c.requires.seat c.take.ensures.step

pub returns-in-Give-clause-step : goal.returns-in-Give-clause-step
returns-in-Give-clause-step c = subst (λ (a : Atomic).
    AtomicStep c.args.seat a c.args.world.now c.give.result c.give.new.world) (sym c.in-Give.is)
    c.give.ensures.step

pub returns-in-Give-clause-sound : goal.returns-in-Give-clause-sound
returns-in-Give-clause-sound c =
    give_step_sound c.args.world.now c.give.new.world c.args.seat c.give.result c.requires.sound
    c.requires.seat c.give.ensures.step
