use Rattle.std.proofs.Common.{◌∙◌, Bool, Option, None, Some, ap, subst, sym, arith}
use Rattle.cb_types.specs.declared.order.Kept.{Kept}
use Rattle.cb_world.specs.declared.shown.Shown.{Shown}
use Rattle.cb_world.specs.FarState.{FarState}
use Rattle.cb_rule.specs.Locking.{Stood}
use Rattle.cb_rule.specs.Slot.{Sat}
use Rattle.cb_rule.specs.TriesAgain.{is_to_try_again}
use Rattle.cb_shared.specs.Seats.{record_at}
use Rattle.cb_shared.specs.Trying.{tries_of}
use Rattle.cb_shared.specs.Turning.{answer_of}
use Rattle.cb_shared.specs.UnderLock.{TurnedBy}
use Rattle.cb_shared.proofs.AfterTurn.{at_end, begins_taken, ends_work, knows_taken, of_taken}
use Rattle.cb_shared.proofs.AfterTurn.{of_work, order_taken, order_worked, pins_taken, slots_taken}
use Rattle.cb_shared.proofs.AfterTurn.{took_as, turn_with, turned_by, worked_still}
use Rattle.cb_shared.proofs.DidAlone.{did_alone, tells_alone, tried_alone}
use Rattle.cb_shared.proofs.MadeFirst.{makes_new}
use Rattle.cb_shared.proofs.turning.locked_turn.Goals as goal

pub work-reply-requires-clause-of : goal.work-reply-requires-clause-of
work-reply-requires-clause-of g c = of_taken c.args.top.now.table_id c.args.top.now.key
    c.args.config.now c.lock_far-far.result c.args.seat.now c.lock_far-far.new.seat c.requires.of
    c.lock_far-far.ensures.took

pub work-reply-requires-clause-few : goal.work-reply-requires-clause-few
work-reply-requires-clause-few g c = pins_taken c.args.config.now c.lock_far-far.result
    c.args.seat.now c.lock_far-far.new.seat c.requires.few c.lock_far-far.ensures.took

pub work-reply-requires-clause-knows : goal.work-reply-requires-clause-knows
work-reply-requires-clause-knows g c = knows_taken c.args.config.now c.lock_far-far.result
    c.args.job.now c.args.seat.now c.lock_far-far.new.seat c.requires.knows c.lock_far-far.ensures.took

pub work-reply-requires-clause-begins : goal.work-reply-requires-clause-begins
work-reply-requires-clause-begins g c = begins_taken c.args.config.now c.deref_mut.result.now
    c.args.seat.now c.lock_far-far.new.seat c.requires.rest (took_as c.args.config.now c.deref_mut.result.now c.lock_far-far.result
    c.args.seat.now c.lock_far-far.new.seat (c.deref_mut.ensures.value ∙ c.far.view_is)
    c.lock_far-far.ensures.took)

pub is_to_try_again-again-requires-clause-stood : goal.is_to_try_again-again-requires-clause-stood
is_to_try_again-again-requires-clause-stood g c =
    subst (λ (far : FarState). (known : Shown) × Stood c.args.config.now known far)
    (sym c.deref.ensures) (_, c.work-reply.ensures.work.stood)

pub give_far-requires-clause-of : goal.give_far-requires-clause-of
give_far-requires-clause-of g c = of_work c.args.top.now.table_id c.args.top.now.key
    c.args.config.now c.args.job.now c.work-reply.result _ c.deref_mut.result.now c.work-reply.new.far
    c.lock_far-far.new.seat c.work-reply.new.seat (of_taken c.args.top.now.table_id
    c.args.top.now.key c.args.config.now c.deref_mut.result.now c.args.seat.now
    c.lock_far-far.new.seat c.requires.of (took_as c.args.config.now c.deref_mut.result.now c.lock_far-far.result
    c.args.seat.now c.lock_far-far.new.seat (c.deref_mut.ensures.value ∙ c.far.view_is)
    c.lock_far-far.ensures.took)) c.work-reply.ensures.work

pub give_far-requires-clause-slot : goal.give_far-requires-clause-slot
give_far-requires-clause-slot g c =
    ap (λ (m : Sat). m.1) c.work-reply.ensures.work.moves.2
    ∙ slots_taken c.args.config.now c.lock_far-far.result c.args.seat.now c.lock_far-far.new.seat
    c.requires.slots c.lock_far-far.ensures.took

pub give_far-requires-clause-few : goal.give_far-requires-clause-few
give_far-requires-clause-few g c = let n = c.work-reply.ensures.work.stood.counted.turns in
    omega (arith, n)

pub give_far-requires-clause-ends : goal.give_far-requires-clause-ends
give_far-requires-clause-ends g c = ends_work c.args.config.now c.args.job.now c.work-reply.result
    (record_at c.work-reply.new.seat).order c.deref_mut.result.now c.work-reply.new.far c.lock_far-far.new.seat c.work-reply.new.seat
    (begins_taken c.args.config.now c.deref_mut.result.now c.args.seat.now c.lock_far-far.new.seat
    c.requires.rest (took_as c.args.config.now c.deref_mut.result.now c.lock_far-far.result
    c.args.seat.now c.lock_far-far.new.seat (c.deref_mut.ensures.value ∙ c.far.view_is)
    c.lock_far-far.ensures.took)) (worked_still c.args.config.now c.args.job.now c.work-reply.result
    c.deref_mut.result.now c.work-reply.new.far c.lock_far-far.new.seat c.work-reply.new.seat
    c.work-reply.ensures.work)

pub returns-clause-same : goal.returns-clause-same
returns-clause-same g c = at_end c.args.config.now c.args.job.now c.work-reply.result _
    c.deref_mut.result.now c.work-reply.new.far c.args.seat.now c.lock_far-far.new.seat
    c.work-reply.new.seat c.give_far.new.seat
    (took_as c.args.config.now c.deref_mut.result.now c.lock_far-far.result
    c.args.seat.now c.lock_far-far.new.seat (c.deref_mut.ensures.value ∙ c.far.view_is)
    c.lock_far-far.ensures.took)
    (worked_still c.args.config.now c.args.job.now c.work-reply.result
    c.deref_mut.result.now c.work-reply.new.far c.lock_far-far.new.seat c.work-reply.new.seat
    c.work-reply.ensures.work) c.give_far.ensures

pub returns-clause-turn : goal.returns-clause-turn
returns-clause-turn g c = let config = c.args.config.now in let job = c.args.job.now in
    let r = c.work-reply.result in let took = c.deref_mut.result.now in let gave = c.work-reply.new.far in
    let l = c.lock_far-far.new.seat in let m = c.work-reply.new.seat in
    let t = took_as config took c.lock_far-far.result c.args.seat.now l
    (c.deref_mut.ensures.value ∙ c.far.view_is) c.lock_far-far.ensures.took in
    let w = c.work-reply.ensures.work in
    subst (λ (o : Option Kept). TurnedBy config job r o (record_at c.args.seat.now)
    (record_at c.give_far.new.seat))
    (order_worked config job r _ took gave l m w ∙ order_taken config took c.args.seat.now l t)
    (turned_by config job r (record_at m).order took c.args.seat.now l c.give_far.new.seat
    c.requires.rest t (turn_with config job r (record_at m).order took gave l m c.give_far.new.seat
    (worked_still config job r took gave l m w) c.give_far.ensures)
    (tells_alone job (record_at c.args.seat.now).order took r c.requires.alone
    c.work-reply.ensures.unavailable))

pub returns-clause-again : goal.returns-clause-again
returns-clause-again g c = ap (λ (m : Sat). tries_of m.0) c.give_far.ensures.at.2
    ∙ ap (λ (b : Bool). Some b) (sym (c.is_to_try_again-again.ensures
    ∙ ap (λ (far : FarState). is_to_try_again far None c.args.job.now
    (answer_of c.work-reply.result)) c.deref.ensures
    ∙ tried_alone c.work-reply.new.far None (record_at c.work-reply.new.seat).order c.args.job.now
    (answer_of c.work-reply.result) c.requires.alone))

pub returns-clause-new : goal.returns-clause-new
returns-clause-new g c = let t = took_as c.args.config.now c.deref_mut.result.now
    c.lock_far-far.result c.args.seat.now c.lock_far-far.new.seat
    (c.deref_mut.ensures.value ∙ c.far.view_is) c.lock_far-far.ensures.took in
    let w = c.work-reply.ensures.work in
    makes_new c.args.top.now.key.first c.args.config.now c.args.job.now c.work-reply.result
    (record_at c.lock_far-far.new.seat).known w.events c.deref_mut.result.now c.work-reply.new.far
    (record_at c.args.seat.now)
    (did_alone c.args.config.now c.args.job.now _ (answer_of c.work-reply.result) _
    (record_at c.lock_far-far.new.seat).known w.events c.deref_mut.result.now c.work-reply.new.far
    c.requires.alone w.did) (sym t.stood.sound.here.known.first
    ∙ sym (ap (λ (m : Sat). m.0.known.first) t.at.2) ∙ c.lock_far-far.ensures.first) t.made
