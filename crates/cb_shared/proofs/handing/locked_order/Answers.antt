use Rattle.std.proofs.Common.{◌∙◌, Bool, Option, Some, ap, subst, sym, arith}
use Rattle.std.specs.Prelude.{IfOk}
use Rattle.cb_types.specs.declared.order.Kept.{Kept}
use Rattle.cb_world.specs.declared.shown.Shown.{Shown}
use Rattle.cb_world.specs.FarState.{FarState}
use Rattle.cb_rule.specs.Locking.{Stood}
use Rattle.cb_rule.specs.Slot.{Sat}
use Rattle.cb_rule.specs.TriesAgain.{is_to_try_again}
use Rattle.cb_shared.specs.Ordering.{MayAsk, job_of, keeps_of, order_run, told}
use Rattle.cb_shared.specs.Seats.{record_at}
use Rattle.cb_shared.specs.Trying.{tries_of}
use Rattle.cb_shared.specs.Turning.{TellsLost, answer_of}
use Rattle.cb_shared.specs.UnderLock.{TurnedBy}
use Rattle.cb_shared.proofs.AfterTurn.{at_end, begins_taken, ends_work, of_taken, of_work}
use Rattle.cb_shared.proofs.AfterTurn.{order_taken, order_worked, slots_taken, took_as, turn_with}
use Rattle.cb_shared.proofs.AfterTurn.{turned_by, worked_by}
use Rattle.cb_shared.proofs.Handed.{tried_run}
use Rattle.cb_shared.proofs.handing.locked_order.Goals as goal

pub ask_by_seat-outcome-requires-clause-of : goal.ask_by_seat-outcome-requires-clause-of
ask_by_seat-outcome-requires-clause-of g c = of_taken c.args.top.now.table_id c.args.top.now.key
    c.args.config.now c.lock_far-far.result c.args.seat.now c.lock_far-far.new.seat c.requires.of
    c.lock_far-far.ensures.took

pub ask_by_seat-outcome-requires-clause-may : goal.ask_by_seat-outcome-requires-clause-may
ask_by_seat-outcome-requires-clause-may g c =
    subst (λ (o : Option Kept). MayAsk c.args.config.now o c.args.asked.now)
    (sym (order_taken c.args.config.now c.lock_far-far.result c.args.seat.now
    c.lock_far-far.new.seat c.lock_far-far.ensures.took)) c.requires.may

pub ask_by_seat-outcome-requires-clause-begins : goal.ask_by_seat-outcome-requires-clause-begins
ask_by_seat-outcome-requires-clause-begins g c = begins_taken c.args.config.now
    c.deref_mut.result.now c.args.seat.now c.lock_far-far.new.seat c.requires.rest
    (took_as c.args.config.now c.deref_mut.result.now c.lock_far-far.result
    c.args.seat.now c.lock_far-far.new.seat (c.deref_mut.ensures.value ∙ c.far.view_is)
    c.lock_far-far.ensures.took)

pub is_order_tried_again-again-requires-clause-stood :
    goal.is_order_tried_again-again-requires-clause-stood
is_order_tried_again-again-requires-clause-stood g c =
    subst (λ (far : FarState). (known : Shown) × Stood c.args.config.now known far)
    (sym c.deref.ensures) (_, c.ask_by_seat-outcome.ensures.work.stood)

pub give_far-requires-clause-of : goal.give_far-requires-clause-of
give_far-requires-clause-of g c = of_work c.args.top.now.table_id c.args.top.now.key
    c.args.config.now (job_of c.args.asked.now) (told c.ask_by_seat-outcome.result) _
    c.deref_mut.result.now c.ask_by_seat-outcome.new.far c.lock_far-far.new.seat
    c.ask_by_seat-outcome.new.seat (of_taken c.args.top.now.table_id c.args.top.now.key
    c.args.config.now c.deref_mut.result.now c.args.seat.now c.lock_far-far.new.seat c.requires.of
    (took_as c.args.config.now c.deref_mut.result.now c.lock_far-far.result
    c.args.seat.now c.lock_far-far.new.seat (c.deref_mut.ensures.value ∙ c.far.view_is)
    c.lock_far-far.ensures.took)) c.ask_by_seat-outcome.ensures.work

pub give_far-requires-clause-slot : goal.give_far-requires-clause-slot
give_far-requires-clause-slot g c =
    ap (λ (m : Sat). m.1) c.ask_by_seat-outcome.ensures.work.moves.2
    ∙ slots_taken c.args.config.now c.lock_far-far.result c.args.seat.now c.lock_far-far.new.seat
    c.requires.slots c.lock_far-far.ensures.took

pub give_far-requires-clause-few : goal.give_far-requires-clause-few
give_far-requires-clause-few g c =
    let n = c.ask_by_seat-outcome.ensures.work.stood.counted.turns in omega (arith, n)

pub give_far-requires-clause-ends : goal.give_far-requires-clause-ends
give_far-requires-clause-ends g c = let config = c.args.config.now in
    let job = job_of c.args.asked.now in let o = c.ask_by_seat-outcome.result in
    let took = c.deref_mut.result.now in let gave = c.ask_by_seat-outcome.new.far in
    let l = c.lock_far-far.new.seat in let m = c.ask_by_seat-outcome.new.seat in
    ends_work config job (told o) (keeps_of o (record_at m).order) took gave l m
    (begins_taken config took c.args.seat.now l c.requires.rest
    (took_as config took c.lock_far-far.result c.args.seat.now l
    (c.deref_mut.ensures.value ∙ c.far.view_is) c.lock_far-far.ensures.took))
    (worked_by config job (told o) (keeps_of o) took gave l m c.ask_by_seat-outcome.ensures.work)

pub returns-clause-same : goal.returns-clause-same
returns-clause-same g c = let config = c.args.config.now in
    let job = job_of c.args.asked.now in let o = c.ask_by_seat-outcome.result in
    let took = c.deref_mut.result.now in let gave = c.ask_by_seat-outcome.new.far in
    let l = c.lock_far-far.new.seat in let m = c.ask_by_seat-outcome.new.seat in
    at_end config job (told o) _ took gave c.args.seat.now l m c.give_far.new.seat
    (took_as config took c.lock_far-far.result c.args.seat.now l
    (c.deref_mut.ensures.value ∙ c.far.view_is) c.lock_far-far.ensures.took)
    (worked_by config job (told o) (keeps_of o) took gave l m c.ask_by_seat-outcome.ensures.work)
    c.give_far.ensures

pub returns-clause-turn : goal.returns-clause-turn
returns-clause-turn g c = let config = c.args.config.now in
    let job = job_of c.args.asked.now in let o = c.ask_by_seat-outcome.result in let r = told o in
    let took = c.deref_mut.result.now in let gave = c.ask_by_seat-outcome.new.far in
    let p = c.args.seat.now in
    let l = c.lock_far-far.new.seat in let m = c.ask_by_seat-outcome.new.seat in
    let t = took_as config took c.lock_far-far.result p l
    (c.deref_mut.ensures.value ∙ c.far.view_is) c.lock_far-far.ensures.took in
    let w = c.ask_by_seat-outcome.ensures.work in let same = order_taken config took p l t in
    subst (λ (x : Option Kept). TurnedBy config job r (keeps_of o x) (record_at p)
    (record_at c.give_far.new.seat))
    (order_worked config job r _ took gave l m w ∙ same)
    (turned_by config job r (keeps_of o (record_at m).order) took p l c.give_far.new.seat
    c.requires.rest t (turn_with config job r (keeps_of o (record_at m).order) took gave l m
    c.give_far.new.seat (worked_by config job r (keeps_of o) took gave l m w)
    c.give_far.ensures)
    (subst (λ (x : Option Kept). IfOk r (λ reply. TellsLost job x took reply)) same
    c.ask_by_seat-outcome.ensures.tells))

pub returns-clause-again : goal.returns-clause-again
returns-clause-again g c = let config = c.args.config.now in let asked = c.args.asked.now in
    let o = c.ask_by_seat-outcome.result in let took = c.deref_mut.result.now in
    let gave = c.ask_by_seat-outcome.new.far in
    let l = c.lock_far-far.new.seat in let m = c.ask_by_seat-outcome.new.seat in
    let same = order_worked config (job_of asked) (told o) _ took gave l m
    c.ask_by_seat-outcome.ensures.work
    ∙ order_taken config c.lock_far-far.result c.args.seat.now l c.lock_far-far.ensures.took in
    let may = subst (λ (x : Option Kept). MayAsk config x asked) (sym same) c.requires.may in
    ap (λ (x : Sat). tries_of x.0) c.give_far.ensures.at.2
    ∙ ap (λ (b : Bool). Some b) (sym (c.is_order_tried_again-again.ensures
    ∙ ap (λ (far : FarState). is_to_try_again far (order_run asked) (job_of asked)
    (answer_of (told o))) c.deref.ensures
    ∙ tried_run config gave (record_at m).order asked (answer_of (told o)) may))

pub returns-clause-kind : goal.returns-clause-kind
returns-clause-kind g c = c.ask_by_seat-outcome.ensures.kind

pub returns-clause-runs : goal.returns-clause-runs
returns-clause-runs g c = c.ask_by_seat-outcome.ensures.runs
