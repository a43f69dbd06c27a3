use Rattle.std.proofs.Common.{Option, None, ap, inl, inr, refl, subst}
use Rattle.std.proofs.lemmas.Result.{IfOk-from_err, IfOk-weaker, on_err_weaker}
use Rattle.cb_types.specs.declared.job.Job.TheVariants as jobs
use Rattle.cb_types.specs.declared.reply.Reply.{Reply}
use Rattle.cb_shared.specs.Calls.{AtNone, IsUnanswered, IsWriteJob, OfThis, TurnTries}
use Rattle.cb_shared.specs.Passes.{record_of}
use Rattle.cb_shared.specs.Ways.{landing_told}
use Rattle.cb_shared.proofs.CallSteps.{err_always, known_still, stops_then}
use Rattle.cb_shared.proofs.FarSteps.{tries_by_then, turn_stops, turn_tries}
use Rattle.cb_shared.proofs.InOrder.{lacks_to}
use Rattle.cb_shared.proofs.WriteTurns.{few_writes, landed_on, one_writes_on, writes_behind}
use Rattle.cb_shared.proofs.WriteTurns.{writes_behind_on}
use Rattle.cb_shared.proofs.runtime.Shared.land_or_write.Goals as goal

pub land_order-requires-clause-of : goal.land_order-requires-clause-of
land_order-requires-clause-of g c = c.requires.of

pub land_order-requires-clause-kept : goal.land_order-requires-clause-kept
land_order-requires-clause-kept g c = c.requires.kept

pub land_order-requires-clause-fits : goal.land_order-requires-clause-fits
land_order-requires-clause-fits g c = c.requires.fits

pub returns-in_err-land_order-clause-of : goal.returns-in_err-land_order-clause-of
returns-in_err-land_order-clause-of g c = c.in_err-land_order.ensures.of

pub returns-in_err-land_order-clause-write : goal.returns-in_err-land_order-clause-write
returns-in_err-land_order-clause-write g c = IfOk-from_err _ _ c.from_residual.ensures.0

pub returns-in_err-land_order-clause-error : goal.returns-in_err-land_order-clause-error
returns-in_err-land_order-clause-error g c = err_always c.from_residual.result _
    (turn_stops AtNone (IsWriteJob c.args.h.n c.args.at c.args.bytes.now) jobs.Land
    (inr (inr refl)) (λ k x. x) c.args.self.now.config (record_of c.args.pass.now)
    (record_of c.land_order.new.pass) c.in_err-land_order.ensures.error)

pub returns-in_err-land_order-clause-jobs : goal.returns-in_err-land_order-clause-jobs
returns-in_err-land_order-clause-jobs g c = few_writes c.args.h.n
    (jobs.Write c.args.h c.args.at c.args.bytes.now) (Unit {0}) ⊥ jobs.Land jobs.Land
    (inl (refl, tt)) (record_of c.args.pass.now) (record_of c.land_order.new.pass)
    c.in_err-land_order.ensures.one

pub returns-in_err-land_order-clause-on : goal.returns-in_err-land_order-clause-on
returns-in_err-land_order-clause-on g c = IfOk-from_err _ _ c.from_residual.ensures.0

pub write_by_turn-requires-clause-of : goal.write_by_turn-requires-clause-of
write_by_turn-requires-clause-of g c = c.in_ok-land_order.ensures.of

pub write_by_turn-requires-clause-knows : goal.write_by_turn-requires-clause-knows
write_by_turn-requires-clause-knows g c = known_still AtNone (IsUnanswered (OfThis jobs.Land))
    (Rattle.std.proofs.Common.Some c.args.h.n) (record_of c.args.pass.now)
    (record_of c.land_order.new.pass) c.requires.knows
    (subst (λ (o : Option Reply). TurnTries c.args.self.now.config jobs.Land o
    (record_of c.args.pass.now) (record_of c.land_order.new.pass)) (ap landing_told c.in-Lacks.is)
    c.in_ok-land_order.ensures.turn)

pub returns-in-Lacks-clause-of : goal.returns-in-Lacks-clause-of
returns-in-Lacks-clause-of g c = c.write_by_turn.ensures.of

pub returns-in-Lacks-clause-write : goal.returns-in-Lacks-clause-write
returns-in-Lacks-clause-write g c = let h = c.args.h.n in let a = c.args.at in
    let b = c.args.bytes.now in let k = c.args.self.now.config in
    let v = record_of c.args.pass.now in let w = record_of c.land_order.new.pass in
    let u = record_of c.write_by_turn.new.pass in
    let vain = turn_tries AtNone (IsWriteJob h a b) jobs.Land (inr (inr refl)) (λ j y. y) k None v w
    (λ r. refl) (subst (λ (o : Option Reply). TurnTries k jobs.Land o v w)
    (ap landing_told c.in-Lacks.is) c.in_ok-land_order.ensures.turn) in
    IfOk-weaker c.write_by_turn.result _ _
    (λ o x. tries_by_then k AtNone (IsWriteJob h a b) o v w u vain
    (turn_tries AtNone (IsWriteJob h a b) (jobs.Write c.args.h a b) (inl refl) (λ j y. y) k o w u
    (λ r. refl) x)) c.write_by_turn.ensures.turn

pub returns-in-Lacks-clause-error : goal.returns-in-Lacks-clause-error
returns-in-Lacks-clause-error g c = let h = c.args.h.n in let a = c.args.at in
    let b = c.args.bytes.now in let k = c.args.self.now.config in
    let v = record_of c.args.pass.now in let w = record_of c.land_order.new.pass in
    let u = record_of c.write_by_turn.new.pass in
    let vain = turn_tries AtNone (IsWriteJob h a b) jobs.Land (inr (inr refl)) (λ j y. y) k None v w
    (λ r. refl) (subst (λ (o : Option Reply). TurnTries k jobs.Land o v w)
    (ap landing_told c.in-Lacks.is) c.in_ok-land_order.ensures.turn) in
    on_err_weaker c.write_by_turn.result
    (λ x. stops_then k AtNone (IsWriteJob h a b) v w u vain
    (turn_stops AtNone (IsWriteJob h a b) (jobs.Write c.args.h a b) (inl refl) (λ j y. y) k w u x))
    c.write_by_turn.ensures.error

pub returns-in-Lacks-clause-jobs : goal.returns-in-Lacks-clause-jobs
returns-in-Lacks-clause-jobs g c = let h = c.args.h.n in
    let own = jobs.Write c.args.h c.args.at c.args.bytes.now in
    let b = c.args.patience.now.brought in let m = c.land_order.new.patience.brought in
    let v = record_of c.args.pass.now in let w = record_of c.land_order.new.pass in
    let u = record_of c.write_by_turn.new.pass in
    writes_behind h own (Unit {0}) ⊥ jobs.Land (jobs.Swap c.args.h) b m v w u (inl (refl, tt))
    (lacks_to h c.in_ok-land_order.field-0 b m v w c.in-Lacks.is c.in_ok-land_order.ensures.landed)
    (few_writes h own (Unit {0}) ⊥ (jobs.Swap c.args.h) own refl w u c.write_by_turn.ensures.one)

pub returns-in-Lacks-clause-on : goal.returns-in-Lacks-clause-on
returns-in-Lacks-clause-on g c = let h = c.args.h.n in
    let own = jobs.Write c.args.h c.args.at c.args.bytes.now in
    let b = c.args.patience.now.brought in let m = c.land_order.new.patience.brought in
    let v = record_of c.args.pass.now in let w = record_of c.land_order.new.pass in
    let u = record_of c.write_by_turn.new.pass in IfOk-weaker c.write_by_turn.result _ _
    (λ o x none. writes_behind_on h own (Unit {0}) ⊥ jobs.Land (jobs.Swap c.args.h) b m v w u
    (inl (refl, tt))
    (lacks_to h c.in_ok-land_order.field-0 b m v w c.in-Lacks.is c.in_ok-land_order.ensures.landed)
    (one_writes_on h own (Unit {0}) ⊥ (jobs.Swap c.args.h) own refl w u (λ r. refl) x))
    c.write_by_turn.ensures.on

pub returns-in-Told-clause-of : goal.returns-in-Told-clause-of
returns-in-Told-clause-of g c = c.in_ok-land_order.ensures.of

pub returns-in-Told-clause-write : goal.returns-in-Told-clause-write
returns-in-Told-clause-write g c = let k = c.args.self.now.config in
    let v = record_of c.args.pass.now in let w = record_of c.land_order.new.pass in
    turn_tries AtNone (IsWriteJob c.args.h.n c.args.at c.args.bytes.now) jobs.Land (inr (inr refl))
    (λ j y. y) k c.in-Told.told v w (λ r. refl)
    (subst (λ (o : Option Reply). TurnTries k jobs.Land o v w) (ap landing_told c.in-Told.is)
    c.in_ok-land_order.ensures.turn)

pub returns-in-Told-clause-jobs : goal.returns-in-Told-clause-jobs
returns-in-Told-clause-jobs g c = few_writes c.args.h.n
    (jobs.Write c.args.h c.args.at c.args.bytes.now) (Unit {0}) ⊥ jobs.Land jobs.Land
    (inl (refl, tt)) (record_of c.args.pass.now) (record_of c.land_order.new.pass)
    c.in_ok-land_order.ensures.one

pub returns-in-Told-clause-on : goal.returns-in-Told-clause-on
returns-in-Told-clause-on g c = λ none. landed_on c.args.h.n
    (jobs.Write c.args.h c.args.at c.args.bytes.now) c.in-Told.told c.in_ok-land_order.field-0
    c.args.patience.now.brought c.land_order.new.patience.brought (record_of c.args.pass.now)
    (record_of c.land_order.new.pass) c.in-Told.is c.in_ok-land_order.ensures.landed
