use Rattle.std.proofs.Common.{Option, None, ap, refl, subst}
use Rattle.std.proofs.lemmas.Result.{IfOk-from_err, IfOk-weaker, on_err_weaker}
use Rattle.cb_types.specs.declared.job.Job.TheVariants as jobs
use Rattle.cb_types.specs.declared.reply.Reply.{Reply}
use Rattle.cb_shared.specs.Calls.{AtNone, Brings, TurnTries}
use Rattle.cb_shared.specs.Passes.{record_of}
use Rattle.cb_shared.specs.Ways.{landing_told}
use Rattle.cb_shared.proofs.CallSteps.{err_always, stops_then}
use Rattle.cb_shared.proofs.FarSteps.{brings_land, brings_swap, tries_by_then, turn_stops}
use Rattle.cb_shared.proofs.FarSteps.{turn_tries}
use Rattle.cb_shared.proofs.Fetches.{few_tries, landed_told, one_tries, one_tries_to, tries_behind}
use Rattle.cb_shared.proofs.Fetches.{tries_behind_to}
use Rattle.cb_shared.proofs.InOrder.{lacks_to}
use Rattle.cb_shared.proofs.runtime.Shared.land_or_swap.Goals as goal

pub land_order-requires-clause-of : goal.land_order-requires-clause-of
land_order-requires-clause-of g c = c.requires.of

pub land_order-requires-clause-kept : goal.land_order-requires-clause-kept
land_order-requires-clause-kept g c = c.requires.kept

pub land_order-requires-clause-fits : goal.land_order-requires-clause-fits
land_order-requires-clause-fits g c = c.requires.fits

pub returns-in_err-land_order-clause-of : goal.returns-in_err-land_order-clause-of
returns-in_err-land_order-clause-of g c = c.in_err-land_order.ensures.of

pub returns-in_err-land_order-clause-brings : goal.returns-in_err-land_order-clause-brings
returns-in_err-land_order-clause-brings g c = IfOk-from_err _ _ c.from_residual.ensures.0

pub returns-in_err-land_order-clause-error : goal.returns-in_err-land_order-clause-error
returns-in_err-land_order-clause-error g c = err_always c.from_residual.result _
    (turn_stops AtNone (Brings c.args.h.n) jobs.Land (brings_land c.args.h.n) (λ k x. x)
    c.args.self.now.config (record_of c.args.pass.now) (record_of c.land_order.new.pass)
    c.in_err-land_order.ensures.error)

pub returns-in_err-land_order-clause-jobs : goal.returns-in_err-land_order-clause-jobs
returns-in_err-land_order-clause-jobs g c = few_tries c.args.h.n jobs.Land
    (record_of c.args.pass.now) (record_of c.land_order.new.pass) c.in_err-land_order.ensures.one

pub returns-in_err-land_order-clause-brought : goal.returns-in_err-land_order-clause-brought
returns-in_err-land_order-clause-brought g c = IfOk-from_err _ _ c.from_residual.ensures.0

pub try_turn-requires-clause-of : goal.try_turn-requires-clause-of
try_turn-requires-clause-of g c = c.in_ok-land_order.ensures.of

pub try_turn-requires-clause-job : goal.try_turn-requires-clause-job
try_turn-requires-clause-job g c = c.requires.handle

pub try_turn-requires-clause-knows : goal.try_turn-requires-clause-knows
try_turn-requires-clause-knows g c = tt

pub try_turn-requires-clause-called : goal.try_turn-requires-clause-called
try_turn-requires-clause-called g c = tt

pub try_turn-requires-clause-alone : goal.try_turn-requires-clause-alone
try_turn-requires-clause-alone g c = tt

pub returns-in-Lacks-clause-of : goal.returns-in-Lacks-clause-of
returns-in-Lacks-clause-of g c = c.try_turn.ensures.of

pub returns-in-Lacks-clause-brings : goal.returns-in-Lacks-clause-brings
returns-in-Lacks-clause-brings g c = let h = c.args.h.n in let k = c.args.self.now.config in
    let v = record_of c.args.pass.now in let w = record_of c.land_order.new.pass in
    let u = record_of c.try_turn.new.pass in
    let vain = turn_tries AtNone (Brings h) jobs.Land (brings_land h) (λ j y. y) k None v w (λ r. refl)
    (subst (λ (o : Option Reply). TurnTries k jobs.Land o v w) (ap landing_told c.in-Lacks.is)
    c.in_ok-land_order.ensures.turn) in IfOk-weaker c.try_turn.result _ _
    (λ o x. tries_by_then k AtNone (Brings h) o v w u vain
    (turn_tries AtNone (Brings h) (jobs.Swap c.args.h) (brings_swap h) (λ j y. y) k o w u
    (λ r. refl) x)) c.try_turn.ensures.turn

pub returns-in-Lacks-clause-error : goal.returns-in-Lacks-clause-error
returns-in-Lacks-clause-error g c = let h = c.args.h.n in let k = c.args.self.now.config in
    let v = record_of c.args.pass.now in let w = record_of c.land_order.new.pass in
    let u = record_of c.try_turn.new.pass in
    let vain = turn_tries AtNone (Brings h) jobs.Land (brings_land h) (λ j y. y) k None v w (λ r. refl)
    (subst (λ (o : Option Reply). TurnTries k jobs.Land o v w) (ap landing_told c.in-Lacks.is)
    c.in_ok-land_order.ensures.turn) in on_err_weaker c.try_turn.result
    (λ x. stops_then k AtNone (Brings h) v w u vain
    (turn_stops AtNone (Brings h) (jobs.Swap c.args.h) (brings_swap h) (λ j y. y) k w u x))
    c.try_turn.ensures.error

pub returns-in-Lacks-clause-jobs : goal.returns-in-Lacks-clause-jobs
returns-in-Lacks-clause-jobs g c = let h = c.args.h.n in let b = c.args.patience.now.brought in
    let m = c.land_order.new.patience.brought in let v = record_of c.args.pass.now in
    let w = record_of c.land_order.new.pass in let u = record_of c.try_turn.new.pass in
    tries_behind h jobs.Land (jobs.Swap c.args.h) b m v w u
    (lacks_to h c.in_ok-land_order.field-0 b m v w c.in-Lacks.is c.in_ok-land_order.ensures.landed)
    (one_tries h (jobs.Swap c.args.h) w u c.try_turn.ensures.one)

pub returns-in-Lacks-clause-brought : goal.returns-in-Lacks-clause-brought
returns-in-Lacks-clause-brought g c = let h = c.args.h.n in
    let b = c.args.patience.now.brought in let m = c.land_order.new.patience.brought in
    let n = c.try_turn.new.patience.brought in let v = record_of c.args.pass.now in
    let w = record_of c.land_order.new.pass in let u = record_of c.try_turn.new.pass in
    IfOk-weaker c.try_turn.result _ _
    (λ o x none. tries_behind_to h jobs.Land (jobs.Swap c.args.h) b m v w u
    (lacks_to h c.in_ok-land_order.field-0 b m v w c.in-Lacks.is c.in_ok-land_order.ensures.landed)
    n (one_tries_to h (jobs.Swap c.args.h) m n w u (λ r. refl) (x none)))
    c.try_turn.ensures.brought

pub returns-in-Told-clause-of : goal.returns-in-Told-clause-of
returns-in-Told-clause-of g c = c.in_ok-land_order.ensures.of

pub returns-in-Told-clause-brings : goal.returns-in-Told-clause-brings
returns-in-Told-clause-brings g c = let h = c.args.h.n in let k = c.args.self.now.config in
    let v = record_of c.args.pass.now in let w = record_of c.land_order.new.pass in
    turn_tries AtNone (Brings h) jobs.Land (brings_land h) (λ j y. y) k c.in-Told.told v w
    (λ r. refl) (subst (λ (o : Option Reply). TurnTries k jobs.Land o v w)
    (ap landing_told c.in-Told.is) c.in_ok-land_order.ensures.turn)

pub returns-in-Told-clause-jobs : goal.returns-in-Told-clause-jobs
returns-in-Told-clause-jobs g c = few_tries c.args.h.n jobs.Land (record_of c.args.pass.now)
    (record_of c.land_order.new.pass) c.in_ok-land_order.ensures.one

pub returns-in-Told-clause-brought : goal.returns-in-Told-clause-brought
returns-in-Told-clause-brought g c = λ none. landed_told c.args.h.n c.in-Told.told
    c.in_ok-land_order.field-0 c.args.patience.now.brought c.land_order.new.patience.brought
    (record_of c.args.pass.now) (record_of c.land_order.new.pass) c.in-Told.is
    c.in_ok-land_order.ensures.landed
