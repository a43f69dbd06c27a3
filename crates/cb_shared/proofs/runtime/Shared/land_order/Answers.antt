use Rattle.std.proofs.Common.{◌∙◌, [], Some, ap, sym, inl, refl}
use Rattle.std.proofs.lemmas.Result.{IfOk-from_err}
use Rattle.cb_types.specs.declared.job.Job.TheVariants.{Land}
use Rattle.cb_types.specs.declared.order.DecodeOrder.{DecodeOrder}
use Rattle.cb_types.specs.declared.order.Kept.TheVariants.{Decode}
use Rattle.cb_shared.specs.Calls.{AtNone, OfThis}
use Rattle.cb_shared.specs.Passes.{record_of}
use Rattle.cb_shared.proofs.CallSteps.{err_always, stops_at_once, turn_without}
use Rattle.cb_shared.proofs.Fetches.{at_most_one, one_of}
use Rattle.cb_shared.proofs.FarSteps.{landed_by, order_kept, landing_tries}
use Rattle.cb_shared.proofs.runtime.Shared.land_order.Goals as goal

pub land-requires-clause-kept : goal.land-requires-clause-kept
land-requires-clause-kept g c = c.requires.kept
    ∙ ap (λ (o : DecodeOrder). Some (Decode o)) (sym (order_kept c.run_decode.result c.in-Ok.done
    c.args.order c.in-Ok.is c.run_decode.ensures.order))

pub returns-in_err-reply-in-Ok-clause-of : goal.returns-in_err-reply-in-Ok-clause-of
returns-in_err-reply-in-Ok-clause-of g c = c.in_err-reply-in-Ok.ensures.of

pub returns-in_err-reply-in-Ok-clause-turn : goal.returns-in_err-reply-in-Ok-clause-turn
returns-in_err-reply-in-Ok-clause-turn g c = IfOk-from_err _ _ c.from_residual.ensures.0

pub returns-in_err-reply-in-Ok-clause-error : goal.returns-in_err-reply-in-Ok-clause-error
returns-in_err-reply-in-Ok-clause-error g c = err_always c.from_residual.result _
    (turn_without c.args.self.now.config Land c.in_err-reply-in-Ok.field-0.0 (record_of c.args.pass.now)
    (record_of c.land.new.pass) c.in_err-reply-in-Ok.ensures.turn)

pub returns-in_err-reply-in-Ok-clause-one : goal.returns-in_err-reply-in-Ok-clause-one
returns-in_err-reply-in-Ok-clause-one g c = at_most_one Land (record_of c.args.pass.now)
    (record_of c.land.new.pass) (one_of c.args.self.now.config Land _ (record_of c.args.pass.now)
    (record_of c.land.new.pass) c.in_err-reply-in-Ok.ensures.turn)

pub returns-in_err-reply-in-Ok-clause-landed : goal.returns-in_err-reply-in-Ok-clause-landed
returns-in_err-reply-in-Ok-clause-landed g c = IfOk-from_err _ _ c.from_residual.ensures.0

pub returns-in-Ok-clause-of : goal.returns-in-Ok-clause-of
returns-in-Ok-clause-of g c = c.in_ok-reply-in-Ok.ensures.of

pub returns-in-Ok-clause-turn : goal.returns-in-Ok-clause-turn
returns-in-Ok-clause-turn g c = landing_tries c.args.self.now.config c.args.patience.now.brought
    c.landing_of.new.patience.brought c.in_ok-reply-in-Ok.reply c.landing_of.result
    (record_of c.args.pass.now) (record_of c.land.new.pass) c.in_ok-reply-in-Ok.ensures.turn
    c.landing_of.ensures

pub returns-in-Ok-clause-one : goal.returns-in-Ok-clause-one
returns-in-Ok-clause-one g c = at_most_one Land (record_of c.args.pass.now)
    (record_of c.land.new.pass) (one_of c.args.self.now.config Land _ (record_of c.args.pass.now)
    (record_of c.land.new.pass) c.in_ok-reply-in-Ok.ensures.turn)

pub returns-in-Ok-clause-landed : goal.returns-in-Ok-clause-landed
returns-in-Ok-clause-landed g c = landed_by c.args.self.now.config c.args.patience.now.brought
    c.landing_of.new.patience.brought c.in_ok-reply-in-Ok.reply c.landing_of.result
    (record_of c.args.pass.now) (record_of c.land.new.pass) c.in_ok-reply-in-Ok.ensures.turn
    c.landing_of.ensures

pub returns-clause-of : goal.returns-clause-of
returns-clause-of g c = c.requires.of

pub returns-clause-error : goal.returns-clause-error
returns-clause-error g c =
    stops_at_once c.args.self.now.config AtNone (OfThis Land) (record_of c.args.pass.now)

pub returns-clause-one : goal.returns-clause-one
returns-clause-one g c = ([], refl, inl refl)
