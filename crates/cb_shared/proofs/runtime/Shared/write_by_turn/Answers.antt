use Rattle.std.proofs.Common.{[], List, ℕ, inl, refl, subst}
use Rattle.std.specs.Prelude.{IfOk, Result, Ok, Err}
use Rattle.std.proofs.lemmas.Result.{IfOk-from_err, IfOk-weaker, on_err_weaker}
use Rattle.cb_member.specs.declared.no_memory.NoMemory.{NoMemory}
use Rattle.cb_types.specs.declared.job.Job.TheVariants as jobs
use Rattle.cb_shared.specs.Calls.{AtNone, OfThis, TurnStops, TurnTries}
use Rattle.cb_shared.specs.Fetching.{GetsTurns, IsOneAtMost, IsOneOf}
use Rattle.cb_shared.specs.Passes.{record_of}
use Rattle.cb_shared.proofs.CallSteps.{err_always, stops_at_once}
use Rattle.cb_shared.proofs.Fetches.{at_most_one}
use Rattle.cb_shared.proofs.Resting.{known_below}
use Rattle.cb_shared.proofs.runtime.Shared.write_by_turn.Goals as goal

pub returns-in_err-copy_of-clause-of : goal.returns-in_err-copy_of-clause-of
returns-in_err-copy_of-clause-of g c = c.requires.of

pub returns-in_err-copy_of-clause-turn : goal.returns-in_err-copy_of-clause-turn
returns-in_err-copy_of-clause-turn g c = IfOk-from_err _ _ c.from_residual.ensures.0

pub returns-in_err-copy_of-clause-error : goal.returns-in_err-copy_of-clause-error
returns-in_err-copy_of-clause-error g c = err_always c.from_residual.result _
    (stops_at_once c.args.self.now.config AtNone
    (OfThis (jobs.Write c.args.h c.args.at c.args.bytes.now)) (record_of c.args.pass.now))

pub returns-in_err-copy_of-clause-one : goal.returns-in_err-copy_of-clause-one
returns-in_err-copy_of-clause-one g c = ([], refl, inl refl)

pub returns-in_err-copy_of-clause-on : goal.returns-in_err-copy_of-clause-on
returns-in_err-copy_of-clause-on g c = IfOk-from_err _ _ c.from_residual.ensures.0

pub try_turn-requires-clause-job : goal.try_turn-requires-clause-job
try_turn-requires-clause-job g c = known_below c.args.self.now.config c.args.h.n
    (record_of c.args.pass.now) c.requires.of.rest c.requires.knows

pub returns-clause-of : goal.returns-clause-of
returns-clause-of g c = c.try_turn.ensures.of

pub returns-clause-turn : goal.returns-clause-turn
returns-clause-turn g c = IfOk-weaker c.try_turn.result _ _
    (λ o x. subst (λ (l : List ℕ). TurnTries c.args.self.now.config
    (jobs.Write c.args.h c.args.at l) o (record_of c.args.pass.now)
    (record_of c.try_turn.new.pass)) c.in_ok-copy_of.ensures.items x) c.try_turn.ensures.turn

pub returns-clause-error : goal.returns-clause-error
returns-clause-error g c = on_err_weaker c.try_turn.result
    (λ x. subst (λ (l : List ℕ). TurnStops c.args.self.now.config
    (jobs.Write c.args.h c.args.at l) (record_of c.args.pass.now)
    (record_of c.try_turn.new.pass)) c.in_ok-copy_of.ensures.items x) c.try_turn.ensures.error

pub returns-clause-one : goal.returns-clause-one
returns-clause-one g c = subst (λ (l : List ℕ). GetsTurns (IsOneAtMost
    (jobs.Write c.args.h c.args.at l)) (record_of c.args.pass.now) (record_of c.try_turn.new.pass))
    c.in_ok-copy_of.ensures.items (at_most_one _ (record_of c.args.pass.now)
    (record_of c.try_turn.new.pass) c.try_turn.ensures.one)

-- what holds whatever the answer is
always : {T : Type 0} (r : Result T NoMemory) {P : Type 0} → P → IfOk r (λ x. P)
always (Ok x) p = p
always (Err e) p = tt

pub returns-clause-on : goal.returns-clause-on
returns-clause-on g c = always c.try_turn.result (subst (λ (l : List ℕ). GetsTurns
    (IsOneOf (jobs.Write c.args.h c.args.at l)) (record_of c.args.pass.now)
    (record_of c.try_turn.new.pass)) c.in_ok-copy_of.ensures.items c.try_turn.ensures.one)
