use Rattle.std.proofs.Common.{◌≤◌, List, ℕ, length, sym, subst}
use Rattle.std.specs.Result.{IfOk, OnErr}
use Rattle.cb_types.specs.Config.{most_bytes}
use Rattle.cb_types.specs.declared.job.Job.TheVariants as jobs
use Rattle.cb_shared.specs.Calls.{AtNone, OfThis, TurnGives, TurnStops}
use Rattle.cb_shared.specs.Making.{MakesNew}
use Rattle.cb_shared.specs.Passes.{record_of}
use Rattle.cb_shared.proofs.CallSteps.{err_always, stops_at_once}
use Rattle.cb_shared.proofs.runtime.Shared.make.Goals as goal

pub returns-in_err-copy_of-clause-error : goal.returns-in_err-copy_of-clause-error
returns-in_err-copy_of-clause-error g c = err_always c.from_residual.result _
    (stops_at_once c.args.self.now.config AtNone (OfThis (jobs.Make c.args.bytes.now))
    (record_of c.args.pass.now))

pub turn_until-requires-clause-job : goal.turn_until-requires-clause-job
turn_until-requires-clause-job g c =
    subst (λ (l : List ℕ). (1 ≤ length l) × (length l ≤ most_bytes)) (sym c.in_ok-copy_of.ensures.items)
    c.requires.size

pub returns-clause-make : goal.returns-clause-make
returns-clause-make g c = subst (λ (l : List ℕ). IfOk c.turn_until.result (λ reply.
    TurnGives c.args.self.now.config (jobs.Make l) reply (record_of c.args.pass.now)
    (record_of c.turn_until.new.pass))) c.in_ok-copy_of.ensures.items c.turn_until.ensures.turn

pub returns-clause-new : goal.returns-clause-new
returns-clause-new g c = subst (λ (l : List ℕ). IfOk c.turn_until.result (λ reply.
    MakesNew c.args.self.now.board.shared.key.first (jobs.Make l) reply
    (record_of c.args.pass.now))) c.in_ok-copy_of.ensures.items c.turn_until.ensures.new

pub returns-clause-error : goal.returns-clause-error
returns-clause-error g c = subst (λ (l : List ℕ). OnErr c.turn_until.result
    (TurnStops c.args.self.now.config (jobs.Make l) (record_of c.args.pass.now)
    (record_of c.turn_until.new.pass)))
    c.in_ok-copy_of.ensures.items c.turn_until.ensures.error
