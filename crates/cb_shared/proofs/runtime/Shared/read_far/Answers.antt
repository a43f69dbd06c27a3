use Rattle.std.proofs.Common.{◌∙◌, inr, refl, sym}
use Rattle.std.proofs.lemmas.Result.{IfOk-weaker, on_err_weaker}
use Rattle.cb_types.specs.declared.job.Job.TheVariants as jobs
use Rattle.cb_shared.specs.Calls.{AtThis, Brings, IsReadJob}
use Rattle.cb_shared.specs.Passes.{record_of}
use Rattle.cb_shared.proofs.FarSteps.{read_brings, stops_by_wider, tries_by_wider, turn_stops}
use Rattle.cb_shared.proofs.FarSteps.{turn_tries}
use Rattle.cb_shared.proofs.Fetches.{bringing_first, fetches_first, read_fetched, read_fetched_more}
use Rattle.cb_shared.proofs.Resting.{known_below}
use Rattle.cb_shared.proofs.runtime.Shared.read_far.Goals as goal

pub try_turn-requires-clause-job : goal.try_turn-requires-clause-job
try_turn-requires-clause-job g c = known_below c.args.self.now.config c.args.h.n
    (record_of c.args.pass.now) c.requires.of.rest c.requires.knows

pub bring-requires-clause-handle : goal.bring-requires-clause-handle
bring-requires-clause-handle g c = known_below c.args.self.now.config c.args.h.n
    (record_of c.args.pass.now) c.requires.of.rest c.requires.knows

pub returns-then-has_brought-clause-read : goal.returns-then-has_brought-clause-read
returns-then-has_brought-clause-read g c = IfOk-weaker c.try_turn.result _ _
    (λ o x. turn_tries (AtThis c.args.h.n) (IsReadJob c.args.h.n) (jobs.Read c.args.h) (inr refl)
    (λ k y. y) c.args.self.now.config o (record_of c.args.pass.now) (record_of c.try_turn.new.pass)
    (λ r. refl) x) c.try_turn.ensures.turn

pub returns-then-has_brought-clause-error : goal.returns-then-has_brought-clause-error
returns-then-has_brought-clause-error g c = on_err_weaker c.try_turn.result
    (λ x. turn_stops (AtThis c.args.h.n) (IsReadJob c.args.h.n) (jobs.Read c.args.h) (inr refl)
    (λ k y. y) c.args.self.now.config (record_of c.args.pass.now) (record_of c.try_turn.new.pass) x)
    c.try_turn.ensures.error

pub returns-then-has_brought-clause-jobs : goal.returns-then-has_brought-clause-jobs
returns-then-has_brought-clause-jobs g c = read_fetched c.args.h.n c.args.patience.now.brought
    (record_of c.args.pass.now) (record_of c.try_turn.new.pass)
    (sym c.has_brought.ensures ∙ c.if-has_brought.true) c.try_turn.ensures.one

pub returns-then-has_brought-clause-brought : goal.returns-then-has_brought-clause-brought
returns-then-has_brought-clause-brought g c = IfOk-weaker c.try_turn.result _ _
    (λ o x none. read_fetched_more c.args.h.n c.args.patience.now.brought
    c.try_turn.new.patience.brought (record_of c.args.pass.now) (record_of c.try_turn.new.pass)
    (sym c.has_brought.ensures ∙ c.if-has_brought.true) (x none)) c.try_turn.ensures.brought

pub returns-else-has_brought-clause-read : goal.returns-else-has_brought-clause-read
returns-else-has_brought-clause-read g c = IfOk-weaker c.bring.result _ _
    (λ o x. tries_by_wider (Brings c.args.h.n) (IsReadJob c.args.h.n) (read_brings c.args.h.n)
    c.args.self.now.config (AtThis c.args.h.n) o (record_of c.args.pass.now)
    (record_of c.bring.new.pass) x) c.bring.ensures.brings

pub returns-else-has_brought-clause-error : goal.returns-else-has_brought-clause-error
returns-else-has_brought-clause-error g c = on_err_weaker c.bring.result
    (λ x. stops_by_wider (Brings c.args.h.n) (IsReadJob c.args.h.n) (read_brings c.args.h.n)
    c.args.self.now.config (AtThis c.args.h.n) (record_of c.args.pass.now) (record_of c.bring.new.pass) x)
    c.bring.ensures.error

pub returns-else-has_brought-clause-jobs : goal.returns-else-has_brought-clause-jobs
returns-else-has_brought-clause-jobs g c = fetches_first c.args.h.n c.args.patience.now.brought
    (record_of c.args.pass.now) (record_of c.bring.new.pass)
    (sym c.has_brought.ensures ∙ c.if-has_brought.false) c.bring.ensures.jobs

pub returns-else-has_brought-clause-brought : goal.returns-else-has_brought-clause-brought
returns-else-has_brought-clause-brought g c = IfOk-weaker c.bring.result _ _
    (λ o x none. bringing_first c.args.h.n c.args.patience.now.brought c.bring.new.patience.brought
    (record_of c.args.pass.now) (record_of c.bring.new.pass)
    (sym c.has_brought.ensures ∙ c.if-has_brought.false) (x none)) c.bring.ensures.brought
