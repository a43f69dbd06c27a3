use Rattle.std.proofs.Common.{sym}
use Rattle.std.proofs.lemmas.Option.{none-some}
use Rattle.std.proofs.lemmas.Result.{IfOk-from_err, IfOk-weaker, on_err_weaker}
use Rattle.cb_shared.proofs.CallSteps.{err_always, found_bytes, found_freed, found_hindered}
use Rattle.cb_shared.proofs.CallSteps.{found_knows, is_hindered, lacks_room}
use Rattle.cb_shared.proofs.FarSteps.{far_read, far_stops, found_far}
use Rattle.cb_shared.proofs.Fetches.{fetches_none, found_same, gets_behind, lacks_same, no_fetches}
use Rattle.cb_shared.specs.Calls.{IsReadJob, IsUnanswered}
use Rattle.cb_shared.specs.Fetching.{AreFetches, AreFetchesTo}
use Rattle.cb_shared.specs.Passes.{record_of}
use Rattle.cb_shared.proofs.runtime.Shared.try_read.Goals as goal

pub returns-in_err-version-clause-error : goal.returns-in_err-version-clause-error
returns-in_err-version-clause-error g c = err_always c.from_residual.result _
    (lacks_room c.args.self.now.config c.args.h.n (record_of c.args.pass.now)
    (record_of c.read_beside.new.pass) c.in_err-version.ensures.error)

pub read_far-requires-clause-knows : goal.read_far-requires-clause-knows
read_far-requires-clause-knows g c = found_knows c.args.h.n
    c.in_ok-version.field-0 (record_of c.args.pass.now) (record_of c.read_beside.new.pass)
    c.requires.knows c.in_ok-version.ensures.read

pub returns-in-Bytes-clause-read : goal.returns-in-Bytes-clause-read
returns-in-Bytes-clause-read g c = found_bytes c.args.self.now.config c.args.h.n c.in-Bytes.version
    c.in-Bytes.bytes c.in_ok-version.field-0 (record_of c.args.pass.now)
    (record_of c.read_beside.new.pass) c.in-Bytes.is c.in_ok-version.ensures.read

pub returns-in-Freed-clause-read : goal.returns-in-Freed-clause-read
returns-in-Freed-clause-read g c = found_freed c.args.self.now.config c.args.h.n
    c.in_ok-version.field-0 (record_of c.args.pass.now) (record_of c.read_beside.new.pass)
    c.in-Freed.is c.in_ok-version.ensures.read

pub returns-in-NotHere-clause-read : goal.returns-in-NotHere-clause-read
returns-in-NotHere-clause-read g c = IfOk-weaker c.read_far.result _ _
    (λ o x. far_read c.args.self.now.config c.args.h.n o (record_of c.args.pass.now)
    (record_of c.read_beside.new.pass) (record_of c.read_far.new.pass) (found_far c.args.h.n
    c.in_ok-version.field-0 (record_of c.args.pass.now) (record_of c.read_beside.new.pass)
    c.in-NotHere.is c.in_ok-version.ensures.read) x) c.read_far.ensures.read

pub returns-in-NotHere-clause-error : goal.returns-in-NotHere-clause-error
returns-in-NotHere-clause-error g c = on_err_weaker c.read_far.result
    (λ x. far_stops c.args.self.now.config c.args.h.n (IsReadJob c.args.h.n) (record_of c.args.pass.now)
    (record_of c.read_beside.new.pass) (record_of c.read_far.new.pass) (found_far c.args.h.n
    c.in_ok-version.field-0 (record_of c.args.pass.now) (record_of c.read_beside.new.pass)
    c.in-NotHere.is c.in_ok-version.ensures.read) x) c.read_far.ensures.error

pub returns-in_err-version-clause-of : goal.returns-in_err-version-clause-of
returns-in_err-version-clause-of g c = c.in_err-version.ensures.of

pub returns-in_err-version-clause-read : goal.returns-in_err-version-clause-read
returns-in_err-version-clause-read g c = IfOk-from_err _ _ c.from_residual.ensures.0

pub read_far-requires-clause-of : goal.read_far-requires-clause-of
read_far-requires-clause-of g c = c.in_ok-version.ensures.of

pub returns-in-Bytes-clause-of : goal.returns-in-Bytes-clause-of
returns-in-Bytes-clause-of g c = c.in_ok-version.ensures.of

pub returns-in-Freed-clause-of : goal.returns-in-Freed-clause-of
returns-in-Freed-clause-of g c = c.in_ok-version.ensures.of

pub returns-in-Moving-clause-read : goal.returns-in-Moving-clause-read
returns-in-Moving-clause-read g c = found_hindered c.args.h.n
    (IsUnanswered (IsReadJob c.args.h.n)) c.in_ok-version.field-0
    (record_of c.args.pass.now) (record_of c.read_beside.new.pass)
    (is_hindered c.in_ok-version.field-0 c.in-Moving.is) c.in_ok-version.ensures.read

pub returns-in-Moving-clause-of : goal.returns-in-Moving-clause-of
returns-in-Moving-clause-of g c = c.in_ok-version.ensures.of

pub returns-in-NotHere-clause-of : goal.returns-in-NotHere-clause-of
returns-in-NotHere-clause-of g c = c.read_far.ensures.of

pub returns-in-Bytes-clause-jobs : goal.returns-in-Bytes-clause-jobs
returns-in-Bytes-clause-jobs g c = no_fetches c.args.h.n c.args.patience.now.brought
    (record_of c.args.pass.now) (record_of c.read_beside.new.pass) (found_same c.args.h.n
    c.in_ok-version.field-0 (record_of c.args.pass.now) (record_of c.read_beside.new.pass)
    c.in_ok-version.ensures.read)

pub returns-in-Freed-clause-jobs : goal.returns-in-Freed-clause-jobs
returns-in-Freed-clause-jobs g c = no_fetches c.args.h.n c.args.patience.now.brought
    (record_of c.args.pass.now) (record_of c.read_beside.new.pass) (found_same c.args.h.n
    c.in_ok-version.field-0 (record_of c.args.pass.now) (record_of c.read_beside.new.pass)
    c.in_ok-version.ensures.read)

pub returns-in-Moving-clause-jobs : goal.returns-in-Moving-clause-jobs
returns-in-Moving-clause-jobs g c = no_fetches c.args.h.n c.args.patience.now.brought
    (record_of c.args.pass.now) (record_of c.read_beside.new.pass) (found_same c.args.h.n
    c.in_ok-version.field-0 (record_of c.args.pass.now) (record_of c.read_beside.new.pass)
    c.in_ok-version.ensures.read)

pub returns-in-Bytes-clause-brought : goal.returns-in-Bytes-clause-brought
returns-in-Bytes-clause-brought g c = λ none. absurd (none-some _ (sym none))

pub returns-in-Freed-clause-brought : goal.returns-in-Freed-clause-brought
returns-in-Freed-clause-brought g c = λ none. absurd (none-some _ (sym none))

pub returns-in-Moving-clause-brought : goal.returns-in-Moving-clause-brought
returns-in-Moving-clause-brought g c = λ none. fetches_none c.args.h.n c.args.patience.now.brought
    c.wait.new.patience.brought (record_of c.args.pass.now) (record_of c.read_beside.new.pass)
    (found_same c.args.h.n
    c.in_ok-version.field-0 (record_of c.args.pass.now) (record_of c.read_beside.new.pass)
    c.in_ok-version.ensures.read) c.wait.ensures.brought

pub returns-in_err-version-clause-jobs : goal.returns-in_err-version-clause-jobs
returns-in_err-version-clause-jobs g c = no_fetches c.args.h.n c.args.patience.now.brought
    (record_of c.args.pass.now) (record_of c.read_beside.new.pass) (lacks_same c.args.h.n
    (record_of c.args.pass.now) (record_of c.read_beside.new.pass) c.in_err-version.ensures.error)

pub returns-in_err-version-clause-brought : goal.returns-in_err-version-clause-brought
returns-in_err-version-clause-brought g c = IfOk-from_err _ _ c.from_residual.ensures.0

pub returns-in-NotHere-clause-jobs : goal.returns-in-NotHere-clause-jobs
returns-in-NotHere-clause-jobs g c = gets_behind (AreFetches c.args.h.n c.args.patience.now.brought)
    (record_of c.args.pass.now) (record_of c.read_beside.new.pass) (record_of c.read_far.new.pass)
    (found_same c.args.h.n
    c.in_ok-version.field-0 (record_of c.args.pass.now) (record_of c.read_beside.new.pass)
    c.in_ok-version.ensures.read) c.read_far.ensures.jobs

pub returns-in-NotHere-clause-brought : goal.returns-in-NotHere-clause-brought
returns-in-NotHere-clause-brought g c = IfOk-weaker c.read_far.result _ _
    (λ o x none. gets_behind (AreFetchesTo c.args.h.n c.args.patience.now.brought
    c.read_far.new.patience.brought) (record_of c.args.pass.now) (record_of c.read_beside.new.pass)
    (record_of c.read_far.new.pass) (found_same c.args.h.n
    c.in_ok-version.field-0 (record_of c.args.pass.now) (record_of c.read_beside.new.pass)
    c.in_ok-version.ensures.read) (x none)) c.read_far.ensures.brought
