-- Why a run failed, by why a source was not taken to its end.
use Rattle.std.specs.Prelude.{◌≡◌}
use Rattle.cb_cli.specs.declared.input.TakeError.{TakeError}
use Rattle.cb_cli.specs.declared.input.TakeError.TheVariants as takes
use Rattle.cb_cli.specs.declared.outcome.Failure.{Failure}
use Rattle.cb_cli.specs.declared.outcome.Failure.TheVariants as failures

-- the failure for an error of taking
abbrev pub from_take : TakeError → Failure → Type 0
from_take takes.Failed failure = failure ≡ failures.Read
from_take takes.NoMemory failure = failure ≡ failures.NoMemory
