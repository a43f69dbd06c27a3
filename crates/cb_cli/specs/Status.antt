-- The exit status of an outcome.
use Rattle.std.specs.Prelude.{ℕ, Result, Ok, Err}
use Rattle.cb_cli.specs.declared.outcome.Due.{Due}
use Rattle.cb_cli.specs.declared.outcome.Due.TheVariants.{Done, WordsRefused, ScriptRefused}
use Rattle.cb_cli.specs.declared.outcome.Failure.{Failure}
use Rattle.cb_cli.specs.declared.outcome.Failure.TheVariants.{Read, Write, NoMemory}

-- 0 done, 1 words refused, 2 script refused, 3 read fault, 4 write fault, 5 out of memory
abbrev pub status_of : Result Due Failure → ℕ
status_of (Ok Done) = 0
status_of (Ok WordsRefused) = 1
status_of (Ok ScriptRefused) = 2
status_of (Err Read) = 3
status_of (Err Write) = 4
status_of (Err NoMemory) = 5
