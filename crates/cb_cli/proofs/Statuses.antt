-- An outcome and its status.
use Rattle.std.proofs.Common.{◌≡◌, ℕ, zero, suc, ◌≤◌, Result, Ok, Err, refl, sym, ap, ◌∙◌, arith}
use Rattle.cb_cli.specs.declared.outcome.Due.{Due}
use Rattle.cb_cli.specs.declared.outcome.Due.TheVariants.{Done, WordsRefused, ScriptRefused}
use Rattle.cb_cli.specs.declared.outcome.Failure.{Failure}
use Rattle.cb_cli.specs.declared.outcome.Failure.TheVariants.{Read, Write, NoMemory}
use Rattle.cb_cli.specs.Status.{status_of}

-- the outcome with a status
outcome_at : ℕ → Result Due Failure
outcome_at zero = Ok Done
outcome_at (suc zero) = Ok WordsRefused
outcome_at (suc (suc zero)) = Ok ScriptRefused
outcome_at (suc (suc (suc zero))) = Err Read
outcome_at (suc (suc (suc (suc zero)))) = Err Write
outcome_at (suc (suc (suc (suc (suc n))))) = Err NoMemory

outcome_at-status_of : (o : Result Due Failure) → outcome_at (status_of o) ≡ o
unfolding outcome_at
outcome_at-status_of (Ok Done) = refl
outcome_at-status_of (Ok WordsRefused) = refl
outcome_at-status_of (Ok ScriptRefused) = refl
outcome_at-status_of (Err Read) = refl
outcome_at-status_of (Err Write) = refl
outcome_at-status_of (Err NoMemory) = refl

-- outcomes of one status are one
pub same_outcome : (o p : Result Due Failure) → status_of o ≡ status_of p → o ≡ p
same_outcome o p e = sym (outcome_at-status_of o) ∙ ap outcome_at e ∙ outcome_at-status_of p

pub status_of-le : (o : Result Due Failure) → status_of o ≤ 5
status_of-le (Ok Done) = omega arith
status_of-le (Ok WordsRefused) = omega arith
status_of-le (Ok ScriptRefused) = omega arith
status_of-le (Err Read) = omega arith
status_of-le (Err Write) = omega arith
status_of-le (Err NoMemory) = omega arith
