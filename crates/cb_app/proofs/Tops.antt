-- What holds of an outcome, said of its status.
use Rattle.std.proofs.Common.{◌≡◌, ℕ, ◌≤◌, ◌⊎◌, List, Option, Result, Ok, Err, refl, sym, ap, subst, ◌∙◌, inl, inr, arith, String, Global, true≢false}
use Rattle.std.specs.Prelude.{◌≢◌, IsErr}
use Rattle.cb_types.specs.Faults.{Rose}
use Rattle.cb_cli.specs.declared.outcome.Due.{Due}
use Rattle.cb_cli.specs.declared.outcome.Due.TheVariants.{Done, WordsRefused, ScriptRefused}
use Rattle.cb_cli.specs.declared.outcome.Failure.{Failure}
use Rattle.cb_cli.specs.declared.outcome.Failure.TheVariants.{Read, Write, NoMemory}
use Rattle.cb_cli.specs.Status.{status_of}
use Rattle.cb_cli.proofs.Laws.{same_outcome}
use Rattle.cb_app.specs.declared.ending.Ending.{Ending}
use Rattle.cb_app.specs.Outcome.{RoseOnRead, RoseOnWrite, RunEnds}

-- what holds of an outcome holds of the one with its status
pub ends_at : (words : List (String Global)) (before after held holds : Option (List ℕ)) (old new : Ending) (outcome at : Result Due Failure) (status : ℕ)
    → RunEnds words before after held holds old new outcome → status ≡ status_of outcome
    → status ≡ status_of at → RunEnds words before after held holds old new at
ends_at words before after held holds old new outcome at status ends is other =
    subst (RunEnds words before after held holds old new) (same_outcome outcome at (sym is ∙ other)) ends

pub rose_at_read : (outcome : Result Due Failure) (status before after : ℕ) → status ≡ status_of outcome
    → RoseOnRead outcome before after → status ≡ 3 → Rose before after
rose_at_read outcome status before after is rose at =
    subst (λ (o : Result Due Failure). RoseOnRead o before after) (same_outcome outcome (Err Read) (sym is ∙ at)) rose

pub rose_at_write : (outcome : Result Due Failure) (status before after : ℕ) → status ≡ status_of outcome
    → RoseOnWrite outcome before after → status ≡ 4 → Rose before after
rose_at_write outcome status before after is rose at =
    subst (λ (o : Result Due Failure). RoseOnWrite o before after) (same_outcome outcome (Err Write) (sym is ∙ at)) rose

pub stays_but_read : (outcome : Result Due Failure) (status before after : ℕ) → status ≡ status_of outcome
    → RoseOnRead outcome before after → status ≢ 3 → after ≡ before
stays_but_read (Ok Done) status before after is stays other = stays
stays_but_read (Ok WordsRefused) status before after is stays other = stays
stays_but_read (Ok ScriptRefused) status before after is stays other = stays
stays_but_read (Err Read) status before after is rose other = absurd (other is)
stays_but_read (Err Write) status before after is stays other = stays
stays_but_read (Err NoMemory) status before after is stays other = stays

pub stays_but_write : (outcome : Result Due Failure) (status before after : ℕ) → status ≡ status_of outcome
    → RoseOnWrite outcome before after → status ≢ 4 → after ≡ before
stays_but_write (Ok Done) status before after is stays other = stays
stays_but_write (Ok WordsRefused) status before after is stays other = stays
stays_but_write (Ok ScriptRefused) status before after is stays other = stays
stays_but_write (Err Read) status before after is stays other = stays
stays_but_write (Err Write) status before after is rose other = absurd (other is)
stays_but_write (Err NoMemory) status before after is stays other = stays

pub words_status : (outcome : Result Due Failure) (status : ℕ) → status ≡ status_of outcome
    → (outcome ≡ Ok WordsRefused) ⊎ ((outcome ≡ Err Write) ⊎ (outcome ≡ Err NoMemory))
    → (status ≡ 1) ⊎ (4 ≤ status)
words_status outcome status is (inl e) = inl (is ∙ ap status_of e)
words_status outcome status is (inr (inl e)) =
    let same : status ≡ 4 = is ∙ ap status_of e in inr (omega (arith, same))
words_status outcome status is (inr (inr e)) =
    let same : status ≡ 5 = is ∙ ap status_of e in inr (omega (arith, same))

failed_status : (outcome : Result Due Failure) → IsErr outcome → 3 ≤ status_of outcome
failed_status (Ok due) failed = absurd (true≢false (sym failed))
failed_status (Err Read) failed = omega arith
failed_status (Err Write) failed = omega arith
failed_status (Err NoMemory) failed = omega arith

-- the statuses of a run that draws a script
pub drawn_status : (outcome : Result Due Failure) (status : ℕ) → status ≡ status_of outcome
    → (outcome ≡ Ok Done) ⊎ IsErr outcome → outcome ≢ Err Read → (status ≡ 0) ⊎ (4 ≤ status)
drawn_status outcome status is (inl e) other = inl (is ∙ ap status_of e)
drawn_status (Ok due) status is (inr failed) other = absurd (true≢false (sym failed))
drawn_status (Err Read) status is (inr failed) other = absurd (other refl)
drawn_status (Err Write) status is (inr failed) other = inr (omega (arith, is))
drawn_status (Err NoMemory) status is (inr failed) other = inr (omega (arith, is))

-- an outcome that is due, or that is a failure, has its status, or one of a failure
pub due_status : (outcome : Result Due Failure) (due : Due) (status : ℕ) → status ≡ status_of outcome
    → (outcome ≡ Ok due) ⊎ IsErr outcome
    → (status ≡ status_of (Ok due)) ⊎ (3 ≤ status)
due_status outcome due status is (inl e) = inl (is ∙ ap status_of e)
due_status outcome due status is (inr failed) =
    let more = failed_status outcome failed in inr (rw is more)
