-- Worked examples: what `rma` yields, refuses and accepts.
use Rattle.std.proofs.Common.{◌≡◌, ℕ, List, refl}
use Rattle.std.specs.Prelude.{codes}
use Rattle.std.specs.Fmt.{digits}
use Rattle.cb_cli.specs.declared.words.Command.TheVariants.{Rma}
use Rattle.cb_cli.specs.declared.verdict.Verdict.TheVariants.{Done, Refused}
use Rattle.cb_rma_text.proofs.PublicLaws.{accepted_not_refused, spells_no_fault, input, events, spelled, due, bad_input, at_line_3}
use Rattle.cb_app.specs.declared.ending.Ending.{Ending}
use Rattle.cb_app.specs.Modes.{Yields, Refuses, Accepts, IsVerdict}

accepted : Accepts Rma input
accepted = record { window = 2; events = events; spelled = spelled }

yields : (end : Ending) → Yields Rma input end end due
yields end = (record { window = 2; events = events; spelled = spelled; text_is = refl }, refl)

is_done : (end : Ending) → IsVerdict Rma input end end (Done due)
is_done end = (accepted, yields end)

refused : Refuses Rma bad_input (codes "rma line 3 refused\n")
unfolding digits
refused = record { line = 3; first = at_line_3; text_is = refl }

is_refused : (end : Ending) → IsVerdict Rma bad_input end end (Refused (codes "rma line 3 refused\n"))
is_refused end = (refused, refl)

-- another ending is left by neither
done_with_another_ending : (old new : Ending) → (new ≡ old → ⊥) → Yields Rma input old new due → ⊥
done_with_another_ending old new other yielded = other yielded.1

refused_with_another_ending : (old new : Ending) (told : List ℕ) → (new ≡ old → ⊥)
    → IsVerdict Rma bad_input old new (Refused told) → ⊥
refused_with_another_ending old new told other verdict = other verdict.1

-- what is refused is not accepted
bad_is_not_accepted : Accepts Rma bad_input → ⊥
bad_is_not_accepted accepts = accepted_not_refused bad_input (codes "rma line 3 refused\n") accepts refused

input_is_not_refused : (told : List ℕ) → Refuses Rma input told → ⊥
input_is_not_refused told refuses = spells_no_fault input 2 refuses.line events spelled refuses.first
