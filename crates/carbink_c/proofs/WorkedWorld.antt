-- Worked examples: what C asks of a world, what it is told, and how the calls end.
use Rattle.std.proofs.Common.{◌≡◌, ℕ, List, [], ◌∷◌, get_or, refl, ap, arith}
use Rattle.std.specs.Prelude.{None, Some}
use Rattle.cb_core.specs.declared.event.Atomic.TheVariants as atomic
use Rattle.cb_core.specs.declared.event.Event.TheVariants as event
use Rattle.cb_types.specs.declared.job.Job.TheVariants as job
use Rattle.cb_types.specs.declared.reply.Reply.TheVariants as answer
use Rattle.carbink_c.specs.declared.event.CarbinkEvent.{CarbinkEvent}
use Rattle.carbink_c.specs.declared.event.Verb.TheVariants as verb
use Rattle.carbink_c.specs.declared.outcome.Outcome.TheVariants as ends
use Rattle.carbink_c.specs.declared.reply.CarbinkReply.{CarbinkReply}
use Rattle.carbink_c.specs.Asked.{event_by}
use Rattle.carbink_c.specs.Handle.{IsSoundIn}
use Rattle.carbink_c.specs.Outcome.{IsOutcomeOf}
use Rattle.carbink_c.specs.Told.{bytes_of, told_reply}
use Rattle.carbink_c.specs.WorldEnds.{GivenEnds, IsAsked, Place, StepEnds, TellsReply}

-- ---- what is asked for

abbrev asked : CarbinkEvent
asked = record { verb = 2; seat = 5; handle = 7; node = 1; at = 3 }

write_asked : event_by verb.Write asked (9 ∷ []) ≡ event.Turn 5 (job.Write (record { n = 7 }) 3 (9 ∷ []))
write_asked = refl

crash_asked : event_by verb.Crash asked [] ≡ event.Turn 5 (job.Crash (record { n = 1 }))
crash_asked = refl

pin_asked : event_by verb.Pin asked [] ≡ event.Step 5 (atomic.Pin (record { n = 7 }))
pin_asked = refl

is_asked : IsAsked verb.Write asked
is_asked = (refl, omega arith)

other_verb : IsAsked verb.Read asked → ⊥
other_verb x = absurd (omega (arith, x.0))

no_seat : IsAsked verb.Write (record asked { seat = 64 }) → ⊥
no_seat x = absurd (omega (arith, x.1))

-- ---- what is told

made_told : told_reply (answer.Made (record { n = 4 }) 1) ≡ record { kind = 0; first = 4; second = 1; third = 0; count = 0 }
made_told = refl

bytes_told : told_reply (answer.Bytes 6 (8 ∷ 9 ∷ [])) ≡ record { kind = 2; first = 6; second = 0; third = 0; count = 2 }
bytes_told = refl

fetched_told : told_reply (answer.Fetched (record { n = 4 }) 1)
    ≡ record { kind = 59; first = 4; second = 1; third = 0; count = 0 }
fetched_told = refl

loss_told : bytes_of (answer.Unavailable (record { n = 3 }) (record { node = record { n = 5 }; epoch = record { n = 258 } } ∷ []))
    ≡ 5 ∷ 2 ∷ 1 ∷ 0 ∷ 0 ∷ 0 ∷ 0 ∷ 0 ∷ 0 ∷ []
loss_told = refl

abbrev blank : CarbinkReply
blank = record { kind = 0; first = 0; second = 0; third = 0; count = 0 }

abbrev before : Place
before = record { reply = blank; room = 1 ∷ 2 ∷ 3 ∷ [] }

abbrev told : Place
told = record { reply = record blank { kind = 35; count = 2 }; room = 4 ∷ 6 ∷ 3 ∷ [] }

reply_told : TellsReply (answer.Short (4 ∷ 6 ∷ [])) before told
reply_told = (refl, refl)

-- a byte behind the reply's was changed
behind_changed : TellsReply (answer.Short (4 ∷ 6 ∷ [])) before (record told { room = 4 ∷ 6 ∷ 9 ∷ [] }) → ⊥
behind_changed x = absurd (omega (arith, ap (λ (xs : List ℕ). get_or xs 2 0) x.1))

other_kind : TellsReply (answer.Short (4 ∷ 6 ∷ [])) before (record told { reply = blank }) → ⊥
other_kind x = absurd (omega (arith, ap (λ (r : CarbinkReply). r.kind) x.0))

-- ---- how calls end

no_world : StepEnds asked [] None None before before ends.NoWorld
no_world = (refl, refl, refl)

none_done : StepEnds asked [] None None before told ends.Done → ⊥
none_done x = let e : None ≡ Some x.0 = x.2 in cc

none_sound : IsSoundIn None
none_sound = tt

given_none : GivenEnds None 3 3 ends.NoWorld
given_none = (refl, refl)

given_changed : GivenEnds None 3 4 ends.NoWorld → ⊥
given_changed x = absurd (omega (arith, x.1))

told_number : IsOutcomeOf (GivenEnds None 3 3) 6
told_number = (ends.NoWorld, refl, given_none)
