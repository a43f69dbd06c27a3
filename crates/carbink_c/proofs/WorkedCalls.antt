-- Worked examples: how a new world ends, an event and its answer, and the calls on an encoder; and for each part one
-- without it.
use Rattle.std.proofs.Common.{◌≡◌, ◌⊎◌, ℕ, ◌<◌, List, [], ◌∷◌, get_or, replicate, refl, ap, subst, arith, inl, inr}
use Rattle.std.specs.Prelude.{None, Some, is_some, false, true}
use Rattle.std.proofs.lemmas.List.{length-replicate}
use Rattle.cb_gf256.specs.InRange.{IsInRange}
use Rattle.cb_types.specs.Config.{IsAccepted, most_bytes}
use Rattle.cb_types.specs.declared.config.Config.{Config}
use Rattle.cb_types.specs.declared.config.Field.TheVariants.{K, R, Nodes, Frames, Room, Handles, Turns}
use Rattle.cb_types.specs.declared.reply.Reply.{Reply}
use Rattle.cb_types.specs.declared.reply.Reply.TheVariants as answer
use Rattle.cb_world.specs.Empty.{empty_far, empty_words}
use Rattle.cb_world.specs.World.{WorldState, empty_world}
use Rattle.cb_core.specs.declared.event.Atomic.TheVariants.{Claim, Load, Unpin}
use Rattle.cb_core.specs.declared.event.Event.{Event}
use Rattle.cb_core.specs.declared.event.Event.TheVariants as event
use Rattle.cb_core.specs.Pinning.{UnpinStep}
use Rattle.cb_core.specs.Run.{LeavesAsBefore, MakesRoom}
use Rattle.carbink_c.specs.declared.event.CarbinkEvent.{CarbinkEvent}
use Rattle.carbink_c.specs.declared.event.Verb.{Verb}
use Rattle.carbink_c.specs.declared.event.Verb.TheVariants as verb
use Rattle.carbink_c.specs.declared.outcome.Outcome.TheVariants as ends
use Rattle.carbink_c.specs.declared.reply.CarbinkReply.{CarbinkReply}
use Rattle.carbink_c.specs.declared.status.Status.TheVariants as status
use Rattle.carbink_c.specs.Asked.{verb_number}
use Rattle.carbink_c.specs.Encoder.{AreSized, BeginsEncoder, MakesParities, Shape}
use Rattle.carbink_c.specs.Told.{kind_of, told_reply}
use Rattle.carbink_c.specs.WorldEnds.{AnswerEnds, EventEnds, NewEnds, Place, TakesPlace}

-- ---- a new world

abbrev sizes : Config
sizes = record { k = 2; r = 1; nodes = 3; frames = 2; room = 4; handles = 8; turns = 0 }

accepted : IsAccepted sizes
accepted K = (omega arith, omega arith)
accepted R = (omega arith, omega arith)
accepted Nodes = (omega arith, omega arith)
accepted Frames = (omega arith, omega arith)
accepted Room = (omega arith, omega arith)
accepted Handles = (omega arith, omega arith)
accepted Turns = omega arith

abbrev first : WorldState
first = empty_world sizes

new_made : NewEnds sizes None (Some first) ends.Done
new_made = (refl, accepted, refl)

made_beside_one : NewEnds sizes (Some first) (Some first) ends.Done → ⊥
made_beside_one x = let e : true ≡ false = ap is_some x.0 in cc

made_too_wide : NewEnds (record sizes { k = 17 }) None (Some (empty_world (record sizes { k = 17 }))) ends.Done → ⊥
made_too_wide x = absurd (omega (arith, (x.1 K).1))

made_nothing : NewEnds sizes None None ends.Done → ⊥
made_nothing x = let e : false ≡ true = ap is_some x.2 in cc

has_one : NewEnds sizes (Some first) (Some first) ends.HasWorld
has_one = (refl, refl)

has_none : NewEnds sizes None None ends.HasWorld → ⊥
has_none x = let e : false ≡ true = x.0 in cc

had_and_lost : NewEnds sizes (Some first) None ends.HasWorld → ⊥
had_and_lost x = let e : false ≡ true = ap is_some x.1 in cc

too_wide : NewEnds (record sizes { k = 17; r = 5 }) None None (ends.BadSize K)
too_wide = (refl, record { out = λ x. absurd (omega (arith, x.1)); before = λ earlier h. absurd (omega (arith, h)) }, refl)

wide_enough : NewEnds sizes None None (ends.BadSize K) → ⊥
wide_enough x = x.1.out (accepted K)

not_the_first : NewEnds (record sizes { k = 17; r = 5 }) None None (ends.BadSize R) → ⊥
not_the_first x = absurd (omega (arith, (x.1.before K (omega arith)).1))

wide_and_made : NewEnds (record sizes { k = 17 }) None (Some first) (ends.BadSize K) → ⊥
wide_and_made x = let e : true ≡ false = ap is_some x.2 in cc

-- ---- an answer

abbrev calm : WorldState
calm = record { desk = empty_words sizes; far = empty_far 1 sizes; seats = [] }

abbrev blank : CarbinkReply
blank = record { kind = 0; first = 0; second = 0; third = 0; count = 0 }

abbrev before : Place
before = record { reply = blank; room = replicate most_bytes 7 }

abbrev unpin : Event
unpin = event.Step 5 (Unpin (record { n = 3 }))

abbrev told : Place
told = record before { reply = told_reply answer.NotPinned }

takes : TakesPlace calm unpin answer.NotPinned calm
takes = record {
  step = UnpinStep.not_pinned (λ at pin e. let f : None ≡ Some pin = e in cc) refl refl;
  unavailable = record {
    only = λ id losses e. let f : 27 ≡ 22 = ap kind_of e in absurd (omega (arith, f));
    each = λ h id losses e. let f : None ≡ Some h = e in cc;
    landed = λ id losses made z. absurd z;
  };
}

answered : AnswerEnds unpin calm calm before told ends.Done
answered = (answer.NotPinned, takes, (refl, refl))

kind_is : (r : Reply) (v : WorldState) → UnpinStep 5 3 calm r v → (kind_of r ≡ 27) ⊎ (kind_of r ≡ 3)
kind_is r v (UnpinStep.not_pinned none e is) = inl (ap kind_of e)
kind_is r v (UnpinStep.given e is) = inr (ap kind_of e)

answered_another : AnswerEnds unpin calm calm before before ends.Done → ⊥
answered_another x = elim (kind_is x.0 calm x.1.step) [
  | inl e ↦ absurd (omega (arith, e, ap (λ (r : CarbinkReply). r.kind) x.2.0))
  | inr e ↦ absurd (omega (arith, e, ap (λ (r : CarbinkReply). r.kind) x.2.0))
]

abbrev claim : Event
claim = event.Step 5 (Claim (record { n = 3 }) 0 (9 ∷ []))

as_before : LeavesAsBefore calm claim calm
as_before = record {
  room = MakesRoom.nothing (record { desk = refl; far = refl; seats = refl });
  holds = λ s known. (s, known, λ h. refl);
  seats = refl;
}

lacked : AnswerEnds claim calm calm before before ends.NoMemory
lacked = (refl, as_before, refl)

lacked_and_told : AnswerEnds claim calm calm before told ends.NoMemory → ⊥
lacked_and_told x = absurd (omega (arith, ap (λ (p : Place). p.reply.kind) x.2))

-- a load takes no memory
load_lacked : AnswerEnds (event.Step 5 (Load (record { n = 3 }))) calm calm before before ends.NoMemory → ⊥
load_lacked x = x.0

no_answer : AnswerEnds unpin calm calm before before ends.BadSeat → ⊥
no_answer x = x

-- ---- an event

abbrev asked : CarbinkEvent
asked = record { verb = 20; seat = 5; handle = 3; node = 0; at = 0 }

number_below : (v : Verb) → verb_number v < 21
number_below verb.Make = omega arith
number_below v = omega arith

no_verb : EventEnds (record asked { verb = 21 }) [] calm calm before before ends.BadVerb
no_verb = (λ v e. absurd (omega (arith, e, number_below v)), refl, refl)

has_verb : EventEnds asked [] calm calm before before ends.BadVerb → ⊥
has_verb x = x.0 verb.Unpin refl

no_verb_and_told : EventEnds (record asked { verb = 21 }) [] calm calm before told ends.BadVerb → ⊥
no_verb_and_told x = absurd (omega (arith, ap (λ (p : Place). p.reply.kind) x.2))

no_seat : EventEnds (record asked { seat = 64 }) [] calm calm before before ends.BadSeat
no_seat = ((verb.Unpin, refl), omega arith, refl, refl)

has_seat : EventEnds asked [] calm calm before before ends.BadSeat → ⊥
has_seat x = absurd (omega (arith, x.1))

neither_verb : EventEnds (record asked { verb = 21; seat = 64 }) [] calm calm before before ends.BadSeat → ⊥
neither_verb x = absurd (omega (arith, x.0.1, number_below x.0.0))

no_handle : EventEnds (record asked { handle = 8 }) [] calm calm before before ends.BadArgument
no_handle = ((verb.Unpin, (refl, omega arith), λ e. absurd (omega (arith, e.1))), refl, refl)

short_room : EventEnds asked [] calm calm (record before { room = [] }) (record before { room = [] }) ends.BadBuffer
short_room = ((verb.Unpin, (refl, omega arith), (omega arith, omega arith)), omega arith, refl, refl)

long_room : EventEnds asked [] calm calm before before ends.BadBuffer → ⊥
long_room x = absurd (omega (arith, x.1, length-replicate {A = ℕ} most_bytes 7))

took_place : EventEnds asked [] calm calm before told ends.Done
took_place = (verb.Unpin, (refl, omega arith), (omega arith, omega arith), omega (arith, length-replicate {A = ℕ} most_bytes 7), answered)

took_no_seat : EventEnds (record asked { seat = 64 }) [] calm calm before told ends.Done → ⊥
took_no_seat x = absurd (omega (arith, x.1.1))

-- nothing was asked for yet: there was no memory for the event itself
asked_in_vain : EventEnds asked [] calm calm before before ends.NoMemory
asked_in_vain = (verb.Unpin, (refl, omega arith), (omega arith, omega arith), omega (arith, length-replicate {A = ℕ} most_bytes 7), inl (refl, refl))

-- ---- an encoder

abbrev shape : Shape
shape = record { k = 2; r = 1; len = 3 }

two_and_one : IsInRange 2 1
two_and_one = record { data_least = omega arith; data_most = omega arith; parities_least = omega arith; parities_most = omega arith }

encoder_made : BeginsEncoder shape None (Some shape) status.Done
encoder_made = (refl, two_and_one, omega arith, refl)

encoder_of_none : BeginsEncoder (record shape { len = 0 }) None (Some (record shape { len = 0 })) status.Done → ⊥
encoder_of_none x = absurd (omega (arith, x.2))

encoder_too_wide : BeginsEncoder (record shape { k = 17 }) None (Some (record shape { k = 17 })) status.Done → ⊥
encoder_too_wide x = absurd (omega (arith, x.1.data_most))

encoder_not_there : BeginsEncoder shape None None status.Done → ⊥
encoder_not_there x = let e : false ≡ true = ap is_some x.3 in cc

encoder_held : BeginsEncoder shape (Some shape) (Some shape) status.HasEncoder
encoder_held = (refl, refl)

encoder_not_held : BeginsEncoder shape None None status.HasEncoder → ⊥
encoder_not_held x = let e : false ≡ true = x.0 in cc

none_to_encode : MakesParities None [] [] [] status.NoEncoder
none_to_encode = (refl, refl)

none_but_written : MakesParities None [] (7 ∷ []) (8 ∷ []) status.NoEncoder → ⊥
none_but_written x = absurd (omega (arith, ap (λ (xs : List ℕ). get_or xs 0 0) x.1))

sizes_refused : MakesParities (Some shape) (1 ∷ []) [] [] status.BadBuffer
sizes_refused = (shape, refl, λ x. absurd (omega (arith, x.0)), refl)

right_sizes_refused : MakesParities (Some (record shape { k = 1; len = 1 })) (1 ∷ []) (7 ∷ []) (7 ∷ []) status.BadBuffer → ⊥
right_sizes_refused x = x.2 (sized x.0 (held x.1))
  where
    held : {a b : Shape} → Some a ≡ Some b → a ≡ b
    held e = cc

    sized : (s : Shape) → record shape { k = 1; len = 1 } ≡ s → AreSized s (1 ∷ []) (7 ∷ [])
    sized s e = subst (λ (t : Shape). AreSized t (1 ∷ []) (7 ∷ [])) e (refl, refl)
