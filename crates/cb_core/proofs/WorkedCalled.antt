-- Worked examples of the calls of a run: what meets each definition, and what breaks one part.
use Rattle.std.proofs.Common.{◌≡◌, ℕ, true, false, List, [], ◌∷◌, Some, None, refl, arith}
use Rattle.cb_types.specs.Config.{IsAccepted}
use Rattle.cb_types.specs.declared.config.Config.{Config}
use Rattle.cb_types.specs.declared.job.Job.TheVariants as job
use Rattle.cb_types.specs.declared.reply.Reply.{Reply}
use Rattle.cb_types.specs.declared.reply.Reply.TheVariants as answer
use Rattle.cb_types.specs.declared.request.Request.TheVariants as line
use Rattle.cb_model.specs.Called.{Called}
use Rattle.cb_model.specs.Event.Subject.{Contents}
use Rattle.cb_model.specs.Event.Event.{Makes, Shows, Pins, Writes, Frees, FindsFull, FindsUnmade, Refused}
use Rattle.cb_model.specs.Legal.{Follow}
use Rattle.cb_world.specs.Empty.{empty_words}
use Rattle.cb_world.specs.World.{WorldState, empty_world}
use Rattle.cb_core.specs.Called.{handle_on, handle_given, says_nothing, call_of, called_as, calls_by, StandsBeside}
use Rattle.cb_core.specs.declared.event.Atomic.TheVariants as atomic
use Rattle.cb_core.specs.declared.event.Event.{Event}
use Rattle.cb_core.specs.declared.event.Event.TheVariants as event
use Rattle.cb_core.proofs.RunLegal.{empty_stands}

-- ---- handles
made_before : handle_on 2 1 ≡ Some 1
made_before = refl

not_yet_made : handle_on 2 2 ≡ None
not_yet_made = refl

given_three : handle_given (answer.Made (record { n = 3 }) 1) ≡ Some 3
given_three = refl

given_none : handle_given (answer.Full 2) ≡ None
given_none = refl

-- ---- replies that say nothing of any object
says_worn : says_nothing answer.Worn ≡ true
says_worn = refl

says_full_scope : says_nothing answer.ScopeFull ≡ true
says_full_scope = refl

says_held : says_nothing (answer.Held 3) ≡ true
says_held = refl

says_claimed : says_nothing answer.Claimed ≡ true
says_claimed = refl

says_unmade : says_nothing answer.Unmade ≡ false
says_unmade = refl

says_crowded : says_nothing answer.Crowded ≡ false
says_crowded = refl

says_not_here : says_nothing answer.NotHere ≡ false
says_not_here = refl

-- ---- calls of a seat
shown_bytes : call_of 2 (Some 0) (line.Read []) (answer.Bytes 1 (7 ∷ []))
    ≡ record { lane = 2; handle = Some 0; event = Shows 1 (7 ∷ []) } ∷ []
shown_bytes = refl

worn_is_no_call : call_of 2 (Some 0) (line.Read []) answer.Worn ≡ []
worn_is_no_call = refl

-- ---- events as calls
abbrev one : Called
one = record { lane = 0; handle = Some 0; event = Makes (7 ∷ []) 1 }

abbrev make : Event
make = event.Turn 0 (job.Make (7 ∷ []))

abbrev read : Event
read = event.Turn 2 (job.Read (record { n = 0 }))

abbrev pin : Event
pin = event.Step 3 (atomic.Pin (record { n = 0 }))

abbrev made : Reply
made = answer.Made (record { n = 0 }) 1

a_make : called_as [] [] make made ≡ one ∷ []
a_make = refl

a_make_too_many : called_as (one ∷ []) [] make (answer.Full 1)
    ≡ record { lane = 0; handle = None; event = FindsFull 1 } ∷ []
a_make_too_many = refl

a_read_too_early : called_as [] [] read answer.Unmade
    ≡ record { lane = 2; handle = None; event = FindsUnmade } ∷ []
a_read_too_early = refl

a_read : called_as (one ∷ []) [] read (answer.Bytes 1 (7 ∷ []))
    ≡ record { lane = 2; handle = Some 0; event = Shows 1 (7 ∷ []) } ∷ []
a_read = refl

a_write : called_as (one ∷ []) [] (event.Turn 1 (job.Write (record { n = 0 }) 0 (9 ∷ []))) (answer.Version 2)
    ≡ record { lane = 1; handle = Some 0; event = Writes 0 (9 ∷ []) 2 } ∷ []
a_write = refl

a_free : called_as (one ∷ []) [] (event.Turn 1 (job.Free (record { n = 0 }))) (answer.Version 2)
    ≡ record { lane = 1; handle = Some 0; event = Frees 2 } ∷ []
a_free = refl

a_pin : called_as (one ∷ []) [] pin (answer.Version 1)
    ≡ record { lane = 3; handle = Some 0; event = Pins 1 } ∷ []
a_pin = refl

-- an object that is far, and one with as many pins as its word counts, are there
a_pin_of_a_far_object : called_as (one ∷ []) [] pin answer.NotHere
    ≡ record { lane = 3; handle = Some 0; event = Refused Contents } ∷ []
a_pin_of_a_far_object = refl

a_pin_too_many : called_as (one ∷ []) [] pin answer.Crowded
    ≡ record { lane = 3; handle = Some 0; event = Refused Contents } ∷ []
a_pin_too_many = refl

-- the scope is looked at before the object
a_pin_of_a_full_scope : called_as (one ∷ []) [] pin answer.ScopeFull ≡ []
a_pin_of_a_full_scope = refl

a_turn_too_many : called_as (one ∷ []) [] read answer.Worn ≡ []
a_turn_too_many = refl

-- a turn beside another seat that holds the far lock is no call, whatever its job
a_read_beside_the_lock : called_as (one ∷ []) [] read (answer.Held 3) ≡ []
a_read_beside_the_lock = refl

a_make_beside_the_lock : called_as (one ∷ []) [] make (answer.Held 3) ≡ []
a_make_beside_the_lock = refl

a_taking : called_as (one ∷ []) [] (event.Step 3 atomic.Take) answer.Done ≡ []
a_taking = refl

a_giving : called_as (one ∷ []) [] (event.Step 3 atomic.Give) answer.Done ≡ []
a_giving = refl

a_load : called_as (one ∷ []) [] (event.Step 3 (atomic.Load (record { n = 0 }))) (answer.Word 6) ≡ []
a_load = refl

an_end_of_a_pin : called_as (one ∷ []) [] (event.Step 3 (atomic.Unpin (record { n = 0 }))) answer.Done ≡ []
an_end_of_a_pin = refl

a_swap : called_as (one ∷ []) [] (event.Turn 3 (job.Swap (record { n = 0 }))) answer.Stays ≡ []
a_swap = refl

an_eviction : called_as (one ∷ []) [] (event.Turn 3 job.Evict) (answer.NoSpans 0) ≡ []
an_eviction = refl

a_crash : called_as (one ∷ []) [] (event.Turn 3 (job.Crash (record { n = 1 }))) (answer.Down (record { n = 1 })) ≡ []
a_crash = refl

a_join : called_as (one ∷ []) [] (event.Turn 3 (job.Join (record { n = 1 }))) (answer.Up (record { n = 1 })) ≡ []
a_join = refl

-- ---- a run's calls: an object that it made has its handle from then on
abbrev early_and_late : List Event
early_and_late = read ∷ make ∷ event.Turn 3 job.Evict ∷ read ∷ []

calls_early_and_late : calls_by [] [] early_and_late
    (answer.Unmade ∷ made ∷ answer.NoSpans 0 ∷ answer.Bytes 1 (7 ∷ []) ∷ [])
    ≡ record { lane = 2; handle = None; event = FindsUnmade } ∷ one
    ∷ record { lane = 2; handle = Some 0; event = Shows 1 (7 ∷ []) } ∷ []
calls_early_and_late = refl

-- an event without a reply is no call yet
calls_unanswered : calls_by [] [] (make ∷ read ∷ []) (made ∷ []) ≡ one ∷ []
calls_unanswered = refl

calls_of_nothing : calls_by (one ∷ []) [] [] (made ∷ []) ≡ []
calls_of_nothing = refl

-- ---- what the map answers
follows_map : Follow 1 2 [] (calls_by [] [] (make ∷ read ∷ []) (made ∷ answer.Bytes 1 (7 ∷ []) ∷ []))
follows_map = (
  record { reply = (refl, omega arith, refl); unmade = tt },
  (record { reply = (refl, refl); unmade = tt }, tt),
)

other_bytes : Follow 1 2 [] (calls_by [] [] (make ∷ read ∷ []) (made ∷ answer.Bytes 1 (8 ∷ []) ∷ [])) → ⊥
other_bytes follow = let e : ◌≡◌ {A = List ℕ} (8 ∷ []) (7 ∷ []) = follow.1.0.reply.1 in absurd cc

-- an object that was made is not answered as one that was not
made_and_unmade : Follow 1 2 [] (calls_by [] [] (make ∷ read ∷ []) (made ∷ answer.Unmade ∷ [])) → ⊥
made_and_unmade follow = follow.1.0.unmade

-- and one that was not has no bytes
unmade_bytes : Follow 1 2 [] (calls_by [] [] (read ∷ []) (answer.Bytes 1 (7 ∷ []) ∷ [])) → ⊥
unmade_bytes follow = follow.0.reply

-- ---- the map beside a world
abbrev c : Config
c = record { k = 1; r = 1; nodes = 2; frames = 2; room = 4; handles = 2; turns = 0 }

nothing_was_made : IsAccepted c → StandsBeside [] [] (empty_world c)
nothing_was_made ok = empty_stands c ok

-- the map has one object more than the world
one_too_many : StandsBeside (one ∷ []) [] (empty_world c) → ⊥
one_too_many stands = let e : ◌≡◌ {A = ℕ} 1 0 = stands.beside.made in absurd cc

-- nobody knows a world that has no pointer words
abbrev without_words : WorldState
without_words = record (empty_world c) { desk = record (empty_words c) { words = [] } }

unknown : StandsBeside [] [] without_words → ⊥
unknown stands = let e : ◌≡◌ {A = ℕ} 0 2 = stands.known.sized.words in absurd cc
