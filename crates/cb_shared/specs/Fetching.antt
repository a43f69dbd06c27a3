-- The jobs by which a read brings a far object in, and those of a write.
use Rattle.std.specs.Prelude.{◌≡◌, ◌⊎◌, ℕ, ◌+◌, ◌<◌, ◌≤◌, ◌||◌, Bool, true, false, List, [], ◌∷◌}
use Rattle.std.specs.Prelude.{◌++◌, length, Option, Some}
use Rattle.cb_ptr.specs.declared.word.State.TheVariants as state
use Rattle.cb_ptr.specs.Word.{len_of, state_of}
use Rattle.cb_types.specs.declared.job.Job.{Job}
use Rattle.cb_types.specs.declared.job.Job.TheVariants as jobs
use Rattle.cb_types.specs.declared.reply.Reply.{Reply}
use Rattle.cb_types.specs.declared.reply.Reply.TheVariants as answer
use Rattle.cb_rule.specs.declared.turn.Turn.{Turn}
use Rattle.cb_rule.specs.declared.view.Look.{Look}
use Rattle.cb_rule.specs.declared.view.View.{View}
use Rattle.cb_record.specs.Lists.{HasOne}

-- a turn so answered brought its object in
abbrev pub brings : Option Reply → Bool
brings (Some (answer.Swapped frame)) = true
brings reply = false

-- or found it here, where another pass brought it in
abbrev pub finds_here : Option Reply → Bool
finds_here (Some answer.Stays) = true
finds_here reply = brings reply

-- whether the object was brought in before, or by one of these turns
abbrev pub brought_in_by : Bool → List Turn → Bool
brought_in_by before [] = before
brought_in_by before (t ∷ ts) = brings t.reply || brought_in_by before ts

-- whether one of these turns brought it in or found it here
abbrev pub found_here_by : List Turn → Bool
found_here_by [] = false
found_here_by (t ∷ ts) = finds_here t.reply || found_here_by ts

-- The job after a fetch that was told so: rows that it handed out are landed; where its own row is
-- not lost the object is swapped in; and else it is fetched again.
abbrev pub job_behind_fetch : ℕ → Option Reply → Job
job_behind_fetch h (Some (answer.Fetched set position)) = jobs.Land
job_behind_fetch h (Some answer.Direct) = jobs.Swap (record { n = h })
job_behind_fetch h told = jobs.Fetch (record { n = h })

-- The job after a landing that was told so. It speaks of a set, in which the object may be no longer:
-- what it lacks is no answer on the object, which is swapped in by a turn of its own; and else it is
-- fetched again.
abbrev pub job_after_land : ℕ → Option Reply → Job
job_after_land h (Some (answer.Unavailable set lost)) = jobs.Swap (record { n = h })
job_after_land h (Some (answer.NoRoom frames loose nodes)) = jobs.Swap (record { n = h })
job_after_land h told = jobs.Fetch (record { n = h })

-- and after any turn of a call that brings its object in
abbrev pub job_behind_turn : ℕ → Job → Option Reply → Job
job_behind_turn h (jobs.Fetch handle) told = job_behind_fetch h told
job_behind_turn h jobs.Land told = job_after_land h told
job_behind_turn h job told = jobs.Fetch (record { n = h })

-- so after these turns, the newest first, of which this job comes first
abbrev pub job_onward : ℕ → Job → List Turn → Job
job_onward h first [] = first
job_onward h first (t ∷ ts) = job_behind_turn h t.job t.reply

-- a fetch comes first
abbrev pub job_behind : ℕ → List Turn → Job
job_behind h ts = job_onward h (jobs.Fetch (record { n = h })) ts

-- A read of a far object brings it in so. Where it was brought in before, and has left again, the
-- next turn reads it as well.
abbrev pub job_to_fetch : ℕ → Bool → List Turn → Job
job_to_fetch h false ts = job_behind h ts
job_to_fetch h true ts = jobs.Read (record { n = h })

-- each of these turns, the newest first, has a job that may come after those before it
abbrev pub ComeInOrder : (List Turn → Job → Type 0) → List Turn → Type 0
ComeInOrder may [] = Unit {0}
ComeInOrder may (t ∷ ts) = may ts t.job × ComeInOrder may ts

-- the turns of a read
abbrev pub AreFetches : ℕ → Bool → List Turn → Type 0
AreFetches h before = ComeInOrder (λ ts j. j ≡ job_to_fetch h (brought_in_by before ts) ts)

-- those of a call that brings the object in and never reads it, whether or not it was brought in
-- before
abbrev pub AreBringing : ℕ → List Turn → Type 0
AreBringing h = ComeInOrder (λ ts j. j ≡ job_behind h ts)

-- A turn of one try of such a call, of which this job comes first. The try ends with the turn that
-- brings the object in or finds it here.
abbrev pub IsOfTry : ℕ → Job → List Turn → Job → Type 0
IsOfTry h first ts j = (j ≡ job_onward h first ts) × (found_here_by ts ≡ false)

abbrev pub TriesOnward : ℕ → Job → List Turn → Type 0
TriesOnward h first = ComeInOrder (IsOfTry h first)

-- a whole try begins with a fetch
abbrev pub AreOneTry : ℕ → List Turn → Type 0
AreOneTry h = TriesOnward h (jobs.Fetch (record { n = h }))

-- after the newest one no row is still to be landed, nor the object to be swapped in
abbrev pub AreDone : ℕ → List Turn → Type 0
AreDone h ts = job_behind h ts ≡ jobs.Fetch (record { n = h })

-- tries that came to nothing: after them the object is fetched again
abbrev pub AreTried : ℕ → List Turn → Type 0
AreTried h ts = AreBringing h ts × AreDone h ts

-- the turns that a record got
abbrev pub GetsTurns : (List Turn → Type 0) → View → View → Type 0
GetsTurns P v w = (ts : List Turn) × (w.turns ≡ ts ++ v.turns) × P ts

-- it is one, of this job
abbrev pub IsOneOf : Job → List Turn → Type 0
IsOneOf job ts = (t : Turn) × (ts ≡ t ∷ []) × (t.job ≡ job)

-- there is none, or that one
abbrev pub IsOneAtMost : Job → List Turn → Type 0
IsOneAtMost job ts = (ts ≡ []) ⊎ IsOneOf job ts

-- by them it is known whether the object was brought in
abbrev pub IsOneMore : Job → Bool → Bool → List Turn → Type 0
IsOneMore job before after ts = IsOneOf job ts × (after ≡ brought_in_by before ts)

abbrev pub AreFetchesTo : ℕ → Bool → Bool → List Turn → Type 0
AreFetchesTo h before after ts =
    AreFetches h before ts × (after ≡ brought_in_by before ts) × AreDone h ts

-- so of one try that does not read it, or of one whose job comes first, whether or not it was brought
-- in before
abbrev pub TriesOnwardTo : ℕ → Job → Bool → Bool → List Turn → Type 0
TriesOnwardTo h first before after ts = TriesOnward h first ts
    × (after ≡ brought_in_by before ts) × (job_onward h first ts ≡ jobs.Fetch (record { n = h }))

abbrev pub AreBringingTo : ℕ → Bool → Bool → List Turn → Type 0
AreBringingTo h = TriesOnwardTo h (jobs.Fetch (record { n = h }))

-- The job of a write's next turn, where that of a read is this one: its own where a read swaps the
-- object in; where a read lands a row it does so too, if its bytes lie inside of the object, and
-- takes its own if they go past the end; and else the same.
abbrev pub IsWriteFor : Job → Type 0 → Type 0 → Job → Job → Type 0
IsWriteFor own inside past (jobs.Swap handle) job = job ≡ own
IsWriteFor own inside past jobs.Land job = ((job ≡ jobs.Land) × inside) ⊎ ((job ≡ own) × past)
IsWriteFor own inside past other job = job ≡ other

-- each of these turns has such a job by those before it, where a read would begin with this one
abbrev pub WritesOnward : ℕ → Job → Type 0 → Type 0 → Job → List Turn → Type 0
WritesOnward h own inside past first =
    ComeInOrder (λ ts j. IsWriteFor own inside past (job_onward h first ts) j)

abbrev pub GoAsWrite : ℕ → Job → Type 0 → Type 0 → List Turn → Type 0
GoAsWrite h own inside past = WritesOnward h own inside past (jobs.Fetch (record { n = h }))

-- so where the call goes on after them
abbrev pub GoesOnAsWrite : ℕ → Job → Type 0 → Type 0 → List Turn → Type 0
GoesOnAsWrite h own inside past ts = GoAsWrite h own inside past ts × AreDone h ts

-- those that begin with a landing, of bytes that lie inside of the object; and where the call goes on
abbrev pub LandsOnward : ℕ → Job → List Turn → Type 0
LandsOnward h own = WritesOnward h own (Unit {0}) ⊥ jobs.Land

abbrev pub LandsOn : ℕ → Job → List Turn → Type 0
LandsOn h own ts =
    LandsOnward h own ts × (job_onward h jobs.Land ts ≡ jobs.Fetch (record { n = h }))

-- a look that found the object far, with so many bytes from the byte number `at` on inside of it;
-- and one with these past its end
abbrev pub FoundInside : ℕ → ℕ → ℕ → Look → Type 0
FoundInside h at count l =
    (l.handle ≡ h) × (state_of l.word ≡ state.Far) × (at + count ≤ len_of l.word)

abbrev pub FoundPast : ℕ → ℕ → ℕ → Look → Type 0
FoundPast h at count l =
    (l.handle ≡ h) × (state_of l.word ≡ state.Far) × (len_of l.word < at + count)

-- the turns of a write of these bytes, by its looks; and where it goes on after them
abbrev pub AreWrites : ℕ → ℕ → List ℕ → List Look → List Turn → Type 0
AreWrites h at bytes ls ts = GoAsWrite h (jobs.Write (record { n = h }) at bytes)
    (HasOne (FoundInside h at (length bytes)) ls) (HasOne (FoundPast h at (length bytes)) ls) ts

abbrev pub AreWritesOn : ℕ → ℕ → List ℕ → List Look → List Turn → Type 0
AreWritesOn h at bytes ls ts = AreWrites h at bytes ls ts × AreDone h ts

-- the looks and the turns that a record got
abbrev pub GetsBoth : (List Look → List Turn → Type 0) → View → View → Type 0
GetsBoth P v w = (ls : List Look) × (w.looks ≡ ls ++ v.looks) × GetsTurns (P ls) v w
