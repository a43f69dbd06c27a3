-- The calls of a run of events on the plain map.
use Rattle.std.specs.Prelude.{◌≡◌, ℕ, Bool, true, false, ◌&&◌, nat_eq, nat_lt, if◌then◌else◌, List, [], ◌∷◌, ◌++◌, Option, Some, None}
use Rattle.cb_types.specs.declared.job.Job.TheVariants as job
use Rattle.cb_types.specs.declared.reply.Reply.{Reply}
use Rattle.cb_types.specs.declared.reply.Reply.TheVariants as answer
use Rattle.cb_types.specs.declared.request.Request.{Request}
use Rattle.cb_types.specs.declared.request.Request.TheVariants as line
use Rattle.cb_model.specs.Called.{Called, makes}
use Rattle.cb_model.specs.Event.{event_of}
use Rattle.cb_world.specs.declared.shown.Shown.{Shown}
use Rattle.cb_world.specs.Seats.{SeatState, OpenWriteState, IsClaimAt}
use Rattle.cb_world.specs.World.{WorldState, IsKnown}
use Rattle.cb_mutate.specs.MapBeside.{IsMapOf}
use Rattle.cb_core.specs.declared.event.Atomic.TheVariants.{Pin, Claim, Settle}
use Rattle.cb_core.specs.declared.event.Event.{Event}
use Rattle.cb_core.specs.declared.event.Event.TheVariants as event
use Rattle.cb_core.specs.NowIn.{AreGone, now_in}

-- the handle that a call on h is about, where so many objects were made: none, where h was not yet
-- made
abbrev pub handle_on : ℕ → ℕ → Option ℕ
handle_on made h = if nat_lt h made then Some h else None

-- the handle that a make was given, where it was given one
abbrev pub handle_given : Reply → Option ℕ
handle_given (answer.Made handle version) = Some handle.n
handle_given reply = None

-- the reply says nothing of any object: a number that has to rise stands at its end, the seat has
-- as many pins as it may have, another seat holds the far lock, or a write is begun and not yet
-- done
abbrev pub says_nothing : Reply → Bool
says_nothing answer.Worn = true
says_nothing answer.ScopeFull = true
says_nothing (answer.Held seat) = true
says_nothing answer.Claimed = true
says_nothing reply = false

-- a request of a seat, as it was answered: a call, unless the reply says nothing of any object
abbrev pub call_of : ℕ → Option ℕ → Request → Reply → List Called
call_of seat handle request reply = if says_nothing reply then []
    else record { lane = seat; handle = handle; event = event_of request reply } ∷ []

-- the write that a seat began by a claim
pub record ClaimCall : Type 0 where
  pub seat : ℕ
  pub handle : ℕ
  pub at : ℕ
  pub bytes : List ℕ

-- the claims that were granted, after an event, the newest one first
abbrev pub claims_after : List ClaimCall → Event → Reply → List ClaimCall
claims_after claims (event.Step seat (Claim handle at bytes)) answer.Claimed =
    record { seat = seat; handle = handle.n; at = at; bytes = bytes } ∷ claims
claims_after claims e r = claims

-- the newest claim of a seat on an object
abbrev pub claim_by : List ClaimCall → ℕ → ℕ → Option ClaimCall
claim_by [] seat h = None
claim_by (c ∷ claims) seat h =
    if nat_eq c.seat seat && nat_eq c.handle h then Some c else claim_by claims seat h

-- the write that a settling completes, where it was begun by this claim
abbrev pub write_settled : ℕ → Option ℕ → Option ClaimCall → Reply → List Called
write_settled seat handle None r = []
write_settled seat handle (Some c) r = call_of seat handle (line.Write [] c.at c.bytes) r

-- An answered event, after the calls and the claims before it: a make, a turn on an object and a
-- pin are calls of their seat, with no name. A claim that is refused is a write that is refused,
-- and the settling of one that was granted is its write. Every other event is none. (A pin of an
-- object that is far, or that has as many pins as its word counts, is a call that was refused.)
abbrev pub called_as : List Called → List ClaimCall → Event → Reply → List Called
called_as before claims (event.Turn seat (job.Make bytes)) r =
    call_of seat (handle_given r) (line.Make [] bytes) r
called_as before claims (event.Turn seat (job.Read handle)) r =
    call_of seat (handle_on (makes before) handle.n) (line.Read []) r
called_as before claims (event.Turn seat (job.Write handle at bytes)) r =
    call_of seat (handle_on (makes before) handle.n) (line.Write [] at bytes) r
called_as before claims (event.Turn seat (job.Free handle)) r =
    call_of seat (handle_on (makes before) handle.n) (line.Free []) r
called_as before claims (event.Step seat (Pin handle)) r =
    call_of seat (handle_on (makes before) handle.n) (line.Pin []) r
called_as before claims (event.Step seat (Claim handle at bytes)) r =
    call_of seat (handle_on (makes before) handle.n) (line.Write [] at bytes) r
called_as before claims (event.Step seat (Settle handle)) (answer.Version version) =
    write_settled seat (handle_on (makes before) handle.n) (claim_by claims seat handle.n)
    (answer.Version version)
called_as before claims e r = []

-- the calls of answered events one after another, after those before them
abbrev pub calls_by : List Called → List ClaimCall → List Event → List Reply → List Called
calls_by before claims [] replies = []
calls_by before claims (e ∷ events) [] = []
calls_by before claims (e ∷ events) (r ∷ replies) = called_as before claims e r
    ++ calls_by (before ++ called_as before claims e r) (claims_after claims e r) events replies

-- the claims that were granted after all of them
abbrev pub claims_by : List ClaimCall → List Event → List Reply → List ClaimCall
claims_by claims [] replies = claims
claims_by claims (e ∷ events) [] = claims
claims_by claims (e ∷ events) (r ∷ replies) = claims_by (claims_after claims e r) events replies

-- each open write of a seat was begun by the newest of its claims on the object
abbrev pub AreBegun : List ClaimCall → List SeatState → Type 0
AreBegun claims seats = (seat at : ℕ) (c : OpenWriteState) → IsClaimAt seats seat at c
    → claim_by claims seat c.handle
    ≡ Some (record { seat = seat; handle = c.handle; at = c.at; bytes = c.bytes })

-- The plain map stands beside the world: after these calls it has of each object what the object
-- holds, for whoever knows the world; what is gone is exactly what was lost; and the open writes
-- are those of these claims.
pub record StandsBeside (calls : List Called) (claims : List ClaimCall) (w : WorldState) : Type 0
  where
    pub shown : Shown
    pub known : IsKnown w.desk w.far shown
    pub beside : IsMapOf calls w.far.made (λ h. now_in w shown h)
    pub gone : AreGone w shown
    pub begun : AreBegun claims w.seats
