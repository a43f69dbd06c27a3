-- Worked examples of writes in steps as calls of the plain map: what meets each definition, and what
-- breaks one part.
use Rattle.std.proofs.Common.{◌≡◌, ℕ, zero, suc, true, false, List, [], ◌∷◌, Option, None, Some, refl, sym, ap, ◌∙◌, arith}
use Rattle.cb_ptr.specs.declared.word.State.TheVariants as state
use Rattle.cb_types.specs.declared.config.Config.{Config}
use Rattle.cb_types.specs.declared.job.Job.TheVariants as job
use Rattle.cb_types.specs.declared.reply.Reply.{Reply}
use Rattle.cb_types.specs.declared.reply.Reply.TheVariants as answer
use Rattle.cb_model.specs.Called.{Called}
use Rattle.cb_model.specs.Event.Subject.{Contents}
use Rattle.cb_model.specs.Event.Event.{Makes, Shows, Writes, FindsUnmade, FindsEnd, Refused}
use Rattle.cb_model.specs.Legal.{Follow}
use Rattle.cb_world.specs.declared.shown.Shown.{Shown}
use Rattle.cb_world.specs.FarState.{FarState}
use Rattle.cb_world.specs.Memory.{bytes_in}
use Rattle.cb_world.specs.Now.{Now, is_gone, now}
use Rattle.cb_world.specs.Now.Now.{freed, held, gone}
use Rattle.cb_world.specs.Seats.{SeatState, OpenWriteState, idle_seat}
use Rattle.cb_world.specs.World.{WorldState, empty_world}
use Rattle.cb_core.specs.Called.{AreBegun, ClaimCall, called_as, calls_by, claim_by, claims_after, claims_by, StandsBeside}
use Rattle.cb_core.specs.NowIn.{AreGone, IsLostAt, claim_on, first_on, now_in, now_with}
use Rattle.cb_core.specs.declared.event.Atomic.TheVariants.{Claim, Pin, Settle, Store}
use Rattle.cb_core.specs.declared.event.Event.{Event}
use Rattle.cb_core.specs.declared.event.Event.TheVariants as event
use Rattle.cb_core.proofs.WorkedPins.{away, hot}

-- ---- what a claimed object holds

-- 0c over the second byte of 0a 0b, at the version 3
abbrev write : ℕ → OpenWriteState
write h = record {
  handle = h;
  len = 2;
  version = 3;
  words = 2826 ∷ [];
  at = 1;
  bytes = 12 ∷ [];
  stored = 1;
}

abbrev claiming : List OpenWriteState → SeatState
claiming claims = record { pins = []; claims = claims; holds = false; order = None }

second_of_a_seat : first_on 5 (write 4 ∷ write 5 ∷ []) ≡ Some (write 5)
second_of_a_seat = refl

none_of_a_seat : first_on 6 (write 4 ∷ write 5 ∷ []) ≡ None
none_of_a_seat = refl

of_the_second_seat : claim_on (claiming (write 4 ∷ []) ∷ claiming (write 5 ∷ []) ∷ []) 5 ≡ Some (write 5)
of_the_second_seat = refl

of_no_seat : claim_on (idle_seat ∷ claiming (write 5 ∷ []) ∷ []) 4 ≡ None
of_no_seat = refl

-- what is stored of a write is not held yet
holds_the_old : (n : Now) → now_with (Some (write 5)) n ≡ held 3 (10 ∷ 11 ∷ [])
unfolding bytes_in
holds_the_old n = refl

holds_its_words : now_with None (freed 4) ≡ freed 4
holds_its_words = refl

-- ---- the claims of a run
abbrev claimed : ℕ → ℕ → ClaimCall
claimed seat at = record { seat = seat; handle = 0; at = at; bytes = 12 ∷ [] }

abbrev claim : ℕ → ℕ → Event
claim seat at = event.Step seat (Claim (record { n = 0 }) at (12 ∷ []))

abbrev store : ℕ → Event
store seat = event.Step seat (Store (record { n = 0 }))

abbrev settle : ℕ → Event
settle seat = event.Step seat (Settle (record { n = 0 }))

a_claim : claims_after [] (claim 1 0) answer.Claimed ≡ claimed 1 0 ∷ []
a_claim = refl

a_refused_claim : claims_after [] (claim 1 0) answer.Moving ≡ []
a_refused_claim = refl

a_settling_takes_none_out : claims_after (claimed 1 0 ∷ []) (settle 1) (answer.Version 2)
    ≡ claimed 1 0 ∷ []
a_settling_takes_none_out = refl

newest_of_two : claim_by (claimed 1 1 ∷ claimed 1 0 ∷ []) 1 0 ≡ Some (claimed 1 1)
newest_of_two = refl

another_seats : claim_by (claimed 2 1 ∷ claimed 1 0 ∷ []) 1 0 ≡ Some (claimed 1 0)
another_seats = refl

on_another_object : claim_by (claimed 1 0 ∷ []) 1 1 ≡ None
on_another_object = refl

claimed_twice : claims_by [] (claim 1 0 ∷ store 1 ∷ settle 1 ∷ claim 1 1 ∷ [])
    (answer.Claimed ∷ answer.Stored 0 ∷ answer.Version 2 ∷ answer.Claimed ∷ [])
    ≡ claimed 1 1 ∷ claimed 1 0 ∷ []
claimed_twice = refl

-- ---- a write in steps as a call
abbrev one : Called
one = record { lane = 0; handle = Some 0; event = Makes (10 ∷ 11 ∷ []) 1 }

no_call_yet : called_as (one ∷ []) [] (claim 1 0) answer.Claimed ≡ []
no_call_yet = refl

no_call_between : called_as (one ∷ []) (claimed 1 0 ∷ []) (store 1) (answer.Stored 1) ≡ []
no_call_between = refl

the_call : called_as (one ∷ []) (claimed 1 0 ∷ []) (settle 1) (answer.Version 2)
    ≡ record { lane = 1; handle = Some 0; event = Writes 0 (12 ∷ []) 2 } ∷ []
the_call = refl

not_yet_settled : called_as (one ∷ []) (claimed 1 0 ∷ []) (settle 1) (answer.NotStored 1) ≡ []
not_yet_settled = refl

nothing_to_settle : called_as (one ∷ []) (claimed 1 0 ∷ []) (settle 2) answer.NotClaimed ≡ []
nothing_to_settle = refl

-- a claim that is refused is a write that is
past_the_end : called_as (one ∷ []) [] (claim 1 2) (answer.Range 2)
    ≡ record { lane = 1; handle = Some 0; event = FindsEnd 2 (12 ∷ []) 2 } ∷ []
past_the_end = refl

claim_too_early : called_as [] [] (claim 1 0) answer.Unmade
    ≡ record { lane = 1; handle = None; event = FindsUnmade } ∷ []
claim_too_early = refl

claim_of_a_pinned_object : called_as (one ∷ []) [] (claim 1 0) (answer.Pinned 1)
    ≡ record { lane = 1; handle = Some 0; event = Refused Contents } ∷ []
claim_of_a_pinned_object = refl

claim_of_the_last_version : called_as (one ∷ []) [] (claim 1 0) answer.Worn ≡ []
claim_of_the_last_version = refl

turn_beside_the_lock : called_as (one ∷ []) [] (event.Turn 2 (job.Read (record { n = 0 }))) (answer.Held 1)
    ≡ []
turn_beside_the_lock = refl

-- ---- a run: a seat makes an object, another writes to it in steps, and between two of these the
-- first finds it Moving, at a read and at a pin, and a node crashes
abbrev events : List Event
events = event.Turn 0 (job.Make (10 ∷ 11 ∷ [])) ∷ claim 1 1 ∷ store 1
    ∷ event.Turn 0 (job.Read (record { n = 0 })) ∷ event.Step 0 (Pin (record { n = 0 }))
    ∷ event.Turn 0 (job.Crash (record { n = 0 })) ∷ settle 1 ∷ store 1 ∷ settle 1
    ∷ event.Turn 0 (job.Read (record { n = 0 })) ∷ []

abbrev replies_with : List ℕ → List Reply
replies_with bytes = answer.Made (record { n = 0 }) 1 ∷ answer.Claimed ∷ answer.Stored 1
    ∷ answer.Moving ∷ answer.Moving ∷ answer.EpochAt (record { n = 1 }) ∷ answer.NotStored 1 ∷ answer.Stored 0
    ∷ answer.Version 2 ∷ answer.Bytes 2 bytes ∷ []

abbrev called_with : List ℕ → List Called
called_with bytes = one ∷ record { lane = 0; handle = Some 0; event = Refused Contents }
    ∷ record { lane = 0; handle = Some 0; event = Refused Contents }
    ∷ record { lane = 1; handle = Some 0; event = Writes 1 (12 ∷ []) 2 }
    ∷ record { lane = 0; handle = Some 0; event = Shows 2 bytes } ∷ []

calls_of_the_run : (bytes : List ℕ) → calls_by [] [] events (replies_with bytes) ≡ called_with bytes
calls_of_the_run bytes = refl

the_run_follows : Follow 1 2 [] (called_with (10 ∷ 12 ∷ []))
the_run_follows = (
  record { reply = (refl, omega arith, refl); unmade = tt },
  (
    record { reply = tt; unmade = tt },
    (
      record { reply = tt; unmade = tt },
      (
        record { reply = (omega arith, refl); unmade = tt },
        (record { reply = (refl, refl); unmade = tt }, tt),
      ),
    ),
  ),
)

-- the write is not lost
the_old_bytes : Follow 1 2 [] (called_with (10 ∷ 11 ∷ [])) → ⊥
the_old_bytes follow =
    let e : ◌≡◌ {A = List ℕ} (10 ∷ 11 ∷ []) (10 ∷ 12 ∷ []) = follow.1.1.1.1.0.reply.1 in
    absurd cc

-- and is there only once it is settled: a read before it would have to tell the old version
abbrev read_between : ℕ → List Called
read_between version = one ∷ record { lane = 0; handle = Some 0; event = Shows version (10 ∷ 11 ∷ []) }
    ∷ record { lane = 1; handle = Some 0; event = Writes 1 (12 ∷ []) 2 } ∷ []

reads_the_next : Follow 1 2 [] (read_between 2) → ⊥
reads_the_next follow = let e : 2 ≡ 1 = follow.1.0.reply.0 in omega (arith, e)

-- ---- the open writes of a world are those of the claims
abbrev c : Config
c = record { k = 1; r = 1; nodes = 2; frames = 2; room = 4; handles = 2; turns = 0 }

abbrev seats : List SeatState
seats = idle_seat ∷ claiming (write 0 ∷ []) ∷ []

none_there : (w : OpenWriteState) → None ≡ Some w → ⊥
none_there w e = cc

same_write : (a b : OpenWriteState) → Some a ≡ Some b → a ≡ b
same_write a b e = cc

abbrev of_it : OpenWriteState → Option ClaimCall
of_it w = Some (record { seat = 1; handle = w.handle; at = w.at; bytes = w.bytes })

begun_by_it : AreBegun (claimed 1 1 ∷ []) seats
begun_by_it zero at w is = absurd (none_there w is)
begun_by_it (suc zero) zero w is = let same = same_write (write 0) w is in
    ap (λ (x : OpenWriteState). claim_by (claimed 1 1 ∷ []) 1 x.handle) (sym same) ∙ ap of_it same
begun_by_it (suc zero) (suc at) w is = absurd (none_there w is)
begun_by_it (suc (suc seat)) at w is = absurd (none_there w is)

none_begun : (a : ClaimCall) → None ≡ Some a → ⊥
none_begun a e = cc

abbrev mine : ClaimCall
mine = record { seat = 1; handle = 0; at = 1; bytes = 12 ∷ [] }

begun_by_none : AreBegun [] seats → ⊥
begun_by_none begun = none_begun mine (begun 1 0 (write 0) refl)

begun_by_another_seat : AreBegun (claimed 0 1 ∷ []) seats → ⊥
begun_by_another_seat begun = none_begun mine (begun 1 0 (write 0) refl)

abbrev at_of : Option ClaimCall → ℕ
at_of None = 0
at_of (Some a) = a.at

begun_elsewhere : AreBegun (claimed 1 0 ∷ []) seats → ⊥
begun_elsewhere begun = let e : 0 ≡ 1 = ap at_of (begun 1 0 (write 0) refl) in omega (arith, e)

-- a map without its claims stands beside no world that has open writes
abbrev with_writes : WorldState
with_writes = record (empty_world c) { seats = seats }

unclaimed : StandsBeside [] [] with_writes → ⊥
unclaimed stands = begun_by_none stands.begun

-- and one that has what is stored of a write, where what was held at its claim is due, neither
abbrev stored : Called
stored = record { lane = 0; handle = Some 0; event = Makes (10 ∷ 12 ∷ []) 3 }

already_written : StandsBeside (stored ∷ []) (claimed 1 1 ∷ []) with_writes → ⊥
unfolding bytes_in
already_written stands =
    let e : ◌≡◌ {A = List ℕ} (10 ∷ 11 ∷ []) (10 ∷ 12 ∷ []) = (stands.beside.values 0).1 in absurd cc

-- ---- what is gone is lost, and what is lost is gone
gone_is_lost : (w : WorldState) (s : Shown) (h v : ℕ) → AreGone w s → (IsLostAt w h v → ⊥)
    → now_in w s h ≡ gone v → ⊥
gone_is_lost w s h v are not e = not (are.lost h v e)

lost_is_gone : (w : WorldState) (s : Shown) (h v : ℕ) (bytes : List ℕ) → AreGone w s
    → now_in w s h ≡ held v bytes → IsLostAt w h v → ⊥
lost_is_gone w s h v bytes are e lost = no_longer (sym e ∙ are.told h v lost)
  where
    no_longer : held v bytes ≡ gone v → ⊥
    no_longer f = cc

-- ---- what is lost
-- an object with this word, at this version, of a far state
abbrev with_far : FarState → ℕ → ℕ → WorldState
with_far far word version = record {
  desk = record (empty_world c).desk { words = word ∷ 0 ∷ []; versions = version ∷ 0 ∷ [] };
  far = far;
  seats = [];
}

is_lost : (far : FarState) → is_gone far 0 ≡ true → IsLostAt (with_far far away 3) 0 3
is_lost far broken = (refl, broken, refl)

here_is_not : (far : FarState) → IsLostAt (with_far far hot 3) 0 3 → ⊥
here_is_not far lost = let e : state.Here ≡ state.Far = lost.0 in cc

whole_is_not : (far : FarState) → is_gone far 0 ≡ false → IsLostAt (with_far far away 3) 0 3 → ⊥
whole_is_not far whole lost = let e = sym whole ∙ lost.1 in cc

not_at_another_version : (far : FarState) → IsLostAt (with_far far away 3) 0 4 → ⊥
not_at_another_version far lost = let e : 3 ≡ 4 = lost.2 in omega (arith, e)

-- ---- what the world holds
claimed_holds : (s : Shown) → now_in with_writes s 0 ≡ held 3 (10 ∷ 11 ∷ [])
unfolding bytes_in
claimed_holds s = refl

other_holds : (s : Shown) → now_in with_writes s 1 ≡ now s with_writes.far 1
other_holds s = refl
