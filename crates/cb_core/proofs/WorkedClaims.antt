-- Worked examples of a write in steps and of the far lock: steps, and steps with one part broken.
use Rattle.std.proofs.Common.{◌≡◌, ℕ, zero, suc, ◌-◌, ◌^◌, true, false, List, [], ◌∷◌, None, Some, length, get_or, refl, ap, lit<, lit≤, arith}
use Rattle.cb_types.specs.declared.reply.Reply.TheVariants as answer
use Rattle.cb_world.specs.FarState.{FarState}
use Rattle.cb_world.specs.Memory.{window}
use Rattle.cb_world.specs.OpenSteps.{IsClaimOn, NoClaimOn}
use Rattle.cb_world.specs.Plain.{Words}
use Rattle.cb_world.specs.Seats.{SeatState, OpenWriteState, idle_seat, claims_of_seat}
use Rattle.cb_world.specs.World.{WorldState}
use Rattle.cb_core.specs.declared.event.Atomic.TheVariants.{Claim, Store, Settle}
use Rattle.cb_core.specs.declared.event.Event.TheVariants as event
use Rattle.cb_core.specs.Step.{Step}
use Rattle.cb_core.specs.Claiming.{claim_answer, ClaimStep, refused, taken, StoreStep, not_claimed, nothing_left, stamped, SettleStep, not_stored, settled}
use Rattle.cb_core.specs.Holding.{TakeStep, held, taken as lock_taken, GiveStep, not_held, given}
use Rattle.cb_core.proofs.WorkedPins.{away, calm, moving, hot, pinned, settings}

-- object 0, of two bytes, has this word, this version and this memory word; the first of two seats
-- has these open writes and may hold the lock
abbrev words_are : ℕ → ℕ → ℕ → Words
words_are word version memory = record {
  settings = settings;
  words = word ∷ 0 ∷ [];
  versions = version ∷ 0 ∷ [];
  memory = memory ∷ [];
}

abbrev claiming : List OpenWriteState → SeatState
claiming claims = record { pins = []; claims = claims; holds = false; order = None }

abbrev world : FarState → Words → List OpenWriteState → WorldState
world far x claims = record { desk = x; far = far; seats = claiming claims ∷ idle_seat ∷ [] }

-- 0c over the second byte of 0a 0b, of which so many words are stored
abbrev write : ℕ → OpenWriteState
write n = record {
  handle = 0;
  len = 2;
  version = 3;
  words = 2826 ∷ [];
  at = 1;
  bytes = 12 ∷ [];
  stored = n;
}

-- ---- a claim
claims_it : (far : FarState) → ClaimStep 0 0 1 (12 ∷ []) (world far (words_are calm 3 2826) [])
    answer.Claimed (world far (words_are moving 3 2826) (write 0 ∷ []))
unfolding window
claims_it far = taken (record { free = (refl, refl); inside = lit≤ tt; next = lit< tt }) refl refl (record {
  word = record {
    word = moving;
    claims = record {
      state = refl;
      hot = refl;
      pins = refl;
      len = refl;
      place = refl;
      number = refl;
    };
    words = refl;
  };
  seats = refl;
  far = refl;
})

claims_nothing : (far : FarState) → ClaimStep 0 0 1 (12 ∷ []) (world far (words_are calm 3 2826) [])
    answer.Claimed (world far (words_are calm 3 2826) []) → ⊥
claims_nothing far (refused not reply same) = not refl
claims_nothing far (taken may is reply t) =
    let e : 0 ≡ 1 = ap (λ (s : List SeatState). length (claims_of_seat s 0)) t.seats in omega (arith, e)

records_it_twice : (far : FarState) → ClaimStep 0 0 1 (12 ∷ []) (world far (words_are calm 3 2826) [])
    answer.Claimed (world far (words_are moving 3 2826) (write 0 ∷ write 0 ∷ [])) → ⊥
records_it_twice far (refused not reply same) = not refl
records_it_twice far (taken may is reply t) =
    let e : 2 ≡ 1 = ap (λ (s : List SeatState). length (claims_of_seat s 0)) t.seats in omega (arith, e)

abbrev first_version : List OpenWriteState → ℕ
first_version [] = 0
first_version (c ∷ cs) = c.version

at_another_version : (far : FarState) → ClaimStep 0 0 1 (12 ∷ []) (world far (words_are calm 3 2826) [])
    answer.Claimed (world far (words_are moving 3 2826) (record (write 0) { version = 2 } ∷ [])) → ⊥
at_another_version far (refused not reply same) = not refl
at_another_version far (taken may is reply t) =
    let e : 2 ≡ 3 = ap (λ (s : List SeatState). first_version (claims_of_seat s 0)) t.seats in
    omega (arith, e)

-- an object with a pin is refused, and so is one that is far, a write past the end and a last version
claims_pinned : claim_answer (words_are pinned 3 2826) 0 1 1 ≡ answer.Pinned 1
claims_pinned = refl

claims_far : claim_answer (words_are away 3 2826) 0 1 1 ≡ answer.NotHere
claims_far = refl

claims_moving : claim_answer (words_are moving 3 2826) 0 1 1 ≡ answer.Moving
claims_moving = refl

claims_past : claim_answer (words_are pinned 3 2826) 0 1 2 ≡ answer.Range 2
claims_past = refl

claims_last : claim_answer (words_are calm (2 ^ 64 - 1) 2826) 0 1 1 ≡ answer.Worn
claims_last = refl

is_refused : (far : FarState) → ClaimStep 0 0 1 (12 ∷ []) (world far (words_are pinned 3 2826) [])
    (answer.Pinned 1) (world far (words_are pinned 3 2826) [])
is_refused far = refused (λ e. cc) refl refl

-- ---- stores
none_some : (c : OpenWriteState) → None ≡ Some c → ⊥
none_some c e = cc

abbrev on_it : (s : ℕ) → IsClaimOn (write s ∷ []) 0 0
on_it s = record { ongoing = write s; there = refl; on = refl }

stores_nothing_left : (far : FarState) → StoreStep 0 0 (world far (words_are moving 4 3082) (write 2 ∷ []))
    (answer.Stored 0) (world far (words_are moving 4 3082) (write 2 ∷ []))
stores_nothing_left far = nothing_left 0 (on_it 2) refl refl refl

stores_the_version : (far : FarState) → StoreStep 0 0 (world far (words_are moving 3 3082) (write 1 ∷ []))
    (answer.Stored 0) (world far (words_are moving 4 3082) (write 2 ∷ []))
stores_the_version far = stamped 0 (on_it 1) refl refl refl (record { seats = refl; far = refl })

no_claim : (h : ℕ) → NoClaimOn [] h
no_claim h at c there = absurd (none_some c there)

stores_unclaimed : (far : FarState) → StoreStep 0 0 (world far (words_are calm 3 2826) []) answer.NotClaimed
    (world far (words_are calm 3 2826) [])
stores_unclaimed far = not_claimed (no_claim 0) refl refl

-- ---- settling
settles_it : (far : FarState) → SettleStep 0 0 (world far (words_are moving 4 3082) (write 2 ∷ []))
    (answer.Version 4) (world far (words_are hot 4 3082) [])
settles_it far = settled 0 (on_it 2) refl refl (record {
  word = record {
    word = hot;
    settles = record {
      state = refl;
      hot = refl;
      pins = refl;
      len = refl;
      place = refl;
      below = lit< tt;
    };
    words = refl;
  };
  seats = refl;
  far = refl;
})

settles_too_early : (far : FarState) → SettleStep 0 0 (world far (words_are moving 3 3082) (write 1 ∷ []))
    (answer.NotStored 1) (world far (words_are moving 3 3082) (write 1 ∷ []))
settles_too_early far = not_stored 0 (on_it 1) (lit≤ tt) refl refl

settles_unclaimed : (far : FarState) → SettleStep 0 0 (world far (words_are hot 4 3082) [])
    answer.NotClaimed (world far (words_are hot 4 3082) [])
settles_unclaimed far = not_claimed (no_claim 0) refl refl

-- ---- the far lock
abbrev holder : SeatState
holder = record { pins = []; claims = []; holds = true; order = None }

abbrev seated : FarState → List SeatState → WorldState
seated far seats = record { desk = words_are calm 3 2826; far = far; seats = seats }

takes_it : (far : FarState)
    → TakeStep 0 (seated far (idle_seat ∷ [])) answer.Done (seated far (holder ∷ []))
takes_it far = lock_taken none refl refl
  where
    none : (k : ℕ) → (get_or (idle_seat ∷ []) k idle_seat).holds ≡ false
    none zero = refl
    none (suc k) = refl

takes_from_another : (far : FarState) → TakeStep 0 (seated far (idle_seat ∷ holder ∷ [])) (answer.Held 1)
    (seated far (idle_seat ∷ holder ∷ []))
takes_from_another far = held 1 refl refl refl

takes_beside_another : (far : FarState) → TakeStep 0 (seated far (idle_seat ∷ holder ∷ [])) answer.Done
    (seated far (holder ∷ holder ∷ [])) → ⊥
takes_beside_another far (held k holds reply same) = absurd cc
takes_beside_another far (lock_taken none reply same) = let e : true ≡ false = none 1 in cc

gives_it : (far : FarState)
    → GiveStep 0 (seated far (holder ∷ [])) answer.Done (seated far (idle_seat ∷ []))
gives_it far = given refl refl refl

gives_anothers : (far : FarState) → GiveStep 0 (seated far (idle_seat ∷ holder ∷ [])) answer.NotHeld
    (seated far (idle_seat ∷ holder ∷ []))
gives_anothers far = not_held (λ holds. let e : false ≡ true = holds in cc) refl refl

takes_back_anothers : (far : FarState) → GiveStep 0 (seated far (idle_seat ∷ holder ∷ [])) answer.Done
    (seated far (idle_seat ∷ idle_seat ∷ [])) → ⊥
takes_back_anothers far (not_held none reply same) = absurd cc
takes_back_anothers far (given holds reply same) = let e : false ≡ true = holds in cc

-- ---- they are events
claim_comes : (far : FarState) → Step (world far (words_are calm 3 2826) [])
    (event.Step 0 (Claim (record { n = 0 }) 1 (12 ∷ []))) answer.Claimed
    (world far (words_are moving 3 2826) (write 0 ∷ []))
claim_comes far = claims_it far

store_comes : (far : FarState) → Step (world far (words_are moving 3 3082) (write 1 ∷ []))
    (event.Step 0 (Store (record { n = 0 }))) (answer.Stored 0)
    (world far (words_are moving 4 3082) (write 2 ∷ []))
store_comes far = stores_the_version far

settle_comes : (far : FarState) → Step (world far (words_are moving 4 3082) (write 2 ∷ []))
    (event.Step 0 (Settle (record { n = 0 }))) (answer.Version 4)
    (world far (words_are hot 4 3082) [])
settle_comes far = settles_it far
