-- Worked examples of open writes and of the far lock's holder: what meets each definition, and for
-- each of its parts what breaks that part alone.
use Rattle.std.proofs.Common.{◌≡◌, ◌⊎◌, ℕ, zero, suc, ◌+◌, ◌-◌, ◌^◌, ◌<◌, ◌≤◌, true, false, List, [], ◌∷◌, None, Some, get_or, refl, sym, ap, ◌∙◌, subst, lit<, lit≤, arith, inl, inr}
use Rattle.cb_ptr.specs.declared.word.State.TheVariants as word
use Rattle.cb_ptr.specs.Word.{state_of, hot_of}
use Rattle.cb_types.specs.declared.config.Config.{Config}
use Rattle.cb_world.specs.FarState.{FarState}
use Rattle.cb_world.specs.Leaving.{LeavingState}
use Rattle.cb_world.specs.Memory.{IsPacked, memory_byte, window}
use Rattle.cb_world.specs.OpenSteps.{IsClaimOn, NoClaimOn, IsClaimed, IsSettled, NoneHolds, next_word}
use Rattle.cb_world.specs.OpenWrites.{touched, stores_left, IsOpen, IsLeavingNow, IsClaimedNow, AreOpen}
use Rattle.cb_world.specs.Plain.{Words}
use Rattle.cb_world.specs.Seats.{SeatState, OpenWriteState, IsClaimAt, Holds, AtMostOneHolds, idle_seat, with_claims, with_holds}
use Rattle.cb_world.specs.World.{WorldState, IsSoundWorld}
use Rattle.cb_world.specs.Write.{IsWriteBelow}
use Rattle.cb_world.proofs.Apart.{some_same}
use Rattle.cb_world.proofs.WorkedSteps.{none_some}
use Rattle.cb_world.proofs.WorkedWorld.{far}

-- ---- 0c over 0b, in a word of 0a 0b, as far as the byte n
front : (n : ℕ) → 8 ≤ n → IsWriteBelow n (2826 ∷ []) 1 (12 ∷ []) (3082 ∷ [])
front n most = record { sized = refl; inside = inside; outside = outside }
  where
    inside : (i : ℕ) → i < 1 → 1 + i < n → memory_byte (3082 ∷ []) (1 + i) ≡ get_or (12 ∷ []) i 0
    inside zero below less = refl
    inside (suc i) below less = absurd (omega (arith, below))

    beside : (p : ℕ) → p < 8 → (p < 1) ⊎ (2 ≤ p)
        → memory_byte (3082 ∷ []) p ≡ memory_byte (2826 ∷ []) p
    beside zero below side = refl
    beside (suc zero) below (inl before) = absurd (omega (arith, before))
    beside (suc zero) below (inr behind) = absurd (omega (arith, behind))
    beside (suc (suc zero)) below side = refl
    beside (suc (suc (suc zero))) below side = refl
    beside (suc (suc (suc (suc zero)))) below side = refl
    beside (suc (suc (suc (suc (suc zero))))) below side = refl
    beside (suc (suc (suc (suc (suc (suc zero)))))) below side = refl
    beside (suc (suc (suc (suc (suc (suc (suc zero))))))) below side = refl
    beside (suc (suc (suc (suc (suc (suc (suc (suc p)))))))) below side =
        absurd (omega (arith, below))

    outside : (p : ℕ) → p < 8 → (n ≤ p) ⊎ ((p < 1) ⊎ (2 ≤ p))
        → memory_byte (3082 ∷ []) p ≡ memory_byte (2826 ∷ []) p
    outside p below (inl past) = absurd (omega (arith, most, below, past))
    outside p below (inr side) = beside p below side

-- before its first word all bytes are as they were
nothing_yet : IsWriteBelow 0 (2826 ∷ []) 1 (12 ∷ []) (2826 ∷ [])
nothing_yet = record {
  sized = refl;
  inside = λ i below less. absurd (omega (arith, less));
  outside = λ p below side. refl;
}

too_early : IsWriteBelow 0 (2826 ∷ []) 1 (12 ∷ []) (3082 ∷ []) → ⊥
too_early w = let z : 12 ≡ 11 = w.outside 1 (lit< tt) (inl (lit≤ tt)) in omega (arith, z)

too_late : IsWriteBelow 8 (2826 ∷ []) 1 (12 ∷ []) (2826 ∷ []) → ⊥
too_late w = let z : 11 ≡ 12 = w.inside 0 (lit< tt) (lit< tt) in omega (arith, z)

beside_it : IsWriteBelow 8 (2826 ∷ []) 1 (11 ∷ []) (2827 ∷ []) → ⊥
beside_it w = let z : 11 ≡ 10 = w.outside 0 (lit< tt) (inr (inl (lit< tt))) in omega (arith, z)

another_size : IsWriteBelow 0 (2826 ∷ []) 1 (11 ∷ []) (2826 ∷ 0 ∷ []) → ⊥
another_size w = let z : 2 ≡ 1 = w.sized in omega (arith, z)

-- ---- the words that a write touches
no_bytes_no_word : touched 3 0 ≡ 0
no_bytes_no_word = refl

two_bytes_in_one_word : touched 6 2 ≡ 1
two_bytes_in_one_word = refl

two_bytes_in_two_words : touched 7 2 ≡ 2
two_bytes_in_two_words = refl

-- ---- an object of two bytes at the place 0: Moving without pins, with one pin, and here
abbrev moving : ℕ
moving = 16387

abbrev moving_pinned : ℕ
moving_pinned = 16395

abbrev calm : ℕ
calm = 16386

abbrev settings : Config
settings =
    record { k = 1; r = 1; nodes = 1; frames = 1; room = 1; handles = 2; turns = 0 }

abbrev desk : ℕ → ℕ → List ℕ → Words
desk w version memory = record {
  settings = settings;
  words = w ∷ 0 ∷ [];
  versions = version ∷ 0 ∷ [];
  memory = memory;
}

-- it was claimed at this version, and so many words are stored
abbrev write_at : ℕ → ℕ → OpenWriteState
write_at version stored = record {
  handle = 0;
  len = 2;
  version = version;
  words = 2826 ∷ [];
  at = 1;
  bytes = 12 ∷ [];
  stored = stored;
}

abbrev write : OpenWriteState
write = write_at 3 1

-- 0a 0b, and six bytes of 0 behind them
packed : IsPacked 2 (2826 ∷ [])
packed zero past below = absurd (omega (arith, past))
packed (suc zero) past below = absurd (omega (arith, past))
packed (suc (suc zero)) past below = refl
packed (suc (suc (suc zero))) past below = refl
packed (suc (suc (suc (suc zero)))) past below = refl
packed (suc (suc (suc (suc (suc zero))))) past below = refl
packed (suc (suc (suc (suc (suc (suc zero)))))) past below = refl
packed (suc (suc (suc (suc (suc (suc (suc zero))))))) past below = refl
packed (suc (suc (suc (suc (suc (suc (suc (suc p)))))))) past below = absurd (omega (arith, below))

two_left : stores_left (write_at 3 0) ≡ 2
two_left = refl

none_left : stores_left (write_at 3 2) ≡ 0
none_left = refl

-- claimed, with its memory word stored, and with the version word stored too
claimed : IsOpen (desk moving 3 (2826 ∷ [])) (write_at 3 0)
unfolding window
claimed = record {
  below = lit< tt;
  moving = refl;
  no_pins = refl;
  len = refl;
  inside = lit≤ tt;
  next = lit< tt;
  few = lit≤ tt;
  stamp = refl;
  contents = nothing_yet;
  packed = packed;
}

half_done : IsOpen (desk moving 3 (3082 ∷ [])) write
unfolding window
half_done = record {
  below = lit< tt;
  moving = refl;
  no_pins = refl;
  len = refl;
  inside = lit≤ tt;
  next = lit< tt;
  few = lit≤ tt;
  stamp = refl;
  contents = front 8 (lit≤ tt);
  packed = packed;
}

all_stored : IsOpen (desk moving 4 (3082 ∷ [])) (write_at 3 2)
unfolding window
all_stored = record {
  below = lit< tt;
  moving = refl;
  no_pins = refl;
  len = refl;
  inside = lit≤ tt;
  next = lit< tt;
  few = lit≤ tt;
  stamp = refl;
  contents = front 16 (lit≤ tt);
  packed = packed;
}

no_handle : IsOpen (record (desk moving 3 (3082 ∷ [])) { words = [] }) write → ⊥
no_handle o = omega (arith, o.below)

not_moving : IsOpen (desk calm 3 (3082 ∷ [])) write → ⊥
not_moving o = let e : word.Here ≡ word.Moving = o.moving in cc

pinned : IsOpen (desk moving_pinned 3 (3082 ∷ [])) write → ⊥
pinned o = let e : 1 ≡ 0 = o.no_pins in omega (arith, e)

another_length : IsOpen (desk moving 3 (3082 ∷ [])) (record write { len = 3 }) → ⊥
another_length o = let e : 2 ≡ 3 = o.len in omega (arith, e)

past_its_end : IsOpen (desk moving 3 (3082 ∷ [])) (record write { bytes = 12 ∷ 0 ∷ [] }) → ⊥
past_its_end o = let l : 3 ≤ 2 = o.inside in omega (arith, l)

no_next_version : IsOpen (desk moving (2 ^ 64 - 1) (3082 ∷ [])) (write_at (2 ^ 64 - 1) 1) → ⊥
no_next_version o = let l : 2 ^ 64 - 1 < 2 ^ 64 - 1 = o.next in omega (arith, l)

stored_too_much : IsOpen (desk moving 4 (3082 ∷ [])) (write_at 3 3) → ⊥
stored_too_much o = let l : 3 ≤ 2 = o.few in omega (arith, l)

stamped_too_early : IsOpen (desk moving 4 (3082 ∷ [])) write → ⊥
stamped_too_early o = let e : 4 ≡ 3 = o.stamp in omega (arith, e)

not_stamped : IsOpen (desk moving 3 (3082 ∷ [])) (write_at 3 2) → ⊥
not_stamped o = let e : 3 ≡ 4 = o.stamp in omega (arith, e)

-- one byte long, with 0b behind it
abbrev not_packed : OpenWriteState
not_packed = record (write_at 3 0) { len = 1; at = 0; bytes = 10 ∷ [] }

abbrev moving_one_byte : ℕ
moving_one_byte = moving - 8192

behind_its_end : IsOpen (desk moving_one_byte 3 (2826 ∷ [])) not_packed → ⊥
behind_its_end o = let z : 11 ≡ 0 = o.packed 1 (lit≤ tt) (lit< tt) in omega (arith, z)

not_stored : IsOpen (desk moving 3 (2826 ∷ [])) write → ⊥
unfolding window
not_stored o = too_late o.contents

-- ---- all words that move
abbrev claims_are : List OpenWriteState → SeatState
claims_are claims = record { pins = []; claims = claims; holds = false; order = None }

abbrev one_claim : List SeatState
one_claim = claims_are (write ∷ []) ∷ []

abbrev now : Words
now = desk moving 3 (3082 ∷ [])

only_claim : (seat at : ℕ) (c : OpenWriteState) → IsClaimAt one_claim seat at c
    → (seat ≡ 0) × (at ≡ 0) × (write ≡ c)
only_claim zero zero c e = (refl, refl, some_same write c e)
only_claim zero (suc at) c e = absurd (none_some c e)
only_claim (suc seat) at c e = absurd (none_some c e)

are_open : AreOpen now far one_claim
are_open = record {
  each = λ seat at c there. subst (IsOpen now) (only_claim seat at c there).2 half_done;
  once = λ seat other at place c d a b same. (
    (only_claim seat at c a).0 ∙ sym (only_claim other place d b).0,
    (only_claim seat at c a).1 ∙ sym (only_claim other place d b).1,
  );
  apart = λ seat at c there leaving. none_some leaving.0 leaving.1;
  moving = moves;
}
  where
    moves : (h : ℕ) → h < 2 → state_of (get_or (moving ∷ 0 ∷ []) h 0) ≡ word.Moving
        → IsClaimedNow one_claim h ⊎ IsLeavingNow far h
    moves zero below moved = inl (0, 0, write, refl, refl)
    moves (suc zero) below moved = let e : word.Empty ≡ word.Moving = moved in cc
    moves (suc (suc h)) below moved = absurd (omega (arith, below))

-- a claim of a word that does not move
claims_a_calm_word : AreOpen (desk calm 3 (3082 ∷ [])) far one_claim → ⊥
claims_a_calm_word a = not_moving (a.each 0 0 write refl)

-- two seats, or one twice, with one object
claimed_by_two : AreOpen now far (claims_are (write ∷ []) ∷ claims_are (write ∷ []) ∷ []) → ⊥
claimed_by_two a =
    let e : 0 ≡ 1 = (a.once 0 1 0 0 write write refl refl refl).0 in omega (arith, e)

claimed_twice : AreOpen now far (claims_are (write ∷ write ∷ []) ∷ []) → ⊥
claimed_twice a =
    let e : 0 ≡ 1 = (a.once 0 0 0 1 write write refl refl refl).1 in omega (arith, e)

-- the object of a claim is one of those that leave: it lies in slot 1 of the span in frame 0
abbrev batch : LeavingState
batch = record {
  set = 0;
  pages = 1;
  frames = 0 ∷ [];
  words = [];
  made = true;
  parities = [];
  shards = [];
}

abbrev leaving_far : FarState
leaving_far = record far { leaving = Some batch }

it_leaves : IsLeavingNow leaving_far 0
it_leaves = (batch, refl, (0, 1, (0, lit< tt, refl), refl))

claims_what_leaves : AreOpen now leaving_far one_claim → ⊥
claims_what_leaves a = a.apart 0 0 write refl it_leaves

-- a word that moves, and no seat claims it, nor does it leave
moves_unclaimed : AreOpen now far (idle_seat ∷ []) → ⊥
moves_unclaimed a = elim (a.moving 0 (lit< tt) refl) [
  | inl claimed ↦ none claimed.0 claimed.1 claimed.2 claimed.3
  | inr leaving ↦ none_some leaving.0 leaving.1
]
  where
    none : (seat at : ℕ) (c : OpenWriteState) → IsClaimAt (idle_seat ∷ []) seat at c → ⊥
    none zero at c e = none_some c e
    none (suc seat) at c e = none_some c e

-- ---- the far lock
abbrev holder : SeatState
holder = record { pins = []; claims = []; holds = true; order = None }

one_holds : AtMostOneHolds (idle_seat ∷ holder ∷ [])
one_holds a b held other = second a held ∙ sym (second b other)
  where
    second : (k : ℕ) → Holds (idle_seat ∷ holder ∷ []) k → k ≡ 1
    second zero held = let e : false ≡ true = held in cc
    second (suc zero) held = refl
    second (suc (suc k)) held = let e : false ≡ true = held in cc

none_holds : AtMostOneHolds (idle_seat ∷ [])
none_holds zero zero held other = refl
none_holds zero (suc b) held other = let e : false ≡ true = held in cc
none_holds (suc a) b held other = let e : false ≡ true = held in cc

two_hold : AtMostOneHolds (holder ∷ idle_seat ∷ holder ∷ []) → ⊥
two_hold one = let e : 0 ≡ 2 = one 0 2 refl refl in omega (arith, e)

-- ---- what one seat has is changed; what else it has stays, and so do the other seats
claims_changed : with_claims (holder ∷ idle_seat ∷ []) 0 (write ∷ [])
    ≡ record holder { claims = write ∷ [] } ∷ idle_seat ∷ []
claims_changed = refl

holder_changed : with_holds (claims_are (write ∷ []) ∷ idle_seat ∷ []) 0 true
    ≡ record (claims_are (write ∷ [])) { holds = true } ∷ idle_seat ∷ []
holder_changed = refl

-- ---- a world in which two seats hold the lock, or a word moves for no one, is not sound
two_holders : (w : WorldState) → Holds w.seats 0 → Holds w.seats 2 → IsSoundWorld w → ⊥
two_holders w first third sound =
    let e : 0 ≡ 2 = sound.one 0 2 first third in omega (arith, e)

moves_for_no_one : (w : WorldState) → (AreOpen w.desk w.far w.seats → ⊥) → IsSoundWorld w → ⊥
moves_for_no_one w not sound = not sound.ongoing

-- ---- what a seat's open writes are on
first_on : IsClaimOn (write ∷ []) 0 0
first_on = record { ongoing = write; there = refl; on = refl }

past_on : IsClaimOn (write ∷ []) 0 1 → ⊥
past_on x = none_some x.ongoing x.there

another_on : IsClaimOn (write ∷ []) 1 0 → ⊥
another_on x =
    let e : 0 ≡ x.ongoing.handle =
    ap (λ (c : OpenWriteState). c.handle) (some_same write x.ongoing x.there) in
    let on = x.on in omega (arith, e, on)

none_on : NoClaimOn [] 0
none_on at c there e = none_some c there

some_on : NoClaimOn (write ∷ []) 0 → ⊥
some_on none = none 0 write refl refl

-- the memory word 0 is stored first, and the word 1 where the write begins there
first_word : next_word (write_at 3 0) ≡ 0
first_word = refl

second_word : next_word (record (write_at 3 0) { at = 9 }) ≡ 1
second_word = refl

-- ---- the words of a claim and of its settling
abbrev hot : ℕ
hot = 16390

claims_it : IsClaimed (desk calm 3 []) 0 (desk moving 3 [])
claims_it = record {
  word = moving;
  claims = record {
    state = refl;
    hot = refl;
    pins = refl;
    len = refl;
    place = refl;
    number = refl;
  };
  words = refl;
}

abbrev word_of : Words → ℕ
word_of x = get_or x.words 0 0

claims_nothing : IsClaimed (desk calm 3 []) 0 (desk calm 3 []) → ⊥
claims_nothing c =
    let e : 16386 ≡ c.word = ap word_of c.words in
    let n : c.word ≡ 16387 = c.claims.number in omega (arith, e, n)

claims_and_stamps : IsClaimed (desk calm 3 []) 0 (desk moving 4 []) → ⊥
claims_and_stamps c =
    let e : 4 ≡ 3 = ap (λ (x : Words). get_or x.versions 0 0) c.words in omega (arith, e)

settles_it : IsSettled (desk moving 4 []) 0 (desk hot 4 [])
settles_it = record {
  word = hot;
  settles = record {
    state = refl;
    hot = refl;
    pins = refl;
    len = refl;
    place = refl;
    below = lit< tt;
  };
  words = refl;
}

hot_flag : (x : ℕ) → x ≡ 16386 → hot_of x ≡ true → ⊥
hot_flag x e h = let f : false ≡ true = sym (ap hot_of e) ∙ h in cc

settles_cold : IsSettled (desk moving 4 []) 0 (desk calm 4 []) → ⊥
settles_cold c = hot_flag c.word (sym (ap word_of c.words)) c.settles.hot

-- ---- no seat holds the lock, and one does
none_at_all : NoneHolds (idle_seat ∷ [])
none_at_all zero = refl
none_at_all (suc k) = refl

one_does : NoneHolds (idle_seat ∷ holder ∷ []) → ⊥
one_does none = let e : true ≡ false = none 1 in cc
