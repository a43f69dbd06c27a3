-- Worked examples of open writes that reach past the first word of their object, of an object that
-- lies past the first word of memory, of words that move beside other claims, and of a seat that has
-- something of each kind.
use Rattle.std.proofs.Common.{◌≡◌, ◌⊎◌, ℕ, zero, suc, ◌<◌, true, false, List, [], ◌∷◌, None, Some, length, get_or, refl, ap, lit<, lit≤, arith, inl, inr}
use Rattle.cb_ptr.specs.declared.word.State.TheVariants as word
use Rattle.cb_ptr.specs.Word.{state_of}
use Rattle.cb_types.specs.declared.config.Config.{Config}
use Rattle.cb_types.specs.declared.order.Kept.TheVariants as kept
use Rattle.cb_world.specs.FarState.{FarState}
use Rattle.cb_world.specs.Leaving.{LeavingState}
use Rattle.cb_world.specs.Memory.{window}
use Rattle.cb_world.specs.OpenWrites.{stores_left, IsOpen, IsLeavingNow, IsClaimedNow, AreOpen}
use Rattle.cb_world.specs.Plain.{Words}
use Rattle.cb_world.specs.Seats.{SeatState, OpenWriteState, IsClaimAt, idle_seat, with_claims, with_holds, with_pins}
use Rattle.cb_world.specs.Write.{IsWriteBelow}
use Rattle.cb_world.proofs.Apart.{some_same}
use Rattle.cb_world.proofs.WorkedSteps.{none_some}
use Rattle.cb_world.proofs.WorkedWorld.{far}

-- ---- a word of 0a 0b, over which bytes from the second one on are written
second_byte_too : IsWriteBelow 8 (2826 ∷ []) 1 (12 ∷ 13 ∷ []) (789514 ∷ []) → ⊥
second_byte_too w = let z : 12 ≡ 13 = w.inside 1 (lit< tt) (lit< tt) in omega (arith, z)

behind_it : IsWriteBelow 8 (2826 ∷ []) 1 (12 ∷ []) (330762 ∷ []) → ⊥
behind_it w = let z : 5 ≡ 0 = w.outside 2 (lit< tt) (inr (inr (lit≤ tt))) in omega (arith, z)

-- ---- two bytes over the end of the first word: two words, and the version word
abbrev over_the_end : OpenWriteState
over_the_end = record {
  handle = 0;
  len = 16;
  version = 3;
  words = 0 ∷ 0 ∷ [];
  at = 7;
  bytes = 1 ∷ 2 ∷ [];
  stored = 0;
}

three_left : stores_left over_the_end ≡ 3
three_left = refl

-- ---- one byte in the second word of an object of 16 bytes, which lies at the place 1
abbrev settings : Config
settings = record { k = 1; r = 1; nodes = 1; frames = 1; room = 1; handles = 2; turns = 0 }

abbrev desk : List ℕ → Words
desk memory = record {
  settings = settings;
  words = 537001987 ∷ 0 ∷ [];
  versions = 3 ∷ 0 ∷ [];
  memory = memory;
}

abbrev in_second : OpenWriteState
in_second = record {
  handle = 0;
  len = 16;
  version = 3;
  words = 5 ∷ 2826 ∷ [];
  at = 9;
  bytes = 12 ∷ [];
  stored = 1;
}

-- its first word to be stored is the second one
second_not_stored : IsOpen (desk (7 ∷ 5 ∷ 2826 ∷ [])) in_second → ⊥
unfolding window
second_not_stored o = let z : 11 ≡ 12 = o.contents.inside 0 (lit< tt) (lit< tt) in omega (arith, z)

-- and its words lie at its place
at_another_place : IsOpen (desk (5 ∷ 3082 ∷ 0 ∷ [])) in_second → ⊥
unfolding window
at_another_place o = let z : 10 ≡ 5 = o.contents.outside 0 (lit< tt) (inr (inl (lit< tt))) in
    omega (arith, z)

-- ---- words that move: those of two objects of two bytes, where a seat claims the first
abbrev write : OpenWriteState
write = record {
  handle = 0;
  len = 2;
  version = 3;
  words = 2826 ∷ [];
  at = 1;
  bytes = 12 ∷ [];
  stored = 1;
}

abbrev words_are : ℕ → ℕ → Words
words_are first second = record {
  settings = settings;
  words = first ∷ second ∷ [];
  versions = 3 ∷ 3 ∷ [];
  memory = 3082 ∷ [];
}

abbrev moving : ℕ
moving = 16387

abbrev one_claim : List SeatState
one_claim = record { pins = []; claims = write ∷ []; holds = false; order = None } ∷ []

only_claim : (seat at : ℕ) (c : OpenWriteState) → IsClaimAt one_claim seat at c → write ≡ c
only_claim zero zero c e = some_same write c e
only_claim zero (suc at) c e = absurd (none_some c e)
only_claim (suc seat) at c e = absurd (none_some c e)

another_is_claimed : AreOpen (words_are moving moving) far one_claim → ⊥
another_is_claimed a = elim (a.moving 1 (lit< tt) refl) [
  | inl claimed ↦ other claimed
  | inr leaving ↦ none_some leaving.0 leaving.1
]
  where
    other : IsClaimedNow one_claim 1 → ⊥
    other claimed =
        let e : 0 ≡ claimed.2.handle = ap (λ (c : OpenWriteState). c.handle)
        (only_claim claimed.0 claimed.1 claimed.2 claimed.3) in
        let on = claimed.4 in omega (arith, e, on)

-- ---- and where a batch leaves: it lies in slot 1 of the span in frame 0
none_claims : (seat at : ℕ) (c : OpenWriteState) → IsClaimAt (idle_seat ∷ []) seat at c → ⊥
none_claims zero at c e = none_some c e
none_claims (suc seat) at c e = none_some c e

abbrev leaving_with : List ℕ → FarState
leaving_with frames = record far {
  leaving = Some (record {
    set = 0;
    pages = 1;
    frames = frames;
    words = [];
    made = true;
    parities = [];
    shards = [];
  });
}

it_leaves : IsLeavingNow (leaving_with (0 ∷ [])) 0
it_leaves = (_, refl, (0, 1, (0, lit< tt, refl), refl))

leaves_unclaimed : AreOpen (words_are moving 0) (leaving_with (0 ∷ [])) (idle_seat ∷ [])
leaves_unclaimed = record {
  each = λ seat at c there. absurd (none_claims seat at c there);
  once = λ seat other at place c d a b same. absurd (none_claims seat at c a);
  apart = λ seat at c there leaving. none_claims seat at c there;
  moving = moves;
}
  where
    moves : (h : ℕ) → h < 2 → state_of (get_or (moving ∷ 0 ∷ []) h 0) ≡ word.Moving
        → IsClaimedNow (idle_seat ∷ []) h ⊎ IsLeavingNow (leaving_with (0 ∷ [])) h
    moves zero below moved = inr it_leaves
    moves (suc zero) below moved = let e : word.Empty ≡ word.Moving = moved in cc
    moves (suc (suc h)) below moved = absurd (omega (arith, below))

-- not while others leave
others_leave : AreOpen (words_are moving 0) (leaving_with []) (idle_seat ∷ []) → ⊥
others_leave a = elim (a.moving 0 (lit< tt) refl) [
  | inl claimed ↦ none_claims claimed.0 claimed.1 claimed.2 claimed.3
  | inr leaving ↦ none leaving
]
  where
    none : IsLeavingNow (leaving_with []) 0 → ⊥
    none leaving =
        let e : 0 ≡ length leaving.0.frames = ap (λ (b : LeavingState). length b.frames)
        (some_same _ leaving.0 leaving.1) in
        let w = leaving.2.2.1 in omega (arith, e, w)

-- ---- a seat that has something of each kind, beside an idle one
abbrev busy : SeatState
busy = record {
  pins = record { handle = 1; version = 5 } ∷ [];
  claims = write ∷ [];
  holds = true;
  order = Some (kept.Encode (record { set = 3; k = 1; r = 1; rows = [] }));
}

its_claims : with_claims (idle_seat ∷ busy ∷ []) 1 [] ≡ idle_seat ∷ record busy { claims = [] } ∷ []
its_claims = refl

its_pins : with_pins (idle_seat ∷ busy ∷ []) 1 [] ≡ idle_seat ∷ record busy { pins = [] } ∷ []
its_pins = refl

its_lock : with_holds (idle_seat ∷ busy ∷ []) 1 false
    ≡ idle_seat ∷ record busy { holds = false } ∷ []
its_lock = refl
