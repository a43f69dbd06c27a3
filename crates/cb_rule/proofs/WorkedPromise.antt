-- Worked words and views: what meets the rule and its promise, and what breaks one part alone.
use Rattle.std.proofs.Common.{◌≡◌, ℕ, ◌+◌, ◌<◌, List, [], ◌∷◌, replicate, sym, refl, ap, inl}
use Rattle.std.proofs.Common.{true≢false, arith}
use Rattle.cb_ptr.specs.Word.{state_number}
use Rattle.cb_world.specs.declared.object.Object.{Object}
use Rattle.cb_world.specs.declared.object.Object.TheVariants as is
use Rattle.cb_world.specs.declared.shown.Shown.{Shown}
use Rattle.cb_world.specs.Shown.{never}
use Rattle.cb_rule.specs.declared.view.View.{View}
use Rattle.cb_rule.specs.History.{Value}
use Rattle.cb_rule.specs.Locking.{Locked}
use Rattle.cb_rule.specs.Promised.{ClaimsStand, PinsStand, WordsStand}
use Rattle.cb_rule.specs.Records.{PinOk}
use Rattle.cb_rule.specs.Steps.{blank, opener, stand}
use Rattle.cb_rule.proofs.Opening.{opens, same_each}
use Rattle.cb_rule.proofs.Promising.{promises}
use Rattle.cb_rule.proofs.WorkedHistory.{some_entries}
use Rattle.cb_rule.proofs.WorkedLocking.{accepted, quiet}
use Rattle.cb_rule.proofs.WorkedViews.{pair_of}

-- ---- at the start, where every word is 0, the words stand
at_start : WordsStand 3 pair_of (replicate 517 0) (opener pair_of ∷ [])
at_start = promises (Locked quiet) 3 pair_of _
    (opens 3 (omega arith) pair_of (replicate 517 0) refl (same_each 517 0) quiet accepted)

-- a share was lost, or a view has as its own what it did not make
a_share_lost : WordsStand 3 pair_of (replicate 517 0) (record (opener pair_of) { share = 63 } ∷ [])
    → ⊥
a_share_lost w = let e : 63 + 0 ≡ 64 = w.shares.whole in omega (arith, e)

own_unmade : WordsStand 3 pair_of (replicate 517 0)
    (record (opener pair_of) { own = 1 ∷ [] } ∷ []) → ⊥
own_unmade w = let e : 0 < 0 = w.own.made 0 _ refl 1 (inl refl) in omega (arith, e)

-- ---- a pin on object 1, which lies at place 0 and was written
abbrev pub lying : Shown
lying = record {
  first = 3;
  objects = never ∷ is.Here 8 0 ∷ [];
  hots = [];
  versions = [];
  memory = [];
}

pub pin_ok : PinOk pair_of lying some_entries (stand 1 8 0 4 (9 ∷ []))
pin_ok = record { below = omega arith; there = refl; number = refl; contents = refl }

no_such_object : PinOk pair_of lying some_entries (stand 2 8 0 0 []) → ⊥
no_such_object p = let e = p.below in omega (arith, e)

abbrev place_of_here : Object → ℕ
place_of_here (is.Empty v) = 0
place_of_here (is.Far len v words) = 0
place_of_here (is.Here len place) = place
place_of_here (is.Claimed len place v words) = place

at_another_place : PinOk pair_of lying some_entries (stand 1 8 3 4 (9 ∷ [])) → ⊥
at_another_place p = let e : 0 ≡ 3 = ap place_of_here p.there in omega (arith, e)

of_an_old_version : PinOk pair_of lying some_entries (stand 1 8 0 3 (9 ∷ [])) → ⊥
of_an_old_version p = let e = p.number in omega (arith, e)

abbrev first_word_of : List ℕ → ℕ
first_word_of [] = 0
first_word_of (x ∷ xs) = x

with_old_words : PinOk pair_of lying some_entries (stand 1 8 0 4 (7 ∷ [])) → ⊥
with_old_words p =
    let e : 9 ≡ 7 = ap (λ (v : Value). first_word_of v.words) p.contents in omega (arith, e)

-- ---- the pointer word of object 0 of 8 bytes at place 0: Here with a pin and hot, the same not
-- hot, and Moving with a pin
abbrev one_pin : View
one_pin = record (blank pair_of) { pins = stand 0 8 0 3 [] ∷ [] }

pins_stand_well : PinsStand (0 ∷ 65550 ∷ []) (one_pin ∷ []) 0
pins_stand_well = record { counted = refl; here = λ _. refl; warm = λ _. refl }

a_pin_of_no_one : PinsStand (0 ∷ 65550 ∷ []) (blank pair_of ∷ []) 0 → ⊥
a_pin_of_no_one p = let e : 1 ≡ 0 = p.counted in omega (arith, e)

pinned_and_moving : PinsStand (0 ∷ 65551 ∷ []) (one_pin ∷ []) 0 → ⊥
pinned_and_moving p =
    let e : 3 ≡ 2 = ap state_number (p.here (omega arith)) in omega (arith, e)

pinned_and_cold : PinsStand (0 ∷ 65546 ∷ []) (one_pin ∷ []) 0 → ⊥
pinned_and_cold p = true≢false (sym (p.warm (omega arith)))

-- ---- a claim of object 0, whose word is Moving, and Here
abbrev pub one_claim : View
one_claim = record (blank pair_of) {
  claims = record {
    handle = 0;
    len = 8;
    place = 0;
    word = 65538;
    version = 3;
    old = 5 ∷ [];
    stamp = 3;
    memory = 5 ∷ [];
  } ∷ [];
}

claims_stand_well : ClaimsStand (0 ∷ 65539 ∷ []) (one_claim ∷ blank pair_of ∷ []) 0
claims_stand_well = record { lone = omega arith; moving = λ _. refl }

claimed_twice : ClaimsStand (0 ∷ 65539 ∷ []) (one_claim ∷ one_claim ∷ []) 0 → ⊥
claimed_twice k = let e = k.lone in omega (arith, e)

claimed_and_here : ClaimsStand (0 ∷ 65538 ∷ []) (one_claim ∷ []) 0 → ⊥
claimed_and_here k =
    let e : 2 ≡ 3 = ap state_number (k.moving (omega arith)) in omega (arith, e)
