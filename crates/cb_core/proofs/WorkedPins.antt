-- Worked examples of a pin and its end: steps, and steps with one part broken.
use Rattle.std.proofs.Common.{◌≡◌, ◌≢◌, ℕ, zero, suc, ◌+◌, ◌<◌, false, List, [], ◌∷◌, Option, None, Some, length, replicate, get_or, slice_get, refl, ap, sym, lit<, arith}
use Rattle.std.specs.List.{remove}
use Rattle.std.proofs.lemmas.Option.{slice_get_within}
use Rattle.std.proofs.lemmas.List.Edits.{length-remove}
use Rattle.cb_ptr.specs.Word.{state_of, pins_of}
use Rattle.cb_types.specs.declared.config.Config.{Config}
use Rattle.cb_types.specs.declared.reply.Reply.{Reply}
use Rattle.cb_types.specs.declared.reply.Reply.TheVariants as answer
use Rattle.cb_world.specs.declared.seats.SeatPin.{SeatPin}
use Rattle.cb_world.specs.FarState.{FarState}
use Rattle.cb_world.specs.Plain.{Words}
use Rattle.cb_world.specs.Seats.{IsNewestOf, NoneOn, SeatState, pins_of_seat, with_pins}
use Rattle.cb_world.specs.StillWords.{stamp_at}
use Rattle.cb_world.specs.World.{WorldState, word_at}
use Rattle.cb_core.specs.Pinning.{MayPin, pin_refusal, IsPinTaken, PinStep, scope_full, refused, taken, IsPinGiven, UnpinStep, not_pinned, given}

-- words of an object of two bytes at place 0: far, here and cold, moving, here and hot, here with
-- one pin and with as many as a word counts
abbrev pub away : ℕ
away = 16385

abbrev pub calm : ℕ
calm = 16386

abbrev pub moving : ℕ
moving = 16387

abbrev pub hot : ℕ
hot = 16390

abbrev pub pinned : ℕ
pinned = 16398

abbrev pub crowded : ℕ
crowded = 24574

abbrev pub settings : Config
settings =
    record { k = 1; r = 1; nodes = 2; frames = 2; room = 4; handles = 2; turns = 0 }

-- object 0 has this word and this version, and object 1 was never made
abbrev pub desk : ℕ → ℕ → Words
desk word version = record {
  settings = settings;
  words = word ∷ 0 ∷ [];
  versions = version ∷ 0 ∷ [];
  memory = 2826 ∷ [];
}

abbrev pub pin_on : ℕ → ℕ → SeatPin
pin_on h version = record { handle = h; version = version }

abbrev pub seat_with : List SeatPin → SeatState
seat_with pins = record { pins = pins; claims = []; holds = false; order = None }

-- object 0 has this word at version 3, and two seats have these pins
abbrev pub world : FarState → ℕ → List SeatPin → List SeatPin → WorldState
world far word first second = record {
  desk = desk word 3;
  far = far;
  seats = seat_with first ∷ seat_with second ∷ [];
}

-- ---- a pin
pins_it : (far : FarState) → PinStep 0 0 (world far calm [] []) (answer.Version 3)
    (world far pinned (pin_on 0 3 ∷ []) [])
pins_it far = taken (lit< tt) (record { here = refl; room = lit< tt }) refl (record {
  word = record {
    word = pinned;
    takes = record {
      state = refl;
      hot = refl;
      pins = refl;
      len = refl;
      place = refl;
      number = refl;
    };
    words = refl;
  };
  pins = refl;
  far = refl;
})

-- an object that may be pinned, by a seat that has room, is pinned
is_taken : (seat h : ℕ) (w new : WorldState) (r : Reply)
    → length (pins_of_seat w.seats seat) < 16 → MayPin w h → PinStep seat h w r new
    → (r ≡ answer.Version (stamp_at w.desk h)) × IsPinTaken seat h w new
is_taken seat h w new r room may (scope_full full reply same) = absurd (omega (arith, room, full))
is_taken seat h w new r room may (refused less not reply same) = absurd (not may)
is_taken seat h w new r room may (taken less here reply t) = (reply, t)

abbrev calm_taken : (far : FarState) (new : WorldState) (r : Reply)
    → PinStep 0 0 (world far calm [] []) r new
    → (r ≡ answer.Version 3) × IsPinTaken 0 0 (world far calm [] []) new
calm_taken far new r =
    is_taken 0 0 (world far calm [] []) new r (lit< tt) (record { here = refl; room = lit< tt })

abbrev version_of : Reply → ℕ
version_of (answer.Version n) = n
version_of r = 0

pins_at_another_version : (far : FarState) → PinStep 0 0 (world far calm [] []) (answer.Version 4)
    (world far pinned (pin_on 0 3 ∷ []) []) → ⊥
pins_at_another_version far step =
    let e : 4 ≡ 3 = ap version_of (calm_taken far _ _ step).0 in omega (arith, e)

counts_no_pin : (far : FarState) → PinStep 0 0 (world far calm [] []) (answer.Version 3)
    (world far hot (pin_on 0 3 ∷ []) []) → ⊥
counts_no_pin far step = let t = (calm_taken far _ _ step).1.word in
    let e : 16390 ≡ t.word = ap (λ (x : Words). get_or x.words 0 0) t.words in
    let n : t.word + 0 ≡ 16398 = t.takes.number in omega (arith, e, n)

pins_and_stays_cold : (far : FarState) → PinStep 0 0 (world far calm [] []) (answer.Version 3)
    (world far 16394 (pin_on 0 3 ∷ []) []) → ⊥
pins_and_stays_cold far step = let t = (calm_taken far _ _ step).1.word in
    let e : 16394 ≡ t.word = ap (λ (x : Words). get_or x.words 0 0) t.words in
    let n : t.word + 0 ≡ 16398 = t.takes.number in omega (arith, e, n)

another_seat_pins : (far : FarState) → PinStep 0 0 (world far calm [] []) (answer.Version 3)
    (world far pinned [] (pin_on 0 3 ∷ [])) → ⊥
another_seat_pins far step =
    let e : 0 ≡ 1 = ap (λ (s : List SeatState). length (pins_of_seat s 0))
    (calm_taken far _ _ step).1.pins in omega (arith, e)

keeps_another_version : (far : FarState) → PinStep 0 0 (world far calm [] []) (answer.Version 3)
    (world far pinned (pin_on 0 2 ∷ []) []) → ⊥
keeps_another_version far step =
    let e : 2 ≡ 3 = ap (λ (s : List SeatState). (get_or (pins_of_seat s 0) 0 (pin_on 0 0)).version)
    (calm_taken far _ _ step).1.pins in omega (arith, e)

pins_in_front : (far : FarState)
    → PinStep 0 0 (world far calm (pin_on 1 0 ∷ []) []) (answer.Version 3)
    (world far pinned (pin_on 0 3 ∷ pin_on 1 0 ∷ []) []) → ⊥
pins_in_front far step = let w = world far calm (pin_on 1 0 ∷ []) [] in
    let e : 0 ≡ 1 = ap (λ (s : List SeatState). (get_or (pins_of_seat s 0) 0 (pin_on 0 0)).handle)
    (is_taken 0 0 w _ _ (lit< tt) (record { here = refl; room = lit< tt }) step).1.pins in
    omega (arith, e)

pins_and_makes : (far : FarState) → PinStep 0 0 (world far calm [] []) (answer.Version 3)
    (world (record far { made = far.made + 1 }) pinned (pin_on 0 3 ∷ []) []) → ⊥
pins_and_makes far step = let e : far.made + 1 ≡ far.made =
    ap (λ (f : FarState). f.made) (calm_taken far _ _ step).1.far in omega (arith, e)

-- ---- a pin that is refused
abbrev sixteen : List SeatPin
sixteen = replicate 16 (pin_on 1 0)

-- a full scope comes before every other refusal
full_before_unmade : (far : FarState)
    → PinStep 0 1 (world far calm sixteen []) answer.ScopeFull (world far calm sixteen [])
full_before_unmade far = scope_full refl refl refl

full_and_pins : (far : FarState) → PinStep 0 0 (world far calm sixteen []) (answer.Version 3)
    (world far pinned (pin_on 0 3 ∷ sixteen) []) → ⊥
full_and_pins far (scope_full full reply same) = absurd cc
full_and_pins far (refused less not reply same) = absurd (omega (arith, less))
full_and_pins far (taken less here reply t) = absurd (omega (arith, less))

-- the other refusals, by the word, the version and the pins
pin_of_none : pin_refusal (state_of 0) 0 0 ≡ answer.Unmade
pin_of_none = refl

pin_of_a_freed : pin_refusal (state_of 0) 2 0 ≡ answer.Freed
pin_of_a_freed = refl

pin_of_one_away : pin_refusal (state_of away) 3 0 ≡ answer.NotHere
pin_of_one_away = refl

pin_of_one_moving : pin_refusal (state_of moving) 3 0 ≡ answer.Moving
pin_of_one_moving = refl

pin_of_a_crowded : pin_refusal (state_of crowded) 3 (pins_of crowded) ≡ answer.Crowded
pin_of_a_crowded = refl

crowded_is_refused : (far : FarState)
    → PinStep 0 0 (world far crowded [] []) answer.Crowded (world far crowded [] [])
crowded_is_refused far = refused (lit< tt) (λ may. omega (arith, may.room)) refl refl

not_here : (far : FarState) → MayPin (world far away [] []) 0 → ⊥
not_here far may = absurd (let e = may.here in cc)

away_is_refused : (far : FarState)
    → PinStep 0 0 (world far away [] []) answer.NotHere (world far away [] [])
away_is_refused far = refused (lit< tt) (not_here far) refl refl

refused_and_hot : (far : FarState)
    → PinStep 0 0 (world far away [] []) answer.NotHere (world far 16389 [] []) → ⊥
refused_and_hot far (scope_full full reply same) = absurd (omega (arith, full))
refused_and_hot far (refused less not reply same) = absurd (let e : 16389 ≡ 16385 =
    ap (λ (w : WorldState). word_at w.desk 0) same in omega (arith, e))
refused_and_hot far (taken less may reply t) = absurd (not_here far may)

away_and_moving : (far : FarState)
    → PinStep 0 0 (world far away [] []) answer.Moving (world far away [] []) → ⊥
away_and_moving far (scope_full full reply same) = absurd (omega (arith, full))
away_and_moving far (refused less not reply same) = absurd cc
away_and_moving far (taken less may reply t) = absurd (not_here far may)

-- ---- the end of a pin
only_pin : (later : ℕ) (other : SeatPin) → 0 < later → slice_get (pin_on 0 3 ∷ []) later ≡ Some other
    → other.handle ≢ 0
only_pin later other behind at = let n = slice_get_within (pin_on 0 3 ∷ []) later other at in
    absurd (omega (arith, behind, n))

gives_it_back : (far : FarState) → UnpinStep 0 0 (world far pinned (pin_on 0 3 ∷ []) [])
    answer.Done (world far hot [] [])
gives_it_back far = given refl (record {
  at = 0;
  newest = record { pin = pin_on 0 3; there = refl; on = refl; newest = only_pin };
  word = record {
    word = hot;
    gives = record {
      state = refl;
      hot = refl;
      pins = refl;
      len = refl;
      place = refl;
      number = refl;
    };
    words = refl;
  };
  pins = refl;
  far = refl;
})

-- a seat with a pin on the object gives one back
is_given : (seat h : ℕ) (w new : WorldState) (r : Reply) → ¬ (NoneOn (pins_of_seat w.seats seat) h)
    → UnpinStep seat h w r new → (r ≡ answer.Done) × IsPinGiven seat h w new
is_given seat h w new r some (not_pinned none reply same) = absurd (some none)
is_given seat h w new r some (given reply t) = (reply, t)

abbrev pinned_given : (far : FarState) (second : List SeatPin) (new : WorldState) (r : Reply)
    → UnpinStep 0 0 (world far pinned (pin_on 0 3 ∷ []) second) r new
    → (r ≡ answer.Done) × IsPinGiven 0 0 (world far pinned (pin_on 0 3 ∷ []) second) new
pinned_given far second new r =
    is_given 0 0 (world far pinned (pin_on 0 3 ∷ []) second) new r
    (λ none. none 0 (pin_on 0 3) refl refl)

gives_and_counts_it : (far : FarState) → UnpinStep 0 0 (world far pinned (pin_on 0 3 ∷ []) [])
    answer.Done (world far pinned [] []) → ⊥
gives_and_counts_it far step = let t = (pinned_given far [] _ _ step).1.word in
    let e : 16398 ≡ t.word = ap (λ (x : Words). get_or x.words 0 0) t.words in
    let n : t.word + 8 ≡ 16398 = t.gives.number in omega (arith, e, n)

gives_and_cools : (far : FarState) → UnpinStep 0 0 (world far pinned (pin_on 0 3 ∷ []) [])
    answer.Done (world far calm [] []) → ⊥
gives_and_cools far step = let t = (pinned_given far [] _ _ step).1.word in
    let e : 16386 ≡ t.word = ap (λ (x : Words). get_or x.words 0 0) t.words in
    let n : t.word + 8 ≡ 16398 = t.gives.number in omega (arith, e, n)

gives_the_pin_of_another_seat : (far : FarState)
    → UnpinStep 0 0 (world far pinned (pin_on 0 3 ∷ []) (pin_on 0 3 ∷ [])) answer.Done
    (world far hot (pin_on 0 3 ∷ []) []) → ⊥
gives_the_pin_of_another_seat far step =
    let t = (pinned_given far (pin_on 0 3 ∷ []) _ _ step).1 in
    let e : 1 ≡ 0 = ap (λ (s : List SeatState). length (pins_of_seat s 1)) (sym t.pins) in
    omega (arith, e)

gives_and_keeps_it : (far : FarState) → UnpinStep 0 0 (world far pinned (pin_on 0 3 ∷ []) [])
    answer.Done (world far hot (pin_on 0 3 ∷ []) []) → ⊥
gives_and_keeps_it far step = let t = (pinned_given far [] _ _ step).1 in
    let within = slice_get_within (pin_on 0 3 ∷ []) t.at t.newest.pin t.newest.there in
    let less = length-remove (pin_on 0 3 ∷ []) t.at within in
    let e : 1 ≡ length (remove (pin_on 0 3 ∷ []) t.at) =
    ap (λ (s : List SeatState). length (pins_of_seat s 0)) t.pins in omega (arith, e, less)

-- the newest pin goes, not an older one
gives_the_older_one : (far : FarState)
    → UnpinStep 0 0 (world far pinned (pin_on 0 2 ∷ pin_on 0 3 ∷ []) []) answer.Done
    (world far hot (pin_on 0 3 ∷ []) []) → ⊥
gives_the_older_one far step = older t.at t.newest t.pins
  where
    both : List SeatPin
    both = pin_on 0 2 ∷ pin_on 0 3 ∷ []

    w : WorldState
    w = world far pinned both []

    t : IsPinGiven 0 0 w (world far hot (pin_on 0 3 ∷ []) [])
    t = (is_given 0 0 w _ _ (λ none. none 0 (pin_on 0 2) refl refl) step).1

    older : (at : ℕ) → IsNewestOf both 0 at
        → (seat_with (pin_on 0 3 ∷ []) ∷ seat_with [] ∷ []) ≡ with_pins w.seats 0 (remove both at) → ⊥
    older zero n e = n.newest 1 (pin_on 0 3) (lit< tt) refl refl
    older (suc zero) n e = let z : 3 ≡ 2 =
        ap (λ (s : List SeatState). (get_or (pins_of_seat s 0) 0 (pin_on 0 0)).version) e in
        omega (arith, z)
    older (suc (suc at)) n e =
        let z = slice_get_within both (suc (suc at)) n.pin n.there in omega (arith, z)

gives_and_makes : (far : FarState) → UnpinStep 0 0 (world far pinned (pin_on 0 3 ∷ []) [])
    answer.Done (world (record far { made = far.made + 1 }) hot [] []) → ⊥
gives_and_makes far step = let e : far.made + 1 ≡ far.made =
    ap (λ (f : FarState). f.made) (pinned_given far [] _ _ step).1.far in omega (arith, e)

pinned_but_refused : (far : FarState) → UnpinStep 0 0 (world far pinned (pin_on 0 3 ∷ []) [])
    answer.NotPinned (world far pinned (pin_on 0 3 ∷ []) []) → ⊥
pinned_but_refused far step = let e = (pinned_given far [] _ _ step).0 in absurd cc

-- a pin on another object is none on this one
other_pin : NoneOn (pin_on 1 0 ∷ []) 0
other_pin zero pin at on = let e : 1 ≡ pin.handle =
    ap (λ (o : Option SeatPin). handle_or_0 o) at in omega (arith, e, on)
  where
    handle_or_0 : Option SeatPin → ℕ
    handle_or_0 (Some p) = p.handle
    handle_or_0 None = 0
other_pin (suc i) pin at on =
    let n = slice_get_within (pin_on 1 0 ∷ []) (suc i) pin at in omega (arith, n)

not_pinned_by_it : (far : FarState)
    → UnpinStep 0 0 (world far pinned (pin_on 1 0 ∷ []) (pin_on 0 3 ∷ [])) answer.NotPinned
    (world far pinned (pin_on 1 0 ∷ []) (pin_on 0 3 ∷ []))
not_pinned_by_it far = not_pinned other_pin refl refl

refused_and_gives : (far : FarState)
    → UnpinStep 0 0 (world far pinned (pin_on 1 0 ∷ []) (pin_on 0 3 ∷ [])) answer.NotPinned
    (world far hot (pin_on 1 0 ∷ []) []) → ⊥
refused_and_gives far (not_pinned none reply same) = let e : 16390 ≡ 16398 =
    ap (λ (w : WorldState). word_at w.desk 0) same in omega (arith, e)
refused_and_gives far (given reply t) = absurd cc
