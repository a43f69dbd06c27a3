-- The world is sound once an open write is settled.
use Rattle.std.proofs.Common.{◌≡◌, ◌≢◌, ℕ, ◌+◌, ◌*◌, ◌/◌, ◌<◌, ◌≤◌, true, List, length, sym, refl, ap, ◌∙◌, subst, arith, inl, length-set, get_or-set_other, get_or-set_same}
use Rattle.std.specs.List.{remove}
use native.Mathlib.Decide.{ℕ_discrete}
use Rattle.cb_ptr.specs.Steps.{Settles}
use Rattle.cb_ptr.specs.Word.{state_of, len_of, place_of, pins_of}
use Rattle.cb_world.specs.declared.object.Object.{Object}
use Rattle.cb_world.specs.Memory.{IsPacked, window, words_for}
use Rattle.cb_world.specs.OpenWrites.{IsOpen}
use Rattle.cb_world.specs.Pinned.{with_word}
use Rattle.cb_world.specs.Packed.{IsPackedAs}
use Rattle.cb_world.specs.Plain.{Words, contents_at}
use Rattle.cb_world.specs.Seats.{OpenWriteState, IsClaimAt, claims_of_seat, with_claims}
use Rattle.cb_world.specs.Shown.{Fits, object_at}
use Rattle.cb_world.specs.World.{WorldState, IsSoundWorld, word_at}
use Rattle.cb_world.specs.Write.{IsWriteBelow}
use Rattle.cb_world.proofs.Laws.{below_packed, known_word, open_here, pinned_still, same_orders}
use Rattle.cb_core.proofs.OpenChanges.{is_settled}
use Rattle.cb_core.proofs.OpenSteps.{claims_hold, claims_keep, claims_pinned}

module _ (w : WorldState) (seat place v : ℕ) (c : OpenWriteState) (sound : IsSoundWorld w)
    (lt : seat < 64) (there : IsClaimAt w.seats seat place c)
    (settles : Settles (word_at w.desk c.handle) (place_of (word_at w.desk c.handle)) true v) where
  abbrev pub h : ℕ
  h = c.handle

  abbrev pub old : ℕ
  old = word_at w.desk h

  abbrev pub y : Words
  y = with_word w.desk h v

  o : IsOpen w.desk c
  o = sound.ongoing.each seat place c there

  fits : Fits (object_at sound.shown h) v
  fits = subst (λ (x : Object). Fits x v)
      (sym (open_here w.desk w.far sound.shown w.seats seat place c sound.known sound.ongoing there))
      (settles.below, settles.len, settles.place, inl settles.state)

  -- the bytes past its length are as they were at the claim
  packs : IsPackedAs sound.shown v (object_at sound.shown h)
  packs = subst (IsPackedAs sound.shown v)
      (sym (open_here w.desk w.far sound.shown w.seats seat place c sound.known sound.ongoing there))
      (λ here. subst (λ (ms : List ℕ). IsPacked (len_of old) (window ms (place_of old)
      (words_for (len_of old)))) (sym sound.known.shows.memory)
      (subst (λ (n : ℕ). IsPacked n (contents_at w.desk h)) (sym o.len)
      (below_packed (8 * (c.at / 8 + c.stored)) c.len c.at c.words c.bytes (contents_at w.desk h)
      o.packed o.contents o.inside)))

  other : (k : ℕ) → k ≢ h → word_at y k ≡ word_at w.desk k
  other k off = get_or-set_other w.desk.words h k v 0 off

  mine : word_at y h ≡ v
  mine = get_or-set_same w.desk.words h v 0 o.below

  others : (seats at : ℕ) (d : OpenWriteState) → IsClaimAt w.seats seats at d → d.handle ≢ h → IsOpen y d
  others seats at d is off = let q = sound.ongoing.each seats at d is in let z = other d.handle off in record {
    below = let l = length-set w.desk.words h v in let b = q.below in omega (arith, l, b);
    moving = ap state_of z ∙ q.moving;
    no_pins = ap pins_of z ∙ q.no_pins;
    len = ap len_of z ∙ q.len;
    inside = q.inside;
    next = q.next;
    few = q.few;
    stamp = q.stamp;
    contents = subst (λ n. IsWriteBelow (8 * (d.at / 8 + d.stored)) d.words d.at d.bytes
        (window w.desk.memory (place_of n) (words_for (len_of n)))) (sym z) q.contents;
    packed = q.packed;
  }

  in_range : seat < length w.seats
  in_range = let n = sound.pinned.count in omega (arith, n, lt)

  free : (k : ℕ) → 1 ≤ pins_of (word_at w.desk k) → k ≢ h
  free k some e = let n = subst (λ i. 1 ≤ pins_of (word_at w.desk i)) e some in let z = o.no_pins in
      omega (arith, n, z)

  still : (k : ℕ) → pins_of (word_at w.desk k) ≡ 0 → Dec (k ≡ h) → pins_of (word_at y k) ≡ 0
  still k none (yes e) = ap (λ i. pins_of (word_at y i)) e ∙ ap pins_of mine ∙ settles.pins ∙ o.no_pins
  still k none (no off) = ap pins_of (other k off) ∙ none

  pub settled_sound : IsSoundWorld (record {
    desk = y;
    far = w.far;
    seats = with_claims w.seats seat (remove (claims_of_seat w.seats seat) place);
  })
  settled_sound = record {
    config = sound.config;
    configured = sound.configured;
    shown = _;
    known = known_word w.desk w.far sound.shown h v sound.known o.below fits packs;
    pinned = claims_pinned y w.seats seat (remove (claims_of_seat w.seats seat) place) in_range
        (pinned_still w.desk y w.seats sound.pinned (length-set w.desk.words h v)
        (λ k below some. (other k (free k some), refl))
        (λ k below none. still k none (ℕ_discrete k h)));
    ongoing = is_settled w.desk y w.far w.seats seat place c sound.ongoing in_range there others v
        settles.state o.below refl;
    one = claims_hold w.seats seat (remove (claims_of_seat w.seats seat) place) sound.one;
    orders = claims_keep sound.shown _ w.far w.seats seat (remove (claims_of_seat w.seats seat) place)
        (same_orders sound.shown _ w.far refl) sound.orders;
    counted = sound.counted;
  }
