-- The world is sound once the version word of an open write is stored.
use Rattle.std.proofs.Common.{◌≡◌, ◌≢◌, ◌⊎◌, ℕ, Bool, zero, suc, eq-eqb, ◌+◌, ◌*◌, ◌/◌, ◌<◌, ◌≤◌, List, length, get_or, set, sym, refl, ap, ◌∙◌, subst, arith, inl, inr, length-set, get_or-set_other, get_or-set_same}
use Rattle.std.specs.Prelude.{nat_eq, if◌then◌else◌}
use Rattle.cb_ptr.specs.Word.{len_of, place_of, pins_of}
use Rattle.cb_world.specs.declared.object.Object.TheVariants as is
use Rattle.cb_world.specs.declared.shown.Shown.{Shown}
use Rattle.cb_world.specs.OpenWrites.{IsOpen, touched, stores_left}
use Rattle.cb_world.specs.Plain.{Words}
use Rattle.cb_world.specs.Seats.{OpenWriteState, IsClaimAt, claims_of_seat, with_claims}
use Rattle.cb_world.specs.Shown.{object_at}
use Rattle.cb_world.specs.StillWords.{contents_at}
use Rattle.cb_world.specs.World.{WorldState, IsKnown, IsSoundWorld, word_at}
use Rattle.cb_world.specs.Write.{IsWriteBelow}
use Rattle.cb_world.proofs.Laws.{open_here, pinned_still, same_memory, same_orders, sound_beside}
use Rattle.cb_core.proofs.OpenChanges.{goes_on}
use Rattle.cb_core.proofs.OpenSteps.{claims_hold, claims_keep, claims_pinned, not_zero}

pub is_zero : (n a b : ℕ) → n ≡ 0 → (if nat_eq n 0 then a else b) ≡ a
is_zero n a b e = ap (λ (c : Bool). if c then a else b) (eq-eqb n 0 e)

-- each byte of a write lies in a word that it touches
pub lies_in : (at n i : ℕ) → i < n → at + i < 8 * (at / 8 + touched at n)
lies_in at zero i less = absurd (omega (arith, less))
lies_in at (suc n) i less = omega (arith, less)

-- a write of which all is done as far as a byte is done as far as a later one
done_past : (n m : ℕ) (old : List ℕ) (at : ℕ) (bytes new : List ℕ) → n ≤ m
    → ((i : ℕ) → i < length bytes → at + i < n) → IsWriteBelow n old at bytes new
    → IsWriteBelow m old at bytes new
done_past n m old at bytes new more all w = record {
  sized = w.sized;
  inside = λ i below e. w.inside i below (all i below);
  outside = λ p below e. w.outside p below (side p e);
}
  where
    side : (p : ℕ) → (m ≤ p) ⊎ ((p < at) ⊎ (at + length bytes ≤ p))
        → (n ≤ p) ⊎ ((p < at) ⊎ (at + length bytes ≤ p))
    side p (inl past) = inl (omega (arith, past, more))
    side p (inr e) = inr e

module _ (w : WorldState) (seat place : ℕ) (c : OpenWriteState) (sound : IsSoundWorld w) (lt : seat < 64)
    (there : IsClaimAt w.seats seat place c) (last : stores_left c ≡ 1) where
  abbrev pub h : ℕ
  h = c.handle

  abbrev pub next : OpenWriteState
  next = record c { stored = c.stored + 1 }

  abbrev pub y : Words
  y = record w.desk { versions = set w.desk.versions h (c.version + 1) }

  abbrev pub t : Shown
  t = record sound.shown { versions = set sound.shown.versions h (c.version + 1) }

  o : IsOpen w.desk c
  o = sound.ongoing.each seat place c there

  ranged : h < length w.desk.versions
  ranged = let a = o.below in let b = sound.known.sized.words in let d = sound.known.sized.versions in
      omega (arith, a, b, d)

  here : object_at sound.shown h ≡ is.Here (len_of (word_at w.desk h)) (place_of (word_at w.desk h))
  here = open_here w.desk w.far sound.shown w.seats seat place c sound.known sound.ongoing there

  -- the version rises by one
  rises : get_or sound.shown.versions h 0 ≤ get_or t.versions h 0
  rises =
      let same = ap (λ (l : List ℕ). length l) sound.known.shows.versions in
      let now = get_or-set_same sound.shown.versions h (c.version + 1) 0 (omega (arith, ranged, same)) in
      let was : get_or sound.shown.versions h 0 ≡ c.version =
      ap (λ (l : List ℕ). get_or l h 0) sound.known.shows.versions ∙ o.stamp
      ∙ not_zero (stores_left c) (c.version + 1) c.version (omega (arith, last)) in
      omega (arith, now, was)

  stamped_known : IsKnown y w.far t
  stamped_known = record {
    sized = record {
      words = sound.known.sized.words;
      versions = length-set w.desk.versions h (c.version + 1) ∙ sound.known.sized.versions;
      memory = sound.known.sized.memory;
    };
    shows = record {
      objects = sound.known.shows.objects;
      versions = ap (λ l. set l h (c.version + 1)) sound.known.shows.versions;
      hots = sound.known.shows.hots;
      hot = sound.known.shows.hot;
      memory = sound.known.shows.memory;
      fit = sound.known.shows.fit;
    };
    hots = sound.known.hots;
    sound = sound_beside w.far sound.shown t h (len_of (word_at w.desk h)) (place_of (word_at w.desk h))
        sound.known.sound here refl refl refl
        (λ k off. get_or-set_other sound.shown.versions h k (c.version + 1) 0 off) rises
        (λ q side. refl);
    packed = λ k below. same_memory sound.shown t (word_at w.desk k) (object_at sound.shown k) refl
        (sound.known.packed k below);
    freed = sound.known.freed;
  }

  mine : IsOpen y next
  mine = record {
    below = o.below;
    moving = o.moving;
    no_pins = o.no_pins;
    len = o.len;
    inside = o.inside;
    next = o.next;
    few = omega (arith, last);
    stamp = get_or-set_same w.desk.versions h (c.version + 1) 0 ranged
        ∙ sym (is_zero (stores_left next) (c.version + 1) c.version (omega (arith, last)));
    contents = done_past (8 * (c.at / 8 + c.stored)) (8 * (c.at / 8 + (c.stored + 1))) c.words c.at c.bytes
        (contents_at w.desk h) (omega arith)
        (λ i below. let z = lies_in c.at (length c.bytes) i below in
        let all : c.stored ≡ touched c.at (length c.bytes) = omega (arith, last) in omega (arith, z, all))
        o.contents;
    packed = o.packed;
  }

  others : (other at : ℕ) (d : OpenWriteState) → IsClaimAt w.seats other at d → d.handle ≢ h → IsOpen y d
  others other at d is off = let q = sound.ongoing.each other at d is in record {
    below = q.below;
    moving = q.moving;
    no_pins = q.no_pins;
    len = q.len;
    inside = q.inside;
    next = q.next;
    few = q.few;
    stamp = get_or-set_other w.desk.versions h d.handle (c.version + 1) 0 off ∙ q.stamp;
    contents = q.contents;
    packed = q.packed;
  }

  in_range : seat < length w.seats
  in_range = let n = sound.pinned.count in omega (arith, n, lt)

  free : (k : ℕ) → 1 ≤ pins_of (word_at w.desk k) → k ≢ h
  free k some e = let n = subst (λ i. 1 ≤ pins_of (word_at w.desk i)) e some in let z = o.no_pins in
      omega (arith, n, z)

  pub stamped_sound : IsSoundWorld (record {
    desk = y;
    far = w.far;
    seats = with_claims w.seats seat (set (claims_of_seat w.seats seat) place next);
  })
  stamped_sound = record {
    config = sound.config;
    configured = sound.configured;
    shown = t;
    known = stamped_known;
    pinned = claims_pinned y w.seats seat (set (claims_of_seat w.seats seat) place next) in_range
        (pinned_still w.desk y w.seats sound.pinned refl
        (λ k below some. (refl, get_or-set_other w.desk.versions h k (c.version + 1) 0 (free k some)))
        (λ k below none. none));
    ongoing = goes_on w.desk y w.far w.seats seat place c sound.ongoing in_range there others next refl
        mine refl;
    one = claims_hold w.seats seat (set (claims_of_seat w.seats seat) place next) sound.one;
    orders = claims_keep sound.shown t w.far w.seats seat
        (set (claims_of_seat w.seats seat) place next) (same_orders sound.shown t w.far refl)
        sound.orders;
    counted = sound.counted;
  }
