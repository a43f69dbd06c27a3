-- The world is sound after a store of a memory word of an open write.
use Rattle.std.proofs.Common.{◌≡◌, ◌≢◌, ℕ, ◌+◌, ◌*◌, ◌/◌, ◌<◌, length, get_or, set, sym, refl, ◌∙◌, subst, arith}
use Rattle.cb_world.specs.OpenWrites.{IsOpen, touched, stores_left, stamp_of}
use Rattle.cb_world.specs.Plain.{Words}
use Rattle.cb_world.specs.Seats.{OpenWriteState, IsClaimAt, claims_of_seat, with_claims}
use Rattle.cb_world.specs.StillWords.{contents_at}
use Rattle.cb_world.specs.World.{WorldState, IsSoundWorld}
use Rattle.cb_world.specs.Write.{IsWriteBelow}
use Rattle.cb_world.proofs.Laws.{pinned_still}
use Rattle.cb_mutate.specs.Merged.{IsWordMerged}
use Rattle.cb_core.proofs.OpenChanges.{goes_on}
use Rattle.cb_core.proofs.OpenSteps.{claims_hold, claims_keep, claims_pinned, not_zero}
use Rattle.cb_core.proofs.OpenStores.{desk, i, p, t, stored_known, stored_orders, stored_contents, others_stay}

module _ (w : WorldState) (seat place m : ℕ) (c : OpenWriteState) (sound : IsSoundWorld w)
    (lt : seat < 64) (there : IsClaimAt w.seats seat place c)
    (less : c.stored < touched c.at (length c.bytes))
    (merged : IsWordMerged (get_or w.desk.memory (p w seat place m c sound there less) 0)
    (8 * i w seat place m c sound there less) c.at c.bytes m) where
  abbrev pub y : Words
  y = desk w seat place m c sound there less

  abbrev pub next : OpenWriteState
  next = record c { stored = c.stored + 1 }

  o : IsOpen w.desk c
  o = sound.ongoing.each seat place c there

  not_last : stamp_of c ≡ c.version
  not_last = not_zero (stores_left c) (c.version + 1) c.version (omega (arith, less))

  nor_now : stamp_of next ≡ c.version
  nor_now = not_zero (stores_left next) (c.version + 1) c.version (omega (arith, less))

  mine : IsOpen y next
  mine = record {
    below = o.below;
    moving = o.moving;
    no_pins = o.no_pins;
    len = o.len;
    inside = o.inside;
    next = o.next;
    few = omega (arith, less);
    stamp = o.stamp ∙ not_last ∙ sym nor_now;
    contents = subst (λ n. IsWriteBelow (8 * n) c.words c.at c.bytes (contents_at y c.handle))
        (let e : c.at / 8 + c.stored + 1 ≡ c.at / 8 + (c.stored + 1) = omega arith in e)
        (stored_contents w seat place m c sound there less merged);
    packed = o.packed;
  }

  others : (other at : ℕ) (d : OpenWriteState) → IsClaimAt w.seats other at d → d.handle ≢ c.handle
      → IsOpen y d
  others other at d is off = let q = sound.ongoing.each other at d is in record {
    below = q.below;
    moving = q.moving;
    no_pins = q.no_pins;
    len = q.len;
    inside = q.inside;
    next = q.next;
    few = q.few;
    stamp = q.stamp;
    contents = subst (IsWriteBelow (8 * (d.at / 8 + d.stored)) d.words d.at d.bytes)
        (sym (others_stay w seat place m c sound there less other at d is off)) q.contents;
    packed = q.packed;
  }

  in_range : seat < length w.seats
  in_range = let n = sound.pinned.count in omega (arith, n, lt)

  pub stored_sound : IsSoundWorld (record {
    desk = y;
    far = w.far;
    seats = with_claims w.seats seat (set (claims_of_seat w.seats seat) place next);
  })
  stored_sound = record {
    config = sound.config;
    configured = sound.configured;
    shown = t w seat place m c sound there less;
    known = stored_known w seat place m c sound there less;
    pinned = claims_pinned y w.seats seat (set (claims_of_seat w.seats seat) place next) in_range
        (pinned_still w.desk y w.seats sound.pinned refl (λ k below some. (refl, refl))
        (λ k below none. none));
    ongoing = goes_on w.desk y w.far w.seats seat place c sound.ongoing in_range there others next refl
        mine refl;
    one = claims_hold w.seats seat (set (claims_of_seat w.seats seat) place next) sound.one;
    orders = claims_keep sound.shown (t w seat place m c sound there less) w.far w.seats seat
        (set (claims_of_seat w.seats seat) place next)
        (stored_orders w seat place m c sound there less) sound.orders;
    counted = sound.counted;
  }
