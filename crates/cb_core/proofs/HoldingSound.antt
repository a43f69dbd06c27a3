-- Taking and giving the far lock leave the world sound.
use Rattle.std.proofs.Common.{◌≡◌, ◌≢◌, ◌⊎◌, ℕ, Bool, true, false, ◌<◌, List, length, slice_get, refl, sym, ap, ◌∙◌, subst, arith, inl, inr, get_or-set_other, get_or-set_same}
use native.Mathlib.Decide.{ℕ_discrete}
use Rattle.cb_types.specs.declared.reply.Reply.{Reply}
use Rattle.cb_world.specs.FarState.{FarState}
use Rattle.cb_world.specs.OpenWrites.{IsClaimedNow, IsLeavingNow, AreOpen}
use Rattle.cb_world.specs.Plain.{Words}
use Rattle.cb_world.specs.Seats.{SeatState, OpenWriteState, AtMostOneHolds, Holds, IsClaimAt, idle_seat, seat_at, claims_of_seat, with_holds}
use Rattle.cb_world.specs.World.{WorldState, IsSoundWorld}
use Rattle.cb_world.proofs.Laws.{orders_kept, seat_beside}
use Rattle.cb_core.specs.Holding.{TakeStep, held, taken, GiveStep, not_held, given}
use Rattle.cb_core.proofs.OpenSteps.{kept_pinned}

-- seats with the same open writes
pub open_seats : (desk : Words) (far : FarState) (seats next : List SeatState)
    → ((seat : ℕ) → claims_of_seat next seat ≡ claims_of_seat seats seat) → AreOpen desk far seats
    → AreOpen desk far next
open_seats desk far seats next same ongoing = record {
  each = λ seat at c there. ongoing.each seat at c (back seat at c there);
  once = λ seat other at place c d a b e.
      ongoing.once seat other at place c d (back seat at c a) (back other place d b) e;
  apart = λ seat at c there leaving. ongoing.apart seat at c (back seat at c there) leaving;
  moving = λ h below moved. by h (ongoing.moving h below moved);
}
  where
    back : (seat at : ℕ) (c : OpenWriteState) → IsClaimAt next seat at c → IsClaimAt seats seat at c
    back seat at c there = ap (λ l. slice_get l at) (sym (same seat)) ∙ there

    by : (h : ℕ) → IsClaimedNow seats h ⊎ IsLeavingNow far h → IsClaimedNow next h ⊎ IsLeavingNow far h
    by h (inl (seat, at, c, there, on)) =
        inl (seat, at, c, ap (λ l. slice_get l at) (same seat) ∙ there, on)
    by h (inr leaving) = inr leaving

-- a world whose seats differ in who holds the lock
module _ (w : WorldState) (seat : ℕ) (holds : Bool) (sound : IsSoundWorld w) (within : seat < 64) where
  abbrev pub new : SeatState
  new = record (seat_at w.seats seat) { holds = holds }

  abbrev pub next : List SeatState
  next = with_holds w.seats seat holds

  in_range : seat < length w.seats
  in_range = let n = sound.pinned.count in omega (arith, n, within)

  pub holds_then : (k : ℕ) → k ≢ seat → (seat_at next k).holds ≡ (seat_at w.seats k).holds
  holds_then k off = ap (λ (x : SeatState). x.holds) (get_or-set_other w.seats seat k new idle_seat off)

  pub holds_now : (seat_at next seat).holds ≡ holds
  holds_now = ap (λ (x : SeatState). x.holds) (get_or-set_same w.seats seat new idle_seat in_range)

  pub held_sound : AtMostOneHolds next → IsSoundWorld (record w { seats = next })
  held_sound one = record {
    config = sound.config;
    configured = sound.configured;
    shown = sound.shown;
    known = sound.known;
    pinned = kept_pinned w.desk w.seats seat new refl in_range sound.pinned;
    ongoing = open_seats w.desk w.far w.seats next
        (seat_beside (λ (x : SeatState). x.claims) w.seats seat new refl) sound.ongoing;
    one = one;
    orders = orders_kept sound.shown w.far w.seats next
        (seat_beside (λ (x : SeatState). x.order) w.seats seat new refl) sound.orders;
    counted = sound.counted;
  }

pub take_step_sound : (w new : WorldState) (seat : ℕ) (r : Reply) → IsSoundWorld w → seat < 64
    → TakeStep seat w r new → IsSoundWorld new
take_step_sound w new seat r sound within (held holder holds reply same) =
    subst IsSoundWorld (sym same) sound
take_step_sound w new seat r sound within (taken none reply same) =
    subst IsSoundWorld (sym same) (held_sound w seat true sound within
    (λ a b first second. mine a first ∙ sym (mine b second)))
  where
    mine : (k : ℕ) → Holds (with_holds w.seats seat true) k → k ≡ seat
    mine k holds = elim (ℕ_discrete k seat) [
      | yes e ↦ e
      | no off ↦ absurd (let e = sym (none k) ∙ sym (holds_then w seat true sound within k off) ∙ holds in
          cc)
    ]

pub give_step_sound : (w new : WorldState) (seat : ℕ) (r : Reply) → IsSoundWorld w → seat < 64
    → GiveStep seat w r new → IsSoundWorld new
give_step_sound w new seat r sound within (not_held none reply same) =
    subst IsSoundWorld (sym same) sound
give_step_sound w new seat r sound within (given holds reply same) =
    subst IsSoundWorld (sym same) (held_sound w seat false sound within
    (λ a b first second. sound.one a b (before a first) (before b second)))
  where
    before : (k : ℕ) → Holds (with_holds w.seats seat false) k → Holds w.seats k
    before k now = elim (ℕ_discrete k seat) [
      | yes e ↦ absurd (let f = sym (holds_now w seat false sound within)
          ∙ ap (λ i. (seat_at (with_holds w.seats seat false) i).holds) (sym e) ∙ now in cc)
      | no off ↦ sym (holds_then w seat false sound within k off) ∙ now
    ]
