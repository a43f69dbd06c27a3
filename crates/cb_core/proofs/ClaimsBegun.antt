-- Each open write was begun by the newest of its seat's claims on the object, after every event.
use Rattle.std.proofs.Common.{◌≡◌, ◌≢◌, ℕ, Bool, true, false, ◌<◌, ◌&&◌, List, ◌∷◌, Some, length, set, refl, sym, ap, ◌∙◌, subst, arith, inl, inr, eq-eqb, ne_eqb}
use Rattle.std.specs.Prelude.{nat_eq, slice_get, if◌then◌else◌}
use Rattle.std.specs.List.{remove}
use native.Mathlib.Decide.{ℕ_discrete}
use Rattle.cb_types.specs.declared.handle.Handle.{Handle}
use Rattle.cb_types.specs.declared.reply.Reply.{Reply}
use Rattle.cb_types.specs.declared.reply.Reply.TheVariants as answer
use Rattle.cb_world.specs.OpenSteps.{stored_once}
use Rattle.cb_world.specs.Seats.{SeatState, OpenWriteState, IsClaimAt, claims_of_seat, with_claims}
use Rattle.cb_world.specs.World.{WorldState, IsSoundWorld}
use Rattle.cb_world.proofs.Laws.{seat_beside}
use Rattle.cb_core.specs.Called.{AreBegun, ClaimCall, claim_by, claims_after}
use Rattle.cb_core.specs.Claiming.{ClaimStep, refused, taken, MayClaim, IsClaimTaken, StoreStep, not_claimed, nothing_left, stored, stamped, IsCounted, SettleStep, not_stored, settled}
use Rattle.cb_core.specs.declared.event.Atomic.TheVariants.{Claim}
use Rattle.cb_core.specs.declared.event.Event.TheVariants as event
use Rattle.cb_core.proofs.OpenChanges.{claims_other, claims_same, get_remove, get_set}
use Rattle.cb_core.proofs.OpenSteps.{is_one, not_mine}

-- ---- the newest claim
and_false : (b : Bool) → (b && false) ≡ false
and_false true = refl
and_false false = refl

pub claim_first : (c : ClaimCall) (claims : List ClaimCall)
    → claim_by (c ∷ claims) c.seat c.handle ≡ Some c
claim_first c claims = ap (λ (b : Bool). if b && nat_eq c.handle c.handle then Some c
    else claim_by claims c.seat c.handle) (eq-eqb c.seat c.seat refl)
    ∙ ap (λ (b : Bool). if b then Some c else claim_by claims c.seat c.handle)
    (eq-eqb c.handle c.handle refl)

pub claim_past : (c : ClaimCall) (claims : List ClaimCall) (seat h : ℕ) → c.handle ≢ h
    → claim_by (c ∷ claims) seat h ≡ claim_by claims seat h
claim_past c claims seat h off = ap (λ (b : Bool). if nat_eq c.seat seat && b then Some c
    else claim_by claims seat h) (ne_eqb c.handle h off)
    ∙ ap (λ (b : Bool). if b then Some c else claim_by claims seat h) (and_false (nat_eq c.seat seat))

-- ---- seats with no other open writes
-- each open write is that which a seat had, but for what of it is stored
abbrev pub ComesFrom : List SeatState → List SeatState → Type 0
ComesFrom old new = (seat at : ℕ) (c : OpenWriteState) → IsClaimAt new seat at c
    → (place : ℕ) × (d : OpenWriteState) × IsClaimAt old seat place d × (d.handle ≡ c.handle)
    × (d.at ≡ c.at) × (d.bytes ≡ c.bytes)

begun_from : (claims : List ClaimCall) (old new : List SeatState) → ComesFrom old new
    → AreBegun claims old → AreBegun claims new
begun_from claims old new from begun seat at c is =
    let z = from seat at c is in
    sym (ap (claim_by claims seat) z.3) ∙ begun seat z.0 z.1 z.2
    ∙ (λ i. Some (record { seat = seat; handle = z.3 i; at = z.4 i; bytes = z.5 i }))

-- the open writes of all seats are as they were
pub begun_same : (claims : List ClaimCall) (old new : List SeatState)
    → ((seat : ℕ) → claims_of_seat new seat ≡ claims_of_seat old seat) → AreBegun claims old
    → AreBegun claims new
begun_same claims old new same begun = begun_from claims old new (λ seat at c is. (
  at,
  c,
  ap (λ (l : List OpenWriteState). slice_get l at) (sym (same seat)) ∙ is,
  refl,
  refl,
  refl,
)) begun

pub begun_still : (claims : List ClaimCall) (old new : List SeatState) → new ≡ old
    → AreBegun claims old → AreBegun claims new
begun_still claims old new same begun = subst (AreBegun claims) (sym same) begun

-- a seat has something else beside its open writes
pub begun_beside : (claims : List ClaimCall) (seats : List SeatState) (seat : ℕ) (x : SeatState)
    → x.claims ≡ claims_of_seat seats seat → AreBegun claims seats
    → AreBegun claims (set seats seat x)
begun_beside claims seats seat x same begun = begun_same claims seats (set seats seat x)
    (seat_beside (λ (y : SeatState). y.claims) seats seat x same) begun

-- ---- a claim
pub stays_by : (claims : List ClaimCall) (seat : ℕ) (h : Handle) (at : ℕ) (bytes : List ℕ) (r : Reply)
    → (r ≡ answer.Claimed → ⊥) → claims_after claims (event.Step seat (Claim h at bytes)) r ≡ claims
stays_by claims seat h at bytes answer.Claimed off = absurd (off refl)
stays_by claims seat h at bytes r off = refl

taken_begun : (claims : List ClaimCall) (seat h at : ℕ) (bytes : List ℕ) (w new : WorldState)
    → IsSoundWorld w → seat < 64 → h < length w.desk.words → MayClaim w.desk h at (length bytes)
    → IsClaimTaken seat h at bytes w new → AreBegun claims w.seats
    → AreBegun (record { seat = seat; handle = h; at = at; bytes = bytes } ∷ claims) new.seats
taken_begun claims seat h at bytes w new sound lt within may t begun other place c is =
    elim (is_one w seat h at t.word.word bytes sound lt within may.free may.inside may.next t.word.claims
    other place c (ap (λ (l : List SeatState). slice_get (claims_of_seat l other) place) (sym t.seats)
    ∙ is)) [
      | inl before ↦ claim_past n claims other c.handle
          (λ e. not_mine w seat h at t.word.word bytes sound lt within may.free may.inside may.next
          t.word.claims other place c before (sym e)) ∙ begun other place c before
      | inr (e, last, same) ↦ subst (λ (z : OpenWriteState). claim_by (n ∷ claims) other z.handle
          ≡ Some (record { seat = other; handle = z.handle; at = z.at; bytes = z.bytes })) same
          (subst (λ (o : ℕ). claim_by (n ∷ claims) o h
          ≡ Some (record { seat = o; handle = h; at = at; bytes = bytes })) (sym e)
          (claim_first n claims))
    ]
  where
    n : ClaimCall
    n = record { seat = seat; handle = h; at = at; bytes = bytes }

pub claim_begun : (claims : List ClaimCall) (seat : ℕ) (h : Handle) (at : ℕ) (bytes : List ℕ)
    (w new : WorldState) (r : Reply) → IsSoundWorld w → seat < 64 → h.n < length w.desk.words
    → ClaimStep seat h.n at bytes w r new → AreBegun claims w.seats
    → AreBegun (claims_after claims (event.Step seat (Claim h at bytes)) r) new.seats
claim_begun claims seat h at bytes w new r sound lt within (refused off is same) begun =
    subst (λ (l : List ClaimCall). AreBegun l new.seats)
    (sym (stays_by claims seat h at bytes r off))
    (begun_still claims w.seats new.seats (ap (λ (v : WorldState). v.seats) same) begun)
claim_begun claims seat h at bytes w new r sound lt within (taken may is reply t) begun =
    subst (λ (q : Reply). AreBegun (claims_after claims (event.Step seat (Claim h at bytes)) q) new.seats)
    (sym is) (taken_begun claims seat h.n at bytes w new sound lt within may t begun)

-- ---- a store
counted_from : (seats : List SeatState) (seat at : ℕ) (c : OpenWriteState) → seat < length seats
    → IsClaimAt seats seat at c
    → ComesFrom seats (with_claims seats seat (set (claims_of_seat seats seat) at (stored_once c)))
counted_from seats seat at c within there other place d is = by (ℕ_discrete other seat)
  where
    cs : List OpenWriteState
    cs = claims_of_seat seats seat

    F : Type 0
    F = (p : ℕ) × (e : OpenWriteState) × IsClaimAt seats other p e × (e.handle ≡ d.handle)
        × (e.at ≡ d.at) × (e.bytes ≡ d.bytes)

    by : Dec (other ≡ seat) → F
    by (no off) = (
      place,
      d,
      ap (λ (l : List OpenWriteState). slice_get l place)
          (sym (claims_other seats seat (set cs at (stored_once c)) other off)) ∙ is,
      refl,
      refl,
      refl,
    )
    by (yes same) = elim (get_set cs at (stored_once c) place d
        (ap (λ (l : List OpenWriteState). slice_get l place)
        (sym (claims_same seats seat (set cs at (stored_once c)) within))
        ∙ ap (λ (k : ℕ). slice_get (claims_of_seat (with_claims seats seat (set cs at (stored_once c))) k)
        place) (sym same) ∙ is)) [
          | inl (off, old) ↦ (
            place,
            d,
            ap (λ (k : ℕ). slice_get (claims_of_seat seats k) place) same
                ∙ old,
            refl,
            refl,
            refl,
          )
          | inr (last, next) ↦ (
            at,
            c,
            ap (λ (k : ℕ). slice_get (claims_of_seat seats k) at) same ∙ there,
            ap (λ (z : OpenWriteState). z.handle) next,
            ap (λ (z : OpenWriteState). z.at) next,
            ap (λ (z : OpenWriteState). z.bytes) next,
          )
        ]

counted_begun : (claims : List ClaimCall) (seat at : ℕ) (c : OpenWriteState) (w new : WorldState)
    → IsSoundWorld w → seat < 64 → IsClaimAt w.seats seat at c → IsCounted seat at c w new
    → AreBegun claims w.seats → AreBegun claims new.seats
counted_begun claims seat at c w new sound lt there n begun =
    subst (AreBegun claims) (sym n.seats)
    (begun_from claims w.seats
    (with_claims w.seats seat (set (claims_of_seat w.seats seat) at (stored_once c)))
    (counted_from w.seats seat at c (let k = sound.pinned.count in omega (arith, k, lt)) there) begun)

pub store_begun : (claims : List ClaimCall) (seat h : ℕ) (w new : WorldState) (r : Reply)
    → IsSoundWorld w → seat < 64 → StoreStep seat h w r new → AreBegun claims w.seats
    → AreBegun claims new.seats
store_begun claims seat h w new r sound lt (not_claimed none is same) begun =
    begun_still claims w.seats new.seats (ap (λ (v : WorldState). v.seats) same) begun
store_begun claims seat h w new r sound lt (nothing_left at x none is same) begun =
    begun_still claims w.seats new.seats (ap (λ (v : WorldState). v.seats) same) begun
store_begun claims seat h w new r sound lt (stored at x two is m n) begun =
    counted_begun claims seat at x.ongoing w new sound lt x.there n begun
store_begun claims seat h w new r sound lt (stamped at x last is m n) begun =
    counted_begun claims seat at x.ongoing w new sound lt x.there n begun

-- ---- a settling
settled_from : (seats : List SeatState) (seat at : ℕ) → seat < length seats
    → ComesFrom seats (with_claims seats seat (remove (claims_of_seat seats seat) at))
settled_from seats seat at within other place d is = by (ℕ_discrete other seat)
  where
    cs : List OpenWriteState
    cs = claims_of_seat seats seat

    F : Type 0
    F = (p : ℕ) × (e : OpenWriteState) × IsClaimAt seats other p e × (e.handle ≡ d.handle)
        × (e.at ≡ d.at) × (e.bytes ≡ d.bytes)

    by : Dec (other ≡ seat) → F
    by (no off) = (
      place,
      d,
      ap (λ (l : List OpenWriteState). slice_get l place)
          (sym (claims_other seats seat (remove cs at) other off)) ∙ is,
      refl,
      refl,
      refl,
    )
    by (yes same) =
        let z = get_remove cs at place d
        (ap (λ (l : List OpenWriteState). slice_get l place)
        (sym (claims_same seats seat (remove cs at) within))
        ∙ ap (λ (k : ℕ). slice_get (claims_of_seat (with_claims seats seat (remove cs at)) k) place)
        (sym same) ∙ is) in
        (z.0, d, ap (λ (k : ℕ). slice_get (claims_of_seat seats k) z.0) same ∙ z.1, refl, refl, refl)

pub settle_begun : (claims : List ClaimCall) (seat h : ℕ) (w new : WorldState) (r : Reply)
    → IsSoundWorld w → seat < 64 → SettleStep seat h w r new → AreBegun claims w.seats
    → AreBegun claims new.seats
settle_begun claims seat h w new r sound lt (not_claimed none is same) begun =
    begun_still claims w.seats new.seats (ap (λ (v : WorldState). v.seats) same) begun
settle_begun claims seat h w new r sound lt (not_stored at x some is same) begun =
    begun_still claims w.seats new.seats (ap (λ (v : WorldState). v.seats) same) begun
settle_begun claims seat h w new r sound lt (settled at x none is t) begun =
    subst (AreBegun claims) (sym t.seats)
    (begun_from claims w.seats (with_claims w.seats seat (remove (claims_of_seat w.seats seat) at))
    (settled_from w.seats seat at (let k = sound.pinned.count in omega (arith, k, lt))) begun)
