-- The claim, the stores and the settling of an open write leave the world sound.
use Rattle.std.proofs.Common.{◌≡◌, ◌≢◌, ◌⊎◌, ℕ, Bool, zero, suc, ne_eqb, ◌+◌, ◌-◌, ◌*◌, ◌/◌, ◌^◌, ◌<◌, ◌≤◌, List, [], ◌∷◌, ◌++◌, Some, length, get_or, set, sym, refl, ap, ◌∙◌, subst, arith, inl, inr, length-set, get_or-set_other, get_or-set_same}
use Rattle.std.specs.Prelude.{All, slice_get, nat_eq, if◌then◌else◌}
use native.Mathlib.Decide.{ℕ_discrete}
use Rattle.std.proofs.lemmas.List.Elements.{All-set, All-get_or}
use Rattle.std.proofs.lemmas.List.Sums.{sum_by-set}
use Rattle.cb_ptr.specs.declared.word.State.TheVariants as state
use Rattle.cb_ptr.specs.Steps.{Claims}
use Rattle.cb_ptr.specs.Word.{state_of, len_of, place_of, pins_of}
use Rattle.cb_ptr.proofs.Laws.{claimed_below}
use Rattle.cb_world.specs.declared.object.Object.{Object}
use Rattle.cb_world.specs.declared.object.Object.TheVariants as is
use Rattle.cb_world.specs.declared.seats.SeatPin.{SeatPin}
use Rattle.cb_world.specs.declared.shown.Shown.{Shown}
use Rattle.cb_world.specs.Grasped.{IsFree}
use Rattle.cb_world.specs.FarState.{FarState}
use Rattle.cb_world.specs.Memory.{IsPacked, window, words_for}
use Rattle.cb_world.specs.OpenWrites.{IsOpen, IsLeavingNow, IsClaimedNow, AreOpen, touched}
use Rattle.cb_world.specs.Orders.{AreOrdersKept, LeavesOrders}
use Rattle.cb_world.specs.Packed.{IsPackedAs}
use Rattle.cb_world.specs.Pinned.{with_word}
use Rattle.cb_world.specs.Plain.{Words}
use Rattle.cb_world.specs.Seats.{SeatState, OpenWriteState, AtMostOneHolds, IsClaimAt, idle_seat, seat_at, claims_of_seat, with_claims, pins_among}
use Rattle.cb_world.specs.Shown.{Fits, object_at}
use Rattle.cb_world.specs.StillDesk.{here_is, below_here}
use Rattle.cb_world.specs.StillWords.{stamp_at, contents_at}
use Rattle.cb_world.specs.World.{WorldState, ArePinned, IsSoundWorld, word_at}
use Rattle.cb_world.specs.Write.{IsWriteBelow}
use Rattle.cb_world.proofs.Laws.{known_word, leaving_claimed, orders_kept, orders_then, pinned_still, same_orders, seat_beside}
use Rattle.cb_core.specs.Claiming.{opened}

-- ---- the pins of the seats
-- where a seat has other records beside its pins, the pins of all stay
pub kept_pinned : (desk : Words) (seats : List SeatState) (seat : ℕ) (new : SeatState)
    → new.pins ≡ (seat_at seats seat).pins → seat < length seats → ArePinned desk seats
    → ArePinned desk (set seats seat new)
kept_pinned desk seats seat new same within p = record {
  count = length-set seats seat new ∙ p.count;
  few = All-set (λ (x : SeatState). length x.pins ≤ 16) seats seat new
      (subst (λ (l : List SeatPin). length l ≤ 16) (sym same)
      (All-get_or (λ (x : SeatState). length x.pins ≤ 16) seats seat idle_seat within p.few)) p.few;
  counted = λ h below.
      let z = sum_by-set (λ (x : SeatState). pins_among h x.pins) seats seat new idle_seat within in
      let c = p.counted h below in let e = ap (pins_among h) same in omega (arith, z, c, e);
  known = All-set (λ (x : SeatState). Within x.pins) seats seat new
      (subst Within (sym same)
      (All-get_or (λ (x : SeatState). Within x.pins) seats seat idle_seat within p.known)) p.known;
  here = p.here;
  versions = All-set (λ (x : SeatState). Versioned x.pins) seats seat new
      (subst Versioned (sym same)
      (All-get_or (λ (x : SeatState). Versioned x.pins) seats seat idle_seat within p.versions))
      p.versions;
}
  where
    Within : List SeatPin → Type 0
    Within l = All (λ (pin : SeatPin). pin.handle < length desk.words) l

    Versioned : List SeatPin → Type 0
    Versioned l = All (λ (pin : SeatPin). pin.version ≡ get_or desk.versions pin.handle 0) l

pub claims_pinned : (desk : Words) (seats : List SeatState) (seat : ℕ) (cs : List OpenWriteState)
    → seat < length seats → ArePinned desk seats → ArePinned desk (with_claims seats seat cs)
claims_pinned desk seats seat cs within p =
    kept_pinned desk seats seat (record (seat_at seats seat) { claims = cs }) refl within p

-- other open writes of a seat leave who holds the far lock
pub claims_hold : (seats : List SeatState) (seat : ℕ) (cs : List OpenWriteState)
    → AtMostOneHolds seats → AtMostOneHolds (with_claims seats seat cs)
claims_hold seats seat cs one a b held other =
    one a b (sym (same a) ∙ held) (sym (same b) ∙ other)
  where
    same : (k : ℕ) → (seat_at (with_claims seats seat cs) k).holds ≡ (seat_at seats k).holds
    same k = seat_beside (λ (x : SeatState). x.holds) seats seat
        (record (seat_at seats seat) { claims = cs }) refl k

-- and the orders of all, where those that were kept are kept
pub claims_keep : (s t : Shown) (far : FarState) (seats : List SeatState) (seat : ℕ)
    (cs : List OpenWriteState) → LeavesOrders s far t far → AreOrdersKept s far seats
    → AreOrdersKept t far (with_claims seats seat cs)
claims_keep s t far seats seat cs leaves kept = orders_kept t far seats (with_claims seats seat cs)
    (seat_beside (λ (x : SeatState). x.order) seats seat (record (seat_at seats seat) { claims = cs })
    refl)
    (orders_then s t far far seats leaves kept)

-- ---- lists
none_is : (y : OpenWriteState) (p : ℕ) → slice_get [] p ≡ Some y → ⊥
none_is y p e = cc

same_some : (x y : OpenWriteState) → Some x ≡ Some y → x ≡ y
same_some x y e = cc

get_pushed : (xs : List OpenWriteState) (x : OpenWriteState) (p : ℕ) (y : OpenWriteState)
    → slice_get (xs ++ x ∷ []) p ≡ Some y
    → (slice_get xs p ≡ Some y) ⊎ ((p ≡ length xs) × (x ≡ y))
get_pushed [] x zero y e = inr (refl, same_some x y e)
get_pushed [] x (suc p) y e = absurd (none_is y p e)
get_pushed (z ∷ xs) x zero y e = inl e
get_pushed (z ∷ xs) x (suc p) y e = elim (get_pushed xs x p y e) [
  | inl before ↦ inl before
  | inr last ↦ inr (ap suc last.0, last.1)
]

-- ---- the claim
pub here_moving : (w : ℕ) → state_of w ≡ state.Here → state_of w ≡ state.Moving → ⊥
here_moving w here moving = let e = sym here ∙ moving in cc

get_before : (xs ys : List OpenWriteState) (p : ℕ) (y : OpenWriteState) → slice_get xs p ≡ Some y
    → slice_get (xs ++ ys) p ≡ Some y
get_before [] ys p y e = absurd cc
get_before (x ∷ xs) ys zero y e = e
get_before (x ∷ xs) ys (suc p) y e = get_before xs ys p y e

pub get_last : (xs : List OpenWriteState) (y : OpenWriteState) → slice_get (xs ++ y ∷ []) (length xs) ≡ Some y
get_last [] y = refl
get_last (x ∷ xs) y = get_last xs y

pub not_zero : (n a b : ℕ) → 1 ≤ n → (if nat_eq n 0 then a else b) ≡ b
not_zero n a b some = ap (λ (c : Bool). if c then a else b) (ne_eqb n 0 (λ e. omega (arith, e, some)))

-- nothing is written yet
none_written : (old : List ℕ) (at : ℕ) (bytes : List ℕ) → IsWriteBelow (8 * (at / 8 + 0)) old at bytes old
none_written old at bytes = record {
  sized = refl;
  inside = λ i below e. absurd (omega (arith, e));
  outside = λ p below e. refl;
}

-- an open write is one of those before, or this one
abbrev pub IsOneOf : List SeatState → ℕ → ℕ → OpenWriteState → ℕ → ℕ → OpenWriteState → Type 0
IsOneOf seats seat n mine other place c = IsClaimAt seats other place c
    ⊎ ((other ≡ seat) × (place ≡ n) × (mine ≡ c))

module _ (w : WorldState) (seat h at v : ℕ) (bytes : List ℕ) (sound : IsSoundWorld w) (lt : seat < 64)
    (within : h < length w.desk.words) (free : IsFree (word_at w.desk h))
    (inside : at + length bytes ≤ len_of (word_at w.desk h))
    (next : stamp_at w.desk h < 2 ^ 64 - 1) (claims : Claims (word_at w.desk h) v) where
  abbrev pub s : Shown
  s = sound.shown

  abbrev pub old : ℕ
  old = word_at w.desk h

  abbrev pub desk : Words
  desk = with_word w.desk h v

  abbrev pub cs : List OpenWriteState
  cs = claims_of_seat w.seats seat

  abbrev pub mine : OpenWriteState
  mine = opened w.desk h at bytes

  abbrev pub seats : List SeatState
  seats = with_claims w.seats seat (cs ++ mine ∷ [])

  here : object_at s h ≡ is.Here (len_of old) (place_of old)
  here = here_is (object_at s h) old (sound.known.shows.fit h within) free.0

  fits : Fits (object_at s h) v
  fits = subst (λ (o : Object). Fits o v) (sym here) (
    subst (λ (n : ℕ). n < 2 ^ 53) (omega (arith, claims.number)) (claimed_below old (below_here (object_at s h)
        old (sound.known.shows.fit h within) free.0) free.0),
    claims.len,
    claims.place,
    inr claims.state,
  )

  in_range : seat < length w.seats
  in_range = let n = sound.pinned.count in omega (arith, n, lt)

  -- who claims an object has it Moving
  other : (k : ℕ) → k ≢ h → word_at desk k ≡ word_at w.desk k
  other k off = get_or-set_other w.desk.words h k v 0 off

  mine_is : word_at desk h ≡ v
  mine_is = get_or-set_same w.desk.words h v 0 within

  pub not_mine : (other place : ℕ) (c : OpenWriteState) → IsClaimAt w.seats other place c → c.handle ≢ h
  not_mine other place c there e = here_moving old free.0
      (ap (λ k. state_of (word_at w.desk k)) (sym e) ∙ (sound.ongoing.each other place c there).moving)

  pub is_one : (other place : ℕ) (c : OpenWriteState) → IsClaimAt seats other place c → IsOneOf w.seats seat (length cs) mine other place c
  is_one other place c there = by (ℕ_discrete other seat)
    where
      by : Dec (other ≡ seat) → IsOneOf w.seats seat (length cs) mine other place c
      by (no off) = inl (ap (λ (x : SeatState). slice_get x.claims place)
          (sym (get_or-set_other w.seats seat other _ idle_seat off)) ∙ there)
      by (yes e) = elim (get_pushed cs mine place c
          (ap (λ (x : SeatState). slice_get x.claims place)
          (sym (ap (λ i. get_or seats i idle_seat) e ∙ get_or-set_same w.seats seat _ idle_seat in_range))
          ∙ there)) [
            | inl before ↦ inl (ap (λ i. slice_get (claims_of_seat w.seats i) place) e ∙ before)
            | inr (last, same) ↦ inr (e, last, same)
          ]

  stays : (c : OpenWriteState) → IsOpen w.desk c → c.handle ≢ h → IsOpen desk c
  stays c o off = let z = other c.handle off in record {
    below = let l = length-set w.desk.words h v in omega (arith, l, o.below);
    moving = ap state_of z ∙ o.moving;
    no_pins = ap pins_of z ∙ o.no_pins;
    len = ap len_of z ∙ o.len;
    inside = o.inside;
    next = o.next;
    few = o.few;
    stamp = o.stamp;
    contents = subst (λ n. IsWriteBelow (8 * (c.at / 8 + c.stored)) c.words c.at c.bytes
        (window w.desk.memory (place_of n) (words_for (len_of n)))) (sym z) o.contents;
    packed = o.packed;
  }

  fresh : IsOpen desk mine
  fresh = record {
    below = let l = length-set w.desk.words h v in omega (arith, l, within);
    moving = ap state_of mine_is ∙ claims.state;
    no_pins = ap pins_of mine_is ∙ claims.pins;
    len = ap len_of mine_is ∙ claims.len;
    inside = inside;
    next = next;
    few = omega arith;
    stamp = sym (not_zero (touched at (length bytes) + 1 - 0) (stamp_at w.desk h + 1) (stamp_at w.desk h)
        (omega arith));
    contents = subst (λ n. IsWriteBelow (8 * (at / 8 + 0)) (contents_at w.desk h) at bytes
        (window w.desk.memory (place_of n) (words_for (len_of n)))) (sym mine_is)
        (subst (IsWriteBelow (8 * (at / 8 + 0)) (contents_at w.desk h) at bytes)
        (λ i. window w.desk.memory (sym claims.place i) (words_for (sym claims.len i)))
        (none_written (contents_at w.desk h) at bytes));
    packed = subst (λ (ms : List ℕ). IsPacked (len_of old) (window ms (place_of old)
        (words_for (len_of old)))) sound.known.shows.memory
        (subst (IsPackedAs s old) here (sound.known.packed h within) free.0);
  }

  ongoing : AreOpen desk w.far seats
  ongoing = record {
    each = λ other place c there. elim (is_one other place c there) [
      | inl before ↦ stays c (sound.ongoing.each other place c before) (not_mine other place c before)
      | inr (e, last, same) ↦ subst (IsOpen desk) same fresh
    ];
    once = λ a b p q c d x y e. both a b p q c d (is_one a p c x) (is_one b q d y) e;
    apart = λ other place c there leaving. elim (is_one other place c there) [
      | inl before ↦ sound.ongoing.apart other place c before leaving
      | inr (e, last, same) ↦ leaving_claimed w.far s h (len_of old) (place_of old) sound.known.sound
          (subst (λ (x : OpenWriteState). IsLeavingNow w.far x.handle) (sym same) leaving) here
    ];
    moving = λ k below moved. by k below moved (ℕ_discrete k h);
  }
    where
      both : (a b p q : ℕ) (c d : OpenWriteState) → IsOneOf w.seats seat (length cs) mine a p c → IsOneOf w.seats seat (length cs) mine b q d → c.handle ≡ d.handle
          → (a ≡ b) × (p ≡ q)
      both a b p q c d (inl x) (inl y) e = sound.ongoing.once a b p q c d x y e
      both a b p q c d (inl x) (inr (f, last, same)) e =
          absurd (not_mine a p c x (e ∙ sym (ap (λ (z : OpenWriteState). z.handle) same)))
      both a b p q c d (inr (f, last, same)) (inl y) e =
          absurd (not_mine b q d y (sym e ∙ sym (ap (λ (z : OpenWriteState). z.handle) same)))
      both a b p q c d (inr (f, last, same)) (inr (g, end, is)) e = (f ∙ sym g, last ∙ sym end)

      still : (k : ℕ) → IsClaimedNow w.seats k → IsClaimedNow seats k
      still k (other, place, c, there, on) = (other, place, c, go (ℕ_discrete other seat), on)
        where
          go : Dec (other ≡ seat) → IsClaimAt seats other place c
          go (no off) = ap (λ (x : SeatState). slice_get x.claims place)
              (get_or-set_other w.seats seat other _ idle_seat off) ∙ there
          go (yes e) = ap (λ i. slice_get (claims_of_seat seats i) place) e
              ∙ ap (λ (x : SeatState). slice_get x.claims place)
              (get_or-set_same w.seats seat _ idle_seat in_range)
              ∙ get_before cs (mine ∷ []) place c
              (ap (λ i. slice_get (claims_of_seat w.seats i) place) (sym e) ∙ there)

      by : (k : ℕ) → k < length (set w.desk.words h v) → state_of (word_at desk k) ≡ state.Moving
          → Dec (k ≡ h) → IsClaimedNow seats k ⊎ IsLeavingNow w.far k
      by k below moved (yes e) = inl (
        seat,
        length cs,
        mine,
        ap (λ (x : SeatState). slice_get x.claims (length cs))
            (get_or-set_same w.seats seat _ idle_seat in_range) ∙ get_last cs mine,
        sym e,
      )
      by k below moved (no off) = elim (sound.ongoing.moving k
          (let l = length-set w.desk.words h v in omega (arith, l, below))
          (ap state_of (sym (other k off)) ∙ moved)) [
            | inl claimed ↦ inl (still k claimed)
            | inr leaving ↦ inr leaving
          ]

  pub claimed_sound : IsSoundWorld (record { desk = desk; far = w.far; seats = seats })
  claimed_sound = record {
    config = sound.config;
    configured = sound.configured;
    shown = _;
    known = known_word w.desk w.far s h v sound.known within fits
        (subst (IsPackedAs s v) (sym here) (λ calm. absurd (moved calm)));
    pinned = claims_pinned desk w.seats seat (cs ++ mine ∷ []) in_range
        (pinned_still w.desk desk w.seats sound.pinned (length-set w.desk.words h v)
        (λ k below some. let off : k ≢ h = λ e. pinned_free (subst (λ i. 1 ≤ pins_of (word_at w.desk i)) e some) in
        (other k off, refl))
        (λ k below none. none_then k none (ℕ_discrete k h)));
    ongoing = ongoing;
    one = claims_hold w.seats seat (cs ++ mine ∷ []) sound.one;
    orders = claims_keep s _ w.far w.seats seat (cs ++ mine ∷ []) (same_orders s _ w.far refl)
        sound.orders;
    counted = sound.counted;
  }
    where
      moved : state_of v ≡ state.Here → ⊥
      moved calm = let e = sym calm ∙ claims.state in cc

      pinned_free : 1 ≤ pins_of old → ⊥
      pinned_free some = let e = free.1 in omega (arith, e, some)

      none_then : (k : ℕ) → pins_of (word_at w.desk k) ≡ 0 → Dec (k ≡ h) → pins_of (word_at desk k) ≡ 0
      none_then k none (yes e) = ap (λ i. pins_of (word_at desk i)) e ∙ ap pins_of mine_is ∙ claims.pins
      none_then k none (no off) = ap pins_of (other k off) ∙ none
