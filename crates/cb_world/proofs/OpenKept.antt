-- What an operation at the still desk leaves of the open writes of seats: all of them.
use Rattle.std.proofs.Common.{◌≡◌, ◌≢◌, ◌⊎◌, ℕ, ◌+◌, ◌*◌, ◌/◌, ◌<◌, ◌≤◌, List, [], ◌∷◌, Some, length, get_or, set, sym, refl, ap, ◌∙◌, subst, arith, inl, inr, length-set, get_or-set_other, get_or-set_same}
use Rattle.std.specs.Prelude.{slice_get}
use native.Mathlib.Decide.{ℕ_discrete}
use Rattle.std.proofs.lemmas.Bool.{cases_lt}
use Rattle.std.proofs.lemmas.List.{get_or_past}
use Rattle.cb_ptr.specs.declared.word.State.TheVariants as word
use Rattle.cb_ptr.specs.Word.{state_of, len_of, place_of, pins_of}
use Rattle.cb_world.specs.declared.object.Object.{Object}
use Rattle.cb_world.specs.declared.object.Object.TheVariants as is
use Rattle.cb_world.specs.declared.access.Access.{Access}
use Rattle.cb_world.specs.declared.access.Access.TheVariants.{Looked, Claimed, Told, Loaded, Stored, Stamped, Settled}
use Rattle.cb_world.specs.declared.shown.Shown.{Shown}
use Rattle.cb_world.specs.FarState.{FarState, handle_in}
use Rattle.cb_world.specs.Memory.{window, words_for}
use Rattle.cb_world.specs.Plain.{Words, Plain}
use Rattle.cb_world.specs.Played.{after, played}
use Rattle.cb_world.specs.declared.seats.SeatPin.{SeatPin}
use Rattle.cb_world.specs.Pinned.{with_word}
use Rattle.cb_world.specs.Seats.{SeatState, OpenWriteState, IsClaimAt, AtMostOneHolds, idle_seat, seat_at, claims_of_seat, with_pins}
use Rattle.cb_world.specs.Shown.{Fits, object_at, never}
use Rattle.cb_world.specs.Sound.{Sound, IsLeaving}
use Rattle.cb_world.specs.StillWords.{contents_at}
use Rattle.cb_world.specs.World.{word_at, IsKnown}
use Rattle.cb_world.specs.Write.{IsWriteBelow}
use Rattle.cb_world.specs.Allowed.{Allowed, LeavesUnclaimed}
use Rattle.cb_world.specs.Grasped.{IsFree}
use Rattle.cb_world.specs.OpenWrites.{IsOpen, IsLeavingNow, IsClaimedNow, AreOpen}
use Rattle.cb_world.specs.StillDesk.{plain_stays}
use Rattle.cb_world.proofs.Known.{HereIs, here_after}
use Rattle.cb_world.proofs.NowSame.{bits, near_object, IsNearAt}
use Rattle.cb_world.proofs.StillPerforms.{PerformsStill, RunsStill, runs_still, known_then}
use Rattle.cb_world.proofs.StillWords.{busy_leaves, settles_other}
use Rattle.cb_world.proofs.Untouched.{untouched}
use Rattle.cb_world.proofs.Windows.{window_same}

-- an object that is here and that is not claimed is here afterwards, at its place
stays_here : (es : List Access) (x y : Words) (s : Shown) (k len place : ℕ) → Plain x es y
    → Allowed s es → LeavesUnclaimed k es → object_at s k ≡ is.Here len place
    → object_at (played es s) k ≡ is.Here len place
stays_here [] x y s k len place run ok l here = here
stays_here (Looked h w ∷ es) x y s k len place run ok l here =
    stays_here es x y (after (Looked h w) s) k len place run.1 ok.1 l here
stays_here (Claimed h w v xs ∷ es) x y s k len place run ok l here =
    stays_here es (record x { words = set x.words h (w + 1) }) y (after (Claimed h w v xs) s) k len
    place run.1 ok.1 l.1 (get_or-set_other s.objects h k _ never l.0 ∙ here)
stays_here (Told h v ∷ es) x y s k len place run ok l here =
    stays_here es x y s k len place run.1 ok.1 l here
stays_here (Loaded p u ∷ es) x y s k len place run ok l here =
    stays_here es x y s k len place run.1 ok.1 l here
stays_here (Stored q u ∷ es) x y s k len place run ok l here =
    stays_here es (record x { memory = set x.memory q u }) y (after (Stored q u) s) k len place run
    ok.1 l here
stays_here (Stamped h v ∷ es) x y s k len place run ok l here =
    stays_here es (record x { versions = set x.versions h v }) y (after (Stamped h v) s) k len place
    run ok.1 l here
stays_here (Settled h w ∷ es) x y s k len place run ok l here =
    let other = settles_other s k h w len place here ok.0 in
    stays_here es (record x { words = set x.words h w }) y (after (Settled h w) s) k len place run.1
    ok.1 l (get_or-set_other s.objects h k _ never other ∙ here)

here_moving : (w : ℕ) → state_of w ≡ word.Here → state_of w ≡ word.Moving → ⊥
here_moving w here moving = let e = sym here ∙ moving in cc

-- a word that is Moving is not free
moving_busy : (w : ℕ) → state_of w ≡ word.Moving → IsFree w → ⊥
moving_busy w moving free = let e = sym moving ∙ free.0 in cc

-- an object that is claimed with the batch is one of those that leave
leaves_now : (far : FarState) (s : Shown) (h len place : ℕ) (words : List ℕ)
    → IsLeaving s far h len place words → IsLeavingNow far h
leaves_now far s h len place words l = (
  l.batch,
  l.there,
  (l.slot.frame, l.slot.slot, l.leaves, ap (λ o. handle_in o l.slot.slot) l.slot.there ∙ l.slot.named),
)

-- the object of an open write is known to be here, whose word is Moving
pub open_here : (x : Words) (far : FarState) (s : Shown) (seats : List SeatState) (seat at : ℕ)
    (c : OpenWriteState) → IsKnown x far s → AreOpen x far seats → IsClaimAt seats seat at c
    → object_at s c.handle ≡ is.Here (len_of (word_at x c.handle)) (place_of (word_at x c.handle))
open_here x far s seats seat at c k ongoing there =
    let o = ongoing.each seat at c there in let w = word_at x c.handle in
    by (near_object (object_at s c.handle) w (k.shows.fit c.handle o.below)
    (let n = bits w word.Moving o.moving in omega (arith, n)))
  where
    by : IsNearAt (object_at s c.handle) (word_at x c.handle)
        → object_at s c.handle ≡ is.Here (len_of (word_at x c.handle)) (place_of (word_at x c.handle))
    by (inl here) = here
    by (inr (v, words, claimed)) =
        let leaving = k.sound.claimed c.handle _ _ v words claimed in
        absurd (ongoing.apart seat at c there (leaves_now far s c.handle _ _ words leaving))

-- an open write stays open
open_stays : (es : List Access) (x y : Words) (s : Shown) (c : OpenWriteState) → Plain x es y
    → Allowed s es → length y.words ≡ length x.words → IsOpen x c
    → object_at s c.handle ≡ is.Here (len_of (word_at x c.handle)) (place_of (word_at x c.handle))
    → IsOpen y c
open_stays es x y s c run ok count o here =
    let w = word_at x c.handle in
    let l = busy_leaves es x y s c.handle (len_of w) (place_of w) run ok here (moving_busy w o.moving) in
    let z = untouched es x y s c.handle (len_of w) (place_of w) run ok l here in
    let same : contents_at y c.handle ≡ contents_at x c.handle =
    (λ i. window y.memory (place_of (z.word i)) (words_for (len_of (z.word i))))
    ∙ window_same y.memory x.memory (place_of w) (words_for (len_of w)) (λ p a b. z.memory p (a, b)) in
    record {
      below = omega (arith, count, o.below);
      moving = ap state_of z.word ∙ o.moving;
      no_pins = ap pins_of z.word ∙ o.no_pins;
      len = ap len_of z.word ∙ o.len;
      inside = o.inside;
      next = o.next;
      few = o.few;
      stamp = z.version ∙ o.stamp;
      contents = subst (IsWriteBelow (8 * (c.at / 8 + c.stored)) c.words c.at c.bytes) (sym same) o.contents;
      packed = o.packed;
    }

-- a word that is Moving is that of an object that is here or is leaving
abbrev pub IsMovingOf : FarState → Shown → ℕ → ℕ → Type 0
IsMovingOf far s h w = (object_at s h ≡ is.Here (len_of w) (place_of w)) ⊎ IsLeavingNow far h

pub moving_is : (x : Words) (far : FarState) (s : Shown) (h : ℕ) → IsKnown x far s
    → h < length x.words → state_of (word_at x h) ≡ word.Moving → IsMovingOf far s h (word_at x h)
moving_is x far s h k below moving =
    by (near_object (object_at s h) (word_at x h) (k.shows.fit h below)
    (let n = bits (word_at x h) word.Moving moving in omega (arith, n)))
  where
    by : IsNearAt (object_at s h) (word_at x h) → IsMovingOf far s h (word_at x h)
    by (inl here) = inl here
    by (inr (v, words, claimed)) =
        inr (leaves_now far s h _ _ words (k.sound.claimed h _ _ v words claimed))

-- an object whose word is Moving afterwards, and which is here then, had a Moving word
was_moving : (o : Object) (w : ℕ) → Fits o w → (HereIs o w → ⊥) → state_of w ≡ word.Moving
was_moving (is.Empty v) w fit not = absurd (not tt)
was_moving (is.Far len v words) w fit not = absurd (not tt)
was_moving (is.Claimed len place v words) w fit not = absurd (not tt)
was_moving (is.Here len place) w (a, b, c, inl here) not = absurd (not here)
was_moving (is.Here len place) w (a, b, c, inr moving) not = moving

moving_here : (o : Object) (w len place : ℕ) → o ≡ is.Here len place → state_of w ≡ word.Moving
    → HereIs o w → ⊥
moving_here (is.Here n p) w len place e moving here = let f = sym moving ∙ here in cc
moving_here (is.Empty v) w len place e moving here = cc
moving_here (is.Far n v words) w len place e moving here = cc
moving_here (is.Claimed n p v words) w len place e moving here = cc

-- who has a leaving object knows it as claimed
pub leaving_claimed : (far : FarState) (s : Shown) (h len place : ℕ) → Sound s far
    → IsLeavingNow far h → object_at s h ≡ is.Here len place → ⊥
leaving_claimed far s h len place sound (batch, there, (f, slot, among, named)) here =
    let n = sound.noted batch there in
    let span = n.held f among in
    let e = n.each f slot h span.0 among span.1 (sym (ap (λ o. handle_in o slot) span.1) ∙ named) in
    let c = sym here ∙ e.claimed in cc

-- the same words, where the same is known of them beside another far state
pub open_same : (x : Words) (far new : FarState) (s : Shown) (seats : List SeatState)
    → IsKnown x far s → IsKnown x new s → AreOpen x far seats → AreOpen x new seats
open_same x far new s seats k l ongoing = record {
  each = ongoing.each;
  once = ongoing.once;
  apart = λ seat at c there leaving. leaving_claimed new s c.handle _ _ l.sound leaving
      (open_here x far s seats seat at c k ongoing there);
  moving = λ h below moved. by h below moved (moving_is x new s h l below moved);
}
  where
    by : (h : ℕ) → h < length x.words → state_of (word_at x h) ≡ word.Moving
        → IsMovingOf new s h (word_at x h) → IsClaimedNow seats h ⊎ IsLeavingNow new h
    by h below moved (inr leaving) = inr leaving
    by h below moved (inl here) = elim (ongoing.moving h below moved) [
      | inl claimed ↦ inl claimed
      | inr leaving ↦ absurd (leaving_claimed far s h _ _ k.sound leaving here)
    ]

-- An operation at the still desk keeps the open writes.
pub open_kept : (x y : Words) (far new : FarState) (rules : List Access → Type 0)
    (does : List Access → Shown → Shown → Type 0) (s : Shown) (seats : List SeatState) → IsKnown x far s
    → PerformsStill x y far new rules does → AreOpen x far seats → AreOpen y new seats
open_kept x y far new rules does s seats k p ongoing = record {
  each = λ seat at c there.
      open_stays es x y s c ran ok count (ongoing.each seat at c there)
      (open_here x far s seats seat at c k ongoing there);
  once = ongoing.once;
  apart = λ seat at c there leaving.
      let o = ongoing.each seat at c there in let w = word_at x c.handle in
      let here = open_here x far s seats seat at c k ongoing there in
      leaving_claimed new (played es s) c.handle (len_of w) (place_of w) after_all.sound leaving
      (stays_here es x y s c.handle (len_of w) (place_of w) ran ok
      (busy_leaves es x y s c.handle (len_of w) (place_of w) ran ok here (moving_busy w o.moving)) here);
  moving = λ h below moved.
      moving_then h below moved (moving_is y new (played es s) h after_all below moved);
}
  where
    es : List Access
    es = p.events

    r : RunsStill x y far s es
    r = runs_still x y far new rules does s k p

    ran : Plain x es y
    ran = r.ran

    ok : Allowed s es
    ok = r.allowed

    count : length y.words ≡ length x.words
    count = (p.ran.1 k.sized).words ∙ ap (λ c. c.handles) (plain_stays x y es ran) ∙ sym k.sized.words

    after_all : IsKnown y new (played es s)
    after_all = known_then x y far new rules does s k p

    moving_then : (h : ℕ) → h < length y.words → state_of (word_at y h) ≡ word.Moving
        → IsMovingOf new (played es s) h (word_at y h)
        → IsClaimedNow seats h ⊎ IsLeavingNow new h
    moving_then h below moved (inr leaving) = inr leaving
    moving_then h below moved (inl here) =
        let within : h < length x.words = omega (arith, below, count) in
        let was = was_moving (object_at s h) (word_at x h) (k.shows.fit h within)
        (λ z. moving_here (object_at (played es s) h) (word_at y h) _ _ here moved
        (here_after es x y s h ran k.shows.objects z)) in
        elim (ongoing.moving h within was) [
          | inl claimed ↦ inl claimed
          | inr leaving ↦ inr (absurd (gone h within was leaving here moved))
        ]
      where
        gone : (h : ℕ) → h < length x.words → state_of (word_at x h) ≡ word.Moving
            → IsLeavingNow far h
            → object_at (played es s) h ≡ is.Here (len_of (word_at y h)) (place_of (word_at y h))
            → state_of (word_at y h) ≡ word.Moving → ⊥
        gone h within was (batch, there, (f, slot, among, named)) here moved =
            let n = k.sound.noted batch there in
            let span = n.held f among in
            let e = n.each f slot h span.0 among span.1
            (sym (ap (λ o. handle_in o slot) span.1) ∙ named) in
            moving_here (object_at (played es s) h) (word_at y h) _ _ here moved
            (here_after es x y s h ran k.shows.objects
            (subst (λ (o : Object). HereIs o (word_at x h)) (sym e.claimed) tt))

-- the pointer word of an object that is here is changed to another that is here; the open writes of the
-- seats are the same
pub open_word : (desk : Words) (far : FarState) (seats next : List SeatState) (h w : ℕ)
    → state_of (word_at desk h) ≡ word.Here → state_of w ≡ word.Here → h < length desk.words
    → ((seat : ℕ) → claims_of_seat next seat ≡ claims_of_seat seats seat) → AreOpen desk far seats
    → AreOpen (with_word desk h w) far next
open_word desk far seats next h w was here within same ongoing = record {
  each = λ seat at c there. one c (ongoing.each seat at c (back seat at c there));
  once = λ seat other at place c d a b e.
      ongoing.once seat other at place c d (back seat at c a) (back other place d b) e;
  apart = λ seat at c there leaving. ongoing.apart seat at c (back seat at c there) leaving;
  moving = λ k below moved. by k below moved (ℕ_discrete k h);
}
  where
    back : (seat at : ℕ) (c : OpenWriteState) → IsClaimAt next seat at c → IsClaimAt seats seat at c
    back seat at c there = ap (λ l. slice_get l at) (sym (same seat)) ∙ there

    other : (k : ℕ) → k ≢ h → word_at (with_word desk h w) k ≡ word_at desk k
    other k off = get_or-set_other desk.words h k w 0 off

    one : (c : OpenWriteState) → IsOpen desk c → IsOpen (with_word desk h w) c
    one c o =
        let off : c.handle ≢ h = λ e. here_moving (word_at desk h) was
        (ap (λ k. state_of (word_at desk k)) (sym e) ∙ o.moving) in
        let z = other c.handle off in record {
          below = let l = length-set desk.words h w in omega (arith, l, o.below);
          moving = ap state_of z ∙ o.moving;
          no_pins = ap pins_of z ∙ o.no_pins;
          len = ap len_of z ∙ o.len;
          inside = o.inside;
          next = o.next;
          few = o.few;
          stamp = o.stamp;
          contents = subst (λ n. IsWriteBelow (8 * (c.at / 8 + c.stored)) c.words c.at c.bytes
              (window desk.memory (place_of n) (words_for (len_of n)))) (sym z) o.contents;
          packed = o.packed;
        }

    by : (k : ℕ) → k < length (set desk.words h w) → state_of (word_at (with_word desk h w) k) ≡ word.Moving
        → Dec (k ≡ h) → IsClaimedNow next k ⊎ IsLeavingNow far k
    by k below moved (yes e) = absurd (here_moving w here
        (sym (ap state_of (ap (λ i. word_at (with_word desk h w) i) e
        ∙ get_or-set_same desk.words h w 0 within)) ∙ moved))
    by k below moved (no off) = elim (ongoing.moving k
        (let l = length-set desk.words h w in omega (arith, l, below))
        (ap state_of (sym (other k off)) ∙ moved)) [
          | inl (seat, at, c, there, on) ↦ inl (seat, at, c, ap (λ l. slice_get l at) (same seat) ∙ there, on)
          | inr leaving ↦ inr leaving
        ]

-- what the seats have beside the part of one seat that is changed
pub seat_beside : {A : Type 0} (f : SeatState → A) (seats : List SeatState) (seat : ℕ)
    (new : SeatState) → f new ≡ f (seat_at seats seat) → (k : ℕ)
    → f (seat_at (set seats seat new) k) ≡ f (seat_at seats k)
seat_beside f seats seat new same k = by (ℕ_discrete k seat) (cases_lt seat (length seats))
  where
    by : Dec (k ≡ seat) → (seat < length seats) ⊎ (length seats ≤ seat)
        → f (seat_at (set seats seat new) k) ≡ f (seat_at seats k)
    by (no off) side = ap f (get_or-set_other seats seat k new idle_seat off)
    by (yes e) (inl lt) = ap (λ (i : ℕ). f (get_or (set seats seat new) i idle_seat)) e
        ∙ ap f (get_or-set_same seats seat new idle_seat lt) ∙ same
        ∙ ap (λ (i : ℕ). f (get_or seats i idle_seat)) (sym e)
    by (yes e) (inr past) = ap (λ (i : ℕ). f (get_or (set seats seat new) i idle_seat)) e
        ∙ ap f (get_or_past (set seats seat new) seat idle_seat
        (let l = length-set seats seat new in omega (arith, l, past)))
        ∙ sym (ap f (get_or_past seats seat idle_seat past))
        ∙ ap (λ (i : ℕ). f (get_or seats i idle_seat)) (sym e)

-- other pins of a seat leave the open writes of all
pub pins_leave : (seats : List SeatState) (seat : ℕ) (pins : List SeatPin) (k : ℕ)
    → claims_of_seat (with_pins seats seat pins) k ≡ claims_of_seat seats k
pins_leave seats seat pins k =
    seat_beside (λ (x : SeatState). x.claims) seats seat (record (seat_at seats seat) { pins = pins })
    refl k

-- and whoever holds the far lock
pub pins_hold : (seats : List SeatState) (seat : ℕ) (pins : List SeatPin) → AtMostOneHolds seats
    → AtMostOneHolds (with_pins seats seat pins)
pins_hold seats seat pins one a b held other = one a b (sym (same a) ∙ held) (sym (same b) ∙ other)
  where
    same : (k : ℕ) → (seat_at (with_pins seats seat pins) k).holds ≡ (seat_at seats k).holds
    same k = seat_beside (λ (x : SeatState). x.holds) seats seat
        (record (seat_at seats seat) { pins = pins }) refl k

-- where no seat has an open write and no word is Moving
pub none_open : (desk : Words) (far : FarState) (seats : List SeatState)
    → ((seat : ℕ) → claims_of_seat seats seat ≡ [])
    → ((h : ℕ) → h < length desk.words → state_of (word_at desk h) ≡ word.Moving → ⊥)
    → AreOpen desk far seats
none_open desk far seats none still = record {
  each = λ seat at c there. absurd (no seat at c there);
  once = λ seat other at place c d there a b. absurd (no seat at c there);
  apart = λ seat at c there leaving. no seat at c there;
  moving = λ h below moved. absurd (still h below moved);
}
  where
    nothing : (at : ℕ) (c : OpenWriteState) → slice_get [] at ≡ Some c → ⊥
    nothing at c e = cc

    no : (seat at : ℕ) (c : OpenWriteState) → IsClaimAt seats seat at c → ⊥
    no seat at c there = nothing at c (ap (λ l. slice_get l at) (sym (none seat)) ∙ there)
