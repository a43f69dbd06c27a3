-- A pin and its end leave the world sound.
use Rattle.std.proofs.Common.{refl, ◌≡◌, ◌⊎◌, ℕ, ◌+◌, ◌^◌, ◌<◌, ◌≤◌, Bool, true, false, List, [], ◌∷◌, ◌++◌, length, get_or, set, Some, sym, ap, ◌∙◌, subst, arith, inl, inr, length-set, get_or-set_other, get_or-set_same}
use native.Mathlib.Decide.{ℕ_discrete}
use Rattle.std.specs.List.{All, remove, slice_get}
use Rattle.std.specs.Prelude.{nat_eq, if◌then◌else◌}
use Rattle.std.proofs.lemmas.Bool.{cases_lt, eq-eqb, eqb-true, cases_Bool}
use Rattle.std.proofs.lemmas.Option.{get_or_from_slice_get, slice_get_within}
use Rattle.std.proofs.lemmas.List.Edits.{length-remove, get_or-remove_below, get_or-remove_above}
use Rattle.std.proofs.lemmas.List.{get_or_default, length_push, set-get_or}
use Rattle.std.proofs.lemmas.List.Elements.{All-set, All-append, All-cons, All-get_or, All-from_get_or}
use Rattle.std.proofs.lemmas.List.Sums.{sum_by-set, sum_by-append, sum_by-remove}
use Rattle.cb_ptr.specs.declared.word.State.TheVariants as word
use Rattle.cb_ptr.specs.Word.{state_of, hot_of, len_of, place_of, pins_of}
use Rattle.cb_ptr.specs.Steps.{TakesPin, GivesPin}
use Rattle.cb_world.specs.declared.access.Access.TheVariants.{Looked}
use Rattle.cb_world.specs.declared.object.Object.{Object}
use Rattle.cb_world.specs.declared.object.Object.TheVariants as is
use Rattle.cb_world.specs.declared.seats.SeatPin.{SeatPin}
use Rattle.cb_world.specs.declared.shown.Shown.{Shown}
use Rattle.cb_world.specs.Shown.{Fits, object_at, never}
use Rattle.cb_world.specs.Played.{after}
use Rattle.cb_world.specs.Plain.{Words}
use Rattle.cb_world.specs.StillDesk.{fits_set, hots_set, here_is, below_here}
use Rattle.cb_world.specs.FarState.{FarState}
use Rattle.cb_world.specs.Pinned.{with_word}
use Rattle.cb_world.specs.Seats.{IsNewestOf, SeatState, idle_seat, seat_at, pins_of_seat, with_pins, pins_among, all_pins_on}
use Rattle.cb_world.specs.World.{IsKnown, ArePinned, word_at}
use Rattle.cb_world.specs.Packed.{IsPackedAs}
use Rattle.cb_world.proofs.AfterLook.{look_sound}
use Rattle.cb_world.proofs.Packing.{same_memory}

-- the pointer word of an object is changed to another that it may have; where that is Here, its words
-- are packed
pub known_word : (desk : Words) (far : FarState) (s : Shown) (h w : ℕ) → IsKnown desk far s
    → h < length desk.words → Fits (object_at s h) w → IsPackedAs s w (object_at s h)
    → IsKnown (with_word desk h w) far (after (Looked h w) s)
known_word desk far s h w k within fit packed = record {
  sized = record {
    words = length-set desk.words h w ∙ k.sized.words;
    versions = k.sized.versions;
    memory = k.sized.memory;
  };
  shows = record {
    objects = k.shows.objects ∙ sym (length-set desk.words h w);
    versions = k.shows.versions;
    hots = length-set s.hots h (hot_of w) ∙ k.shows.hots ∙ sym (length-set desk.words h w);
    hot = hots_set s.hots desk.words h w (hot_of w) k.shows.hots within (λ e. e) k.shows.hot;
    memory = k.shows.memory;
    fit = λ j below. subst (λ (objects : List Object).
        Fits (get_or objects j never) (get_or (set desk.words h w) j 0))
        (set-get_or s.objects h never)
        (fits_set s.objects desk.words h w (object_at s h) k.shows.objects within fit k.shows.fit j
        below);
  };
  hots = λ j below. hots j below (ℕ_discrete j h);
  sound = look_sound far s [] [] h w k.sound tt tt;
  packed = λ j below. same_memory s (after (Looked h w) s) (get_or (set desk.words h w) j 0)
      (object_at s j) refl (packs j below (ℕ_discrete j h));
  freed = k.freed;
}
  where
    packs : (j : ℕ) → j < length (set desk.words h w) → Dec (j ≡ h)
        → IsPackedAs s (get_or (set desk.words h w) j 0) (object_at s j)
    packs j below (yes e) =
        subst (λ (i : ℕ). IsPackedAs s (get_or (set desk.words h w) i 0) (object_at s i)) (sym e)
        (subst (λ (n : ℕ). IsPackedAs s n (object_at s h))
        (sym (get_or-set_same desk.words h w 0 within)) packed)
    packs j below (no n) = subst (λ (i : ℕ). IsPackedAs s i (object_at s j))
        (sym (get_or-set_other desk.words h j w 0 n))
        (k.packed j (let l = length-set desk.words h w in omega (arith, l, below)))

    hots : (j : ℕ) → j < length (set desk.words h w) → Dec (j ≡ h)
        → get_or (set s.hots h (hot_of w)) j false ≡ hot_of (get_or (set desk.words h w) j 0)
    hots j below (yes e) =
        ap (λ (i : ℕ). get_or (set s.hots h (hot_of w)) i false) e
        ∙ get_or-set_same s.hots h (hot_of w) false (let n = k.shows.hots in omega (arith, n, within))
        ∙ sym (ap hot_of (ap (λ (i : ℕ). get_or (set desk.words h w) i 0) e
        ∙ get_or-set_same desk.words h w 0 within))
    hots j below (no n) =
        get_or-set_other s.hots h j (hot_of w) false n
        ∙ k.hots j (let l = length-set desk.words h w in omega (arith, l, below))
        ∙ ap hot_of (sym (get_or-set_other desk.words h j w 0 n))

-- a word that is here with other pins fits the object that its first word fits
other_fits : (o : Object) (v w : ℕ) → Fits o v → state_of v ≡ word.Here → w < 2 ^ 53
    → len_of w ≡ len_of v → place_of w ≡ place_of v → state_of w ≡ word.Here → Fits o w
other_fits o v w fit here below len place still =
    subst (λ (p : Object). Fits p w) (sym (here_is o v fit here)) (below, len, place, inl still)

-- and its words are packed as they were
still_packed : (s : Shown) (v w : ℕ) (o : Object) → state_of v ≡ word.Here → IsPackedAs s v o
    → IsPackedAs s w o
still_packed s v w (is.Empty n) here m = tt
still_packed s v w (is.Far len n words) here m = m
still_packed s v w (is.Here len place) here m = λ e. m here
still_packed s v w (is.Claimed len place n words) here m = m

-- ---- the seats with other pins at one of them
abbrev one_pin : ℕ → SeatPin → ℕ
one_pin k pin = if nat_eq pin.handle k then 1 else 0

seats_on : (seats : List SeatState) (seat k : ℕ) (pins : List SeatPin) → seat < length seats
    → all_pins_on k (with_pins seats seat pins) + pins_among k (pins_of_seat seats seat)
    ≡ all_pins_on k seats + pins_among k pins
seats_on seats seat k pins within =
    sum_by-set (λ (x : SeatState). pins_among k x.pins) seats seat
    (record (seat_at seats seat) { pins = pins }) idle_seat within

more_on : (pins : List SeatPin) (pin : SeatPin) (k : ℕ)
    → pins_among k (pins ++ pin ∷ []) ≡ pins_among k pins + one_pin k pin
more_on pins pin k = let e = sum_by-append (one_pin k) pins (pin ∷ []) in omega (arith, e)

less_on : (pins : List SeatPin) (at k : ℕ) (pin : SeatPin) → slice_get pins at ≡ Some pin
    → pins_among k (remove pins at) + one_pin k pin ≡ pins_among k pins
less_on pins at k pin there =
    ap (λ (x : SeatPin). pins_among k (remove pins at) + one_pin k x)
    (sym (get_or_from_slice_get pins at pin pin there))
    ∙ sum_by-remove (one_pin k) pins at pin (slice_get_within pins at pin there)

all_but : (P : SeatPin → Type 0) (pins : List SeatPin) (at : ℕ) → at < length pins → All P pins
    → All P (remove pins at)
all_but P pins at lt all = All-from_get_or P (remove pins at) none (λ i below. go i below (cases_lt i at))
  where
    none : SeatPin
    none = record { handle = 0; version = 0 }

    go : (i : ℕ) → i < length (remove pins at) → (i < at) ⊎ (at ≤ i)
        → P (get_or (remove pins at) i none)
    go i below (inl before) = subst P (sym (get_or-remove_below pins at none i before lt))
        (All-get_or P pins i none (omega (arith, before, lt)) all)
    go i below (inr behind) = subst P (sym (get_or-remove_above pins at none i behind lt))
        (All-get_or P pins (i + 1) none (let n = length-remove pins at lt in omega (arith, n, below)) all)

pinned_word : (desk : Words) (seats : List SeatState) (seat h w : ℕ) (pins : List SeatPin)
    → ArePinned desk seats → seat < length seats → h < length desk.words
    → state_of w ≡ word.Here → (1 ≤ pins_of w → hot_of w ≡ true)
    → length pins ≤ 16
    → ((k : ℕ) → k < length desk.words → pins_among k pins + pins_of (word_at desk k)
    ≡ pins_among k (pins_of_seat seats seat) + pins_of (get_or (set desk.words h w) k 0))
    → All (λ (pin : SeatPin). pin.handle < length desk.words) pins
    → All (λ (pin : SeatPin). pin.version ≡ get_or desk.versions pin.handle 0) pins
    → ArePinned (with_word desk h w) (with_pins seats seat pins)
pinned_word desk seats seat h w pins p within below here hot few counts known versions = record {
  count = length-set seats seat _ ∙ p.count;
  few = All-set (λ (x : SeatState). length x.pins ≤ 16) seats seat new few p.few;
  counted = λ k lt. counted k (let l = length-set desk.words h w in omega (arith, l, lt));
  known = All-set (λ (x : SeatState).
      All (λ (pin : SeatPin). pin.handle < length (set desk.words h w)) x.pins) seats seat new
      (longer pins known) (all_longer seats p.known);
  here = λ k lt some.
      held k (let l = length-set desk.words h w in omega (arith, l, lt)) some (ℕ_discrete k h);
  versions = All-set (λ (x : SeatState).
      All (λ (pin : SeatPin). pin.version ≡ get_or desk.versions pin.handle 0) x.pins) seats seat new
      versions p.versions;
}
  where
    new : SeatState
    new = record (seat_at seats seat) { pins = pins }

    longer : (xs : List SeatPin) → All (λ (pin : SeatPin). pin.handle < length desk.words) xs
        → All (λ (pin : SeatPin). pin.handle < length (set desk.words h w)) xs
    longer xs all = λ i d lt. let l = length-set desk.words h w in
        let n = all i d lt in omega (arith, l, n)

    all_longer : (xs : List SeatState)
        → All (λ (x : SeatState). All (λ (pin : SeatPin). pin.handle < length desk.words) x.pins) xs
        → All (λ (x : SeatState). All (λ (pin : SeatPin). pin.handle < length (set desk.words h w)) x.pins) xs
    all_longer xs all = λ i d lt. longer (get_or xs i d).pins (all i d lt)

    counted : (k : ℕ) → k < length desk.words → pins_of (get_or (set desk.words h w) k 0)
        ≡ all_pins_on k (with_pins seats seat pins)
    counted k lt = let a = seats_on seats seat k pins within in
        let b = counts k lt in let c = p.counted k lt in omega (arith, a, b, c)

    held : (k : ℕ) → k < length desk.words → 1 ≤ pins_of (get_or (set desk.words h w) k 0)
        → Dec (k ≡ h)
        → (state_of (get_or (set desk.words h w) k 0) ≡ word.Here)
        × (hot_of (get_or (set desk.words h w) k 0) ≡ true)
    held k lt some (yes e) =
        let is : get_or (set desk.words h w) k 0 ≡ w =
        ap (λ (i : ℕ). get_or (set desk.words h w) i 0) e
        ∙ get_or-set_same desk.words h w 0 below in
        (ap state_of is ∙ here, ap hot_of is ∙ hot (subst (λ (n : ℕ). 1 ≤ pins_of n) is some))
    held k lt some (no n) =
        let is : get_or (set desk.words h w) k 0 ≡ get_or desk.words k 0 =
        get_or-set_other desk.words h k w 0 n in
        let old = p.here k lt (subst (λ (x : ℕ). 1 ≤ pins_of x) is some) in
        (ap state_of is ∙ old.0, ap hot_of is ∙ old.1)

other : (h k : ℕ) → (h ≡ k → ⊥) → nat_eq h k ≡ false
other h k apart = elim (cases_Bool (nat_eq h k)) [
  | inl same ↦ absurd (apart (eqb-true h k same))
  | inr differs ↦ differs
]

-- a word of 53 bits stays one with one pin more
wider : (old new : ℕ) → old < 2 ^ 53 → TakesPin old new → new < 2 ^ 53
wider old new below takes =
    let number = takes.number in let place = takes.place in omega (arith, below, number, place)

-- ---- the world with one pin more, and with one less
pub pin_sound : (desk : Words) (far : FarState) (seats : List SeatState) (s : Shown)
    (seat h v w : ℕ) → IsKnown desk far s → ArePinned desk seats → seat < 64
    → h < length desk.words → state_of (word_at desk h) ≡ word.Here
    → pins_of (word_at desk h) < 1023 → length (pins_of_seat seats seat) < 16
    → v ≡ get_or desk.versions h 0 → TakesPin (word_at desk h) w
    → IsKnown (with_word desk h w) far (after (Looked h w) s)
    × ArePinned (with_word desk h w)
    (with_pins seats seat (pins_of_seat seats seat ++ record { handle = h; version = v } ∷ []))
pin_sound desk far seats s seat h v w known p within below here room few told takes = (
  known_word desk far s h w known below
      (other_fits (object_at s h) (word_at desk h) w (known.shows.fit h below) here wide takes.len
      takes.place (takes.state ∙ here))
      (still_packed s (word_at desk h) w (object_at s h) here (known.packed h below)),
  pinned_word desk seats seat h w (pins ++ pin ∷ []) p (omega (arith, within, p.count)) below
      (takes.state ∙ here) (λ some. takes.hot) (let n = length_push pins pin in omega (arith, n, few))
      (λ k lt. counts k lt (ℕ_discrete k h))
      (All-append (λ (x : SeatPin). x.handle < length desk.words) pins (pin ∷ [])
      (All-get_or (λ (x : SeatState). All (λ (y : SeatPin). y.handle < length desk.words) x.pins) seats seat
      idle_seat (omega (arith, within, p.count)) p.known)
      (one (λ (x : SeatPin). x.handle < length desk.words) below))
      (All-append (λ (x : SeatPin). x.version ≡ get_or desk.versions x.handle 0) pins (pin ∷ [])
      (All-get_or (λ (x : SeatState). All (λ (y : SeatPin). y.version ≡ get_or desk.versions y.handle 0) x.pins)
      seats seat idle_seat (omega (arith, within, p.count)) p.versions)
      (one (λ (x : SeatPin). x.version ≡ get_or desk.versions x.handle 0) told)),
)
  where
    pins : List SeatPin
    pins = pins_of_seat seats seat

    pin : SeatPin
    pin = record { handle = h; version = v }

    wide : w < 2 ^ 53
    wide = wider (word_at desk h) w (below_here (object_at s h) (word_at desk h) (known.shows.fit h below) here)
        takes

    one : (P : SeatPin → Type 0) → P pin → All P (pin ∷ [])
    one P is = All-cons P pin [] is (λ i d lt. absurd (omega (arith, lt)))

    counts : (k : ℕ) → k < length desk.words → Dec (k ≡ h)
        → pins_among k (pins ++ pin ∷ []) + pins_of (word_at desk k)
        ≡ pins_among k pins + pins_of (get_or (set desk.words h w) k 0)
    counts k lt (yes e) =
        let more = more_on pins pin k in
        let one : one_pin k pin ≡ 1 = ap (λ (b : Bool). if b then 1 else 0) (eq-eqb h k (sym e)) in
        let old : pins_of (word_at desk k) ≡ pins_of (word_at desk h) = ap (λ (i : ℕ). pins_of (word_at desk i)) e in
        let new : pins_of (get_or (set desk.words h w) k 0) ≡ pins_of w =
        ap pins_of (ap (λ (i : ℕ). get_or (set desk.words h w) i 0) e
        ∙ get_or-set_same desk.words h w 0 below) in
        let pins_more = takes.pins in
        omega (arith, more, one, old, new, pins_more)
    counts k lt (no n) =
        let more = more_on pins pin k in
        let none : one_pin k pin ≡ 0 = ap (λ (b : Bool). if b then 1 else 0)
        (other h k (λ e. n (sym e))) in
        let same : pins_of (get_or (set desk.words h w) k 0) ≡ pins_of (word_at desk k) =
        ap pins_of (get_or-set_other desk.words h k w 0 n) in
        omega (arith, more, none, same)

pub unpin_sound : (desk : Words) (far : FarState) (seats : List SeatState) (s : Shown)
    (seat at h w : ℕ) (pin : SeatPin) → IsKnown desk far s → ArePinned desk seats → seat < 64
    → slice_get (pins_of_seat seats seat) at ≡ Some pin → pin.handle ≡ h → h < length desk.words
    → state_of (word_at desk h) ≡ word.Here → GivesPin (word_at desk h) w
    → IsKnown (with_word desk h w) far (after (Looked h w) s)
    × ArePinned (with_word desk h w) (with_pins seats seat (remove (pins_of_seat seats seat) at))
unpin_sound desk far seats s seat at h w pin known p within there on below here gives = (
  known_word desk far s h w known below
      (other_fits (object_at s h) (word_at desk h) w (known.shows.fit h below) here (let old =
      below_here (object_at s h) (word_at desk h) (known.shows.fit h below) here in
      let number = gives.number in omega (arith, old, number)) gives.len
      gives.place (gives.state ∙ here))
      (still_packed s (word_at desk h) w (object_at s h) here (known.packed h below)),
  pinned_word desk seats seat h w (remove pins at) p inside below (gives.state ∙ here) hot
      (let n = length-remove pins at lt in let few = few in omega (arith, n, few))
      (λ k below. counts k (ℕ_discrete k h))
      (all_but (λ (x : SeatPin). x.handle < length desk.words) pins at lt
      (All-get_or (λ (x : SeatState). All (λ (y : SeatPin). y.handle < length desk.words) x.pins) seats seat
      idle_seat inside p.known))
      (all_but (λ (x : SeatPin). x.version ≡ get_or desk.versions x.handle 0) pins at lt
      (All-get_or (λ (x : SeatState). All (λ (y : SeatPin). y.version ≡ get_or desk.versions y.handle 0) x.pins)
      seats seat idle_seat inside p.versions)),
)
  where
    pins : List SeatPin
    pins = pins_of_seat seats seat

    inside : seat < length seats
    inside = omega (arith, within, p.count)

    lt : at < length pins
    lt = slice_get_within pins at pin there

    few : length pins ≤ 16
    few = All-get_or (λ (x : SeatState). length x.pins ≤ 16) seats seat idle_seat inside p.few

    hot : 1 ≤ pins_of w → hot_of w ≡ true
    hot some = gives.hot ∙ (p.here h below (let e = gives.pins in omega (arith, e, some))).1

    counts : (k : ℕ) → Dec (k ≡ h)
        → pins_among k (remove pins at) + pins_of (word_at desk k)
        ≡ pins_among k pins + pins_of (get_or (set desk.words h w) k 0)
    counts k (yes e) =
        let less = less_on pins at k pin there in
        let one : one_pin k pin ≡ 1 = ap (λ (b : Bool). if b then 1 else 0) (eq-eqb pin.handle k (on ∙ sym e)) in
        let old : pins_of (word_at desk k) ≡ pins_of (word_at desk h) = ap (λ (i : ℕ). pins_of (word_at desk i)) e in
        let new : pins_of (get_or (set desk.words h w) k 0) ≡ pins_of w =
        ap pins_of (ap (λ (i : ℕ). get_or (set desk.words h w) i 0) e
        ∙ get_or-set_same desk.words h w 0 below) in
        let pins_less = gives.pins in
        omega (arith, less, one, old, new, pins_less)
    counts k (no n) =
        let less = less_on pins at k pin there in
        let none : one_pin k pin ≡ 0 = ap (λ (b : Bool). if b then 1 else 0)
        (other pin.handle k (λ e. n (sym e ∙ on))) in
        let same : pins_of (get_or (set desk.words h w) k 0) ≡ pins_of (word_at desk k) =
        ap pins_of (get_or-set_other desk.words h k w 0 n) in
        omega (arith, less, none, same)

-- an object on which a seat has a pin has one in its word
pub pin_counts : (desk : Words) (seats : List SeatState) (seat at h : ℕ) → ArePinned desk seats
    → seat < 64 → IsNewestOf (pins_of_seat seats seat) h at → h < length desk.words
    → 1 ≤ pins_of (word_at desk h)
pin_counts desk seats seat at h p within newest below =
    let pins = pins_of_seat seats seat in
    let all = seats_on seats seat h [] (omega (arith, within, p.count)) in
    let less = less_on pins at h newest.pin newest.there in
    let one : one_pin h newest.pin ≡ 1 =
    ap (λ (b : Bool). if b then 1 else 0) (eq-eqb newest.pin.handle h newest.on) in
    let counted = p.counted h below in
    omega (arith, all, less, one, counted)

-- an object on which a seat has any pin has one in its word
any_counts : (desk : Words) (seats : List SeatState) (seat at : ℕ) (pin : SeatPin)
    → ArePinned desk seats → seat < length seats → at < length (pins_of_seat seats seat)
    → get_or (pins_of_seat seats seat) at pin ≡ pin
    → 1 ≤ pins_of (word_at desk pin.handle)
any_counts desk seats seat at pin p within lt there =
    let pins = pins_of_seat seats seat in
    let h = pin.handle in
    let all = seats_on seats seat h [] within in
    let less = sum_by-remove (one_pin h) pins at pin lt in
    let one : one_pin h (get_or pins at pin) ≡ 1 =
    ap (one_pin h) there ∙ ap (λ (b : Bool). if b then 1 else 0) (eq-eqb h h refl) in
    let below = All-get_or (λ (y : SeatPin). y.handle < length desk.words) pins at pin lt
    (All-get_or (λ (x : SeatState). All (λ (y : SeatPin). y.handle < length desk.words) x.pins) seats
    seat idle_seat within p.known) in
    let counted = p.counted h (subst (λ (y : SeatPin). y.handle < length desk.words) there below) in
    omega (arith, all, less, one, counted)

-- The pins stay right where objects with pins keep their words and versions, and others get no pin.
pub pinned_still : (x y : Words) (seats : List SeatState) → ArePinned x seats
    → length y.words ≡ length x.words
    → ((k : ℕ) → k < length x.words → 1 ≤ pins_of (word_at x k)
    → (word_at y k ≡ word_at x k) × (get_or y.versions k 0 ≡ get_or x.versions k 0))
    → ((k : ℕ) → k < length x.words → pins_of (word_at x k) ≡ 0 → pins_of (word_at y k) ≡ 0)
    → ArePinned y seats
pinned_still x y seats p same kept none = record {
  count = p.count;
  few = p.few;
  counted = λ k below. let lt = shorter k below in by k lt (cases_lt 0 (pins_of (word_at x k)));
  known = λ i d lt. λ j e below. let n = p.known i d lt j e below in omega (arith, n, same);
  here = λ k below some. let lt = shorter k below in held k lt some (cases_lt 0 (pins_of (word_at x k)));
  versions = λ i d lt. λ j e below. version i d lt j e below;
}
  where
    shorter : (k : ℕ) → k < length y.words → k < length x.words
    shorter k below = omega (arith, below, same)

    by : (k : ℕ) → k < length x.words
        → (0 < pins_of (word_at x k)) ⊎ (pins_of (word_at x k) ≤ 0)
        → pins_of (word_at y k) ≡ all_pins_on k seats
    by k lt (inl some) = ap pins_of (kept k lt some).0 ∙ p.counted k lt
    by k lt (inr zero) = let old : pins_of (word_at x k) ≡ 0 = omega (arith, zero) in
        none k lt old ∙ sym old ∙ p.counted k lt

    held : (k : ℕ) → k < length x.words → 1 ≤ pins_of (word_at y k)
        → (0 < pins_of (word_at x k)) ⊎ (pins_of (word_at x k) ≤ 0)
        → (state_of (word_at y k) ≡ word.Here) × (hot_of (word_at y k) ≡ true)
    held k lt some (inl old) = let e = (kept k lt old).0 in let h = p.here k lt old in
        (ap state_of e ∙ h.0, ap hot_of e ∙ h.1)
    held k lt some (inr zero) =
        absurd (let z = none k lt (omega (arith, zero)) in omega (arith, z, some))

    version : (i : ℕ) (d : SeatState) → i < length seats → (j : ℕ) (e : SeatPin)
        → j < length (get_or seats i d).pins
        → (get_or (get_or seats i d).pins j e).version
        ≡ get_or y.versions (get_or (get_or seats i d).pins j e).handle 0
    version i d lt j e below =
        let pin = get_or (get_or seats i d).pins j e in
        let seat : get_or seats i d ≡ get_or seats i idle_seat = get_or_default seats i d idle_seat lt in
        let pins : (get_or seats i d).pins ≡ pins_of_seat seats i = ap (λ (z : SeatState). z.pins) seat in
        let inside : j < length (pins_of_seat seats i) = subst (λ (l : List SeatPin). j < length l) pins below in
        let there : get_or (pins_of_seat seats i) j pin ≡ pin =
        get_or_default (pins_of_seat seats i) j pin e inside
        ∙ ap (λ (l : List SeatPin). get_or l j e) (sym pins) in
        let some = any_counts x seats i j pin p lt inside there in
        let known = p.known i d lt j e below in
        p.versions i d lt j e below ∙ sym (kept pin.handle known some).1
