-- Every span that is not loose has an object that a seat has pinned. So where no run of frames is
-- free that a span of some class fits, there are loose spans for all the frames but those for pins.
use Rattle.std.proofs.Common.{◌≡◌, ◌≢◌, ◌⊎◌, ℕ, suc, ◌+◌, ◌*◌, ◌<◌, ◌≤◌, max, Bool, true, false}
use Rattle.std.proofs.Common.{◌&&◌, ◌||◌}
use Rattle.std.proofs.Common.{List, [], ◌∷◌, ◌++◌, length, get_or, Option, None, Some, refl, sym}
use Rattle.std.proofs.Common.{ap, ◌∙◌, subst, arith, inl, inr, nat_eq, not, eq-eqb, ne_eqb}
use Rattle.std.proofs.Common.{if◌then◌else◌}
use Rattle.std.specs.List.{Contains, filter, list_all, list_any, range_with_len, slice_index_or}
use Rattle.std.specs.List.{sum_by}
use Rattle.std.proofs.lemmas.Bool.{cases_Bool, cases_eq, cases_lt, true≢false, or_left, or_right}
use Rattle.std.proofs.lemmas.List.{get_or_default, get_or_past, length-append}
use Rattle.std.proofs.lemmas.List.Folds.{list_any-append, list_any_at}
use Rattle.std.proofs.lemmas.List.FromFn.{get_or-range_with_len, length-range_with_len}
use Rattle.std.proofs.lemmas.List.Sums.{sum_by-cons}
use Rattle.std.proofs.lemmas.Option.{slice_get_within}
use Rattle.cb_class.specs.declared.class.Class.{Class}
use Rattle.cb_class.specs.Class.{IsClass, pages_of}
use Rattle.cb_class.proofs.Laws.{pages_known, pages_some}
use Rattle.cb_frame.specs.Runs.{least_run}
use Rattle.cb_ptr.specs.declared.word.State.{State}
use Rattle.cb_ptr.specs.declared.word.State.TheVariants as word
use Rattle.cb_ptr.specs.Word.{state_of, pins_of}
use Rattle.cb_span.specs.declared.temp.Temp.{Temp}
use Rattle.cb_span.specs.declared.temp.Temp.TheVariants.{Hot, Cold}
use Rattle.cb_span.specs.Contents.{Contents}
use Rattle.cb_span.specs.Places.{slot_place}
use Rattle.cb_world.specs.declared.object.Object.{Object}
use Rattle.cb_world.specs.declared.object.Object.TheVariants as is
use Rattle.cb_world.specs.declared.seats.SeatPin.{SeatPin}
use Rattle.cb_world.specs.declared.shown.Shown.{Shown}
use Rattle.cb_world.specs.FarState.{FarState, handle_in, pages_at, pages_if, span_in, resident}
use Rattle.cb_world.specs.LocalSound.{LiesAt, LocalSound}
use Rattle.cb_world.specs.OpenWrites.{AreOpen, IsClaimedNow, IsLeavingNow}
use Rattle.cb_world.specs.Placed.{leaving_frames}
use Rattle.cb_world.specs.Plain.{Words}
use Rattle.cb_world.specs.Seats.{OpenWriteState, SeatState, all_pins_on, claims_of_seat, pins_among}
use Rattle.cb_world.specs.Shown.{Fits, never, object_at}
use Rattle.cb_world.specs.World.{ArePinned, IsKnown, word_at}
use Rattle.cb_world.proofs.Laws.{one_slot}
use Rattle.cb_evict.specs.Candidates.{candidates, has_temp, is_among, may_leave, frames_with}
use Rattle.cb_evict.specs.Candidates.{same_temp}
use Rattle.cb_evict.specs.EvictStep.{is_here, is_loose, is_slot_loose, loose_frames}
use Rattle.cb_evict.specs.Lengths.{count_of, loose_of, most_loose}
use Rattle.cb_evict.specs.Loading.{AreOfLength}
use Rattle.cb_evict.proofs.Laws.{loose_span, most_alike, named_at, names_span}
use Rattle.cb_lanes.proofs.FewPins.{pins_in}
use Rattle.cb_lanes.proofs.FullFrames.{all_frames, few_frames, few_stand, spans_below}
use Rattle.cb_lanes.proofs.Lists.{one_if}

-- ---- no word is Moving

-- no seat has an open write
abbrev pub NoClaims : List SeatState → Type 0
NoClaims seats = (seat : ℕ) → claims_of_seat seats seat ≡ []

pub never_moving : (x : Words) (far : FarState) (seats : List SeatState) (h : ℕ)
    → AreOpen x far seats
    → NoClaims seats → far.leaving ≡ None → h < length x.words
    → state_of (word_at x h) ≡ word.Moving → ⊥
never_moving x far seats h are none idle below moves = by (are.moving h below moves)
  where
    by : IsClaimedNow seats h ⊎ IsLeavingNow far h → ⊥
    by (inl (seat, at, c, there, on)) =
        let few = slice_get_within (claims_of_seat seats seat) at c there in
        let zero_ = ap (λ (cs : List OpenWriteState). length cs) (none seat) in
        omega (arith, few, zero_)
    by (inr (batch, there, leaves)) = let e : None ≡ Some batch = sym idle ∙ there in cc

-- ---- the frame in which an object lies

-- the frame whose span has the object, where there is one
abbrev pub HasFrame : FarState → ℕ → Type 0
HasFrame far h = (f : ℕ) × ((g slot : ℕ) → resident far.spans g slot ≡ Some h → g ≡ f)

-- a slot that names an object, which lies there
record IsResident (s : Shown) (h : ℕ) : Type 0 where
  len : ℕ
  place : ℕ
  lies : LiesAt (object_at s h) len place

resident_lies : (s : Shown) (far : FarState) (f slot h : ℕ) → LocalSound s far
    → resident far.spans f slot ≡ Some h → IsResident s h
resident_lies s far f slot h sound r =
    let p = names_span far.spans f h (slot, r) in
    let x = sound.placed.named f slot h p.0 p.1 (named_at far.spans f slot h p.0 p.1 r) in
    record { len = x.len; place = slot_place p.0.class f slot; lies = x.lies }

pub frame_of : (s : Shown) (far : FarState) → LocalSound s far → (h : ℕ) → HasFrame far h
frame_of s far sound h = by (object_at s h) refl
  where
    placed : (len place : ℕ) → LiesAt (object_at s h) len place → HasFrame far h
    placed len place lies =
        let c = sound.placed.placed h len place lies in (
          c.frame,
          λ g slot r.
              let p = names_span far.spans g h (slot, r) in
              (one_slot far s h len place g slot p.0 sound lies c p.1
              (named_at far.spans g slot h p.0 p.1 r)).0,
        )

    nowhere : ((len place : ℕ) → LiesAt (object_at s h) len place → ⊥) → HasFrame far h
    nowhere off = (
      0,
      λ g slot r. absurd (let x = resident_lies s far g slot h sound r in
          off x.len x.place x.lies),
    )

    by : (o : Object) → object_at s h ≡ o → HasFrame far h
    by (is.Empty v) e = nowhere (λ len place l. subst (λ (q : Object). LiesAt q len place) e l)
    by (is.Far n v words) e =
        nowhere (λ len place l. subst (λ (q : Object). LiesAt q len place) e l)
    by (is.Here n p) e = placed n p (subst (λ (q : Object). LiesAt q n p) (sym e) (refl, refl))
    by (is.Claimed n p v words) e =
        placed n p (subst (λ (q : Object). LiesAt q n p) (sym e) (refl, refl))

-- ---- the frames of all pins

module _ (s : Shown) (far : FarState) (frame : (h : ℕ) → HasFrame far h) where
  abbrev pub pin_frames : List SeatPin → List ℕ
  pin_frames [] = []
  pin_frames (pin ∷ pins) = (frame pin.handle).0 ∷ pin_frames pins

  abbrev pub seat_frames : List SeatState → List ℕ
  seat_frames [] = []
  seat_frames (seat ∷ seats) = pin_frames seat.pins ++ seat_frames seats

  pin_count : (pins : List SeatPin) → length (pin_frames pins) ≡ length pins
  pin_count [] = refl
  pin_count (pin ∷ pins) = ap suc (pin_count pins)

  seat_count : (seats : List SeatState)
      → length (seat_frames seats) ≡ sum_by (λ seat. length seat.pins) seats
  seat_count [] = refl
  seat_count (seat ∷ seats) =
      let both = length-append (pin_frames seat.pins) (seat_frames seats) in
      let one = pin_count seat.pins in let more = seat_count seats in
      let all = sum_by-cons pins_in seat seats in
      omega (arith, both, one, more, all)

  pin_there : (f slot h : ℕ) (pins : List SeatPin) → resident far.spans f slot ≡ Some h
      → 1 ≤ pins_among h pins → list_any (nat_eq f) (pin_frames pins) ≡ true
  pin_there f slot h [] r some = absurd (omega (arith, some))
  pin_there f slot h (pin ∷ pins) r some =
      by (pin_there f slot h pins r) (cases_eq pin.handle h)
    where
      here : ℕ → Bool
      here g = nat_eq f g

      by : (1 ≤ pins_among h pins → list_any (nat_eq f) (pin_frames pins) ≡ true)
          → (pin.handle ≡ h) ⊎ (pin.handle ≢ h)
          → list_any (nat_eq f) (pin_frames (pin ∷ pins)) ≡ true
      by later (inl e) = or_left (here (frame pin.handle).0) (list_any (nat_eq f) (pin_frames pins))
          (eq-eqb f (frame pin.handle).0 ((frame pin.handle).1 f slot (r ∙ ap Some (sym e))))
      by later (inr off) = or_right (here (frame pin.handle).0)
          (list_any (nat_eq f) (pin_frames pins))
          (later (let all = sum_by-cons (λ (p : SeatPin). one_if (nat_eq p.handle h)) pin pins in
          let none : one_if (nat_eq pin.handle h) ≡ 0 = ap one_if (ne_eqb pin.handle h off) in
          omega (arith, all, none, some)))

  seat_there : (f slot h : ℕ) (seats : List SeatState) → resident far.spans f slot ≡ Some h
      → 1 ≤ all_pins_on h seats → list_any (nat_eq f) (seat_frames seats) ≡ true
  seat_there f slot h [] r some = absurd (omega (arith, some))
  seat_there f slot h (seat ∷ seats) r some =
      list_any-append (nat_eq f) (pin_frames seat.pins) (seat_frames seats)
      ∙ by (seat_there f slot h seats r) (cases_lt 0 (pins_among h seat.pins))
    where
      by : (1 ≤ all_pins_on h seats → list_any (nat_eq f) (seat_frames seats) ≡ true)
          → (0 < pins_among h seat.pins) ⊎ (pins_among h seat.pins ≤ 0)
          → (list_any (nat_eq f) (pin_frames seat.pins) || list_any (nat_eq f)
          (seat_frames seats)) ≡ true
      by later (inl own) = or_left (list_any (nat_eq f) (pin_frames seat.pins))
          (list_any (nat_eq f) (seat_frames seats))
          (pin_there f slot h seat.pins r (omega (arith, own)))
      by later (inr none) = or_right (list_any (nat_eq f) (pin_frames seat.pins))
          (list_any (nat_eq f) (seat_frames seats))
          (later (let all = sum_by-cons (λ (x : SeatState). pins_among h x.pins) seat seats in
          omega (arith, all, none, some)))

-- ---- a span that is not loose

-- one of the slots names an object that is pinned or claimed
record HasBusy (x : Words) (slots : List (Option ℕ)) : Type 0 where
  slot : ℕ
  handle : ℕ
  at : slice_index_or slots slot None ≡ Some handle
  busy : is_slot_loose x (Some handle) ≡ false

has_busy : (x : Words) (slots : List (Option ℕ)) → list_all (is_slot_loose x) slots ≡ false
    → HasBusy x slots
has_busy x [] e = absurd (true≢false e)
has_busy x (None ∷ slots) e = let b = has_busy x slots e in
    record { slot = suc b.slot; handle = b.handle; at = b.at; busy = b.busy }
has_busy x (Some h ∷ slots) e = by (has_busy x slots) (cases_Bool (is_slot_loose x (Some h)))
  where
    by : (list_all (is_slot_loose x) slots ≡ false → HasBusy x slots)
        → (is_slot_loose x (Some h) ≡ true) ⊎ (is_slot_loose x (Some h) ≡ false)
        → HasBusy x (Some h ∷ slots)
    by later (inl loose) =
        let b = later (sym (ap (λ (c : Bool). c && list_all (is_slot_loose x) slots) loose) ∙ e) in
        record { slot = suc b.slot; handle = b.handle; at = b.at; busy = b.busy }
    by later (inr busy) = record { slot = 0; handle = h; at = refl; busy = busy }

-- an object that lies in local memory is here where its word is not Moving
lies_here : (o : Object) (w len place : ℕ) → Fits o w → LiesAt o len place
    → (state_of w ≡ word.Moving → ⊥) → state_of w ≡ word.Here
lies_here (is.Empty v) w len place fit lies still = absurd lies
lies_here (is.Far n v words) w len place fit lies still = absurd lies
lies_here (is.Here n p) w len place fit lies still = elim fit.3 [
  | inl here ↦ here
  | inr moving ↦ absurd (still moving)
]
lies_here (is.Claimed n p v words) w len place fit lies still = absurd (still fit.4)

never_lies : (o : Object) (len place : ℕ) → LiesAt o len place → o ≡ never → ⊥
never_lies o len place lies e = subst (λ (q : Object). LiesAt q len place) e lies

lies_within : (s : Shown) (h : ℕ) → IsResident s h → h < length s.objects
lies_within s h r = elim (cases_lt h (length s.objects)) [
  | inl within ↦ within
  | inr past ↦ absurd (never_lies (object_at s h) r.len r.place r.lies
      (get_or_past s.objects h never past))
]

-- so one of its objects has pins
busy_pinned : (x : Words) (h : ℕ) → state_of (word_at x h) ≡ word.Here
    → is_slot_loose x (Some h) ≡ false → 1 ≤ pins_of (word_at x h)
busy_pinned x h here busy = by (cases_eq (pins_of (word_at x h)) 0)
  where
    by : (pins_of (word_at x h) ≡ 0) ⊎ (pins_of (word_at x h) ≢ 0) → 1 ≤ pins_of (word_at x h)
    by (inl none) = absurd (true≢false (sym
        (ap (λ (q : State). is_here q && nat_eq (pins_of (word_at x h)) 0) here
        ∙ eq-eqb (pins_of (word_at x h)) 0 none) ∙ busy))
    by (inr some) = omega (arith, some)

-- ---- every frame holds a loose span, or one with a pinned object

any_filter : (p : ℕ → Bool) (xs : List ℕ) (f : ℕ) → p f ≡ true → list_any (nat_eq f) xs ≡ true
    → list_any (nat_eq f) (filter p xs) ≡ true
any_filter p [] f pass there = there
any_filter p (x ∷ xs) f pass there =
    by (any_filter p xs f pass) (cases_eq f x) (cases_Bool (p x))
  where
    kept : p x ≡ true → filter p (x ∷ xs) ≡ x ∷ filter p xs
    kept e = ap (λ (b : Bool). if b then x ∷ filter p xs else filter p xs) e

    dropped : p x ≡ false → filter p (x ∷ xs) ≡ filter p xs
    dropped e = ap (λ (b : Bool). if b then x ∷ filter p xs else filter p xs) e

    later : f ≢ x → list_any (nat_eq f) xs ≡ true
    later off = sym (ap (λ (b : Bool). b || list_any (nat_eq f) xs) (ne_eqb f x off)) ∙ there

    by : (list_any (nat_eq f) xs ≡ true → list_any (nat_eq f) (filter p xs) ≡ true)
        → (f ≡ x) ⊎ (f ≢ x) → (p x ≡ true) ⊎ (p x ≡ false)
        → list_any (nat_eq f) (filter p (x ∷ xs)) ≡ true
    by more (inl e) (inr fails) = absurd (true≢false (sym pass ∙ ap p e ∙ fails))
    by more (inl e) (inl passes) = ap (list_any (nat_eq f)) (kept passes)
        ∙ or_left (nat_eq f x) (list_any (nat_eq f) (filter p xs)) (eq-eqb f x e)
    by more (inr off) (inl passes) = ap (list_any (nat_eq f)) (kept passes)
        ∙ or_right (nat_eq f x) (list_any (nat_eq f) (filter p xs)) (more (later off))
    by more (inr off) (inr fails) = ap (list_any (nat_eq f)) (dropped fails) ∙ more (later off)

in_range : (n f : ℕ) → f < n → list_any (nat_eq f) (range_with_len 0 n) ≡ true
in_range n f below = list_any_at (nat_eq f) (range_with_len 0 n) f 0
    (omega (arith, below, length-range_with_len 0 n))
    (eq-eqb f (get_or (range_with_len 0 n) f 0) (sym (get_or-range_with_len 0 n f 0 below
    ∙ (let e : 0 + f ≡ f = omega arith in e))))

same_one : (temp : Temp) → same_temp temp temp ≡ true
same_one Hot = refl
same_one Cold = refl

candidate : (far : FarState) (f : ℕ) (span : Contents) → far.leaving ≡ None → f < length far.spans
    → span_in far.spans f ≡ Some span → list_any (nat_eq f) (candidates far) ≡ true
candidate far f span idle below there =
    list_any-append (nat_eq f) (of Cold) (of Hot) ∙ by span.temp refl
  where
    of : Temp → List ℕ
    of temp = frames_with far.spans (leaving_frames far.leaving) temp

    passes : (temp : Temp) → span.temp ≡ temp
        → may_leave far.spans (leaving_frames far.leaving) temp f ≡ true
    passes temp e = (λ i. has_temp temp (there i) && not (is_among (leaving_frames (idle i)) f))
        ∙ ap (λ (t : Temp). same_temp temp t && true) e
        ∙ ap (λ (b : Bool). b && true) (same_one temp)

    has : (temp : Temp) → span.temp ≡ temp → list_any (nat_eq f) (of temp) ≡ true
    has temp e = any_filter (may_leave far.spans (leaving_frames far.leaving) temp)
        (range_with_len 0 (length far.spans)) f (passes temp e)
        (in_range (length far.spans) f below)

    by : (temp : Temp) → span.temp ≡ temp
        → (list_any (nat_eq f) (of Cold) || list_any (nat_eq f) (of Hot)) ≡ true
    by Cold e = or_left (list_any (nat_eq f) (of Cold)) (list_any (nat_eq f) (of Hot)) (has Cold e)
    by Hot e = or_right (list_any (nat_eq f) (of Cold)) (list_any (nat_eq f) (of Hot)) (has Hot e)

-- ---- the loose spans by their lengths
most_is : (spans : List (Option Contents)) (loose : List ℕ) → most_loose spans loose
    ≡ max (count_of spans 4 loose) (max (count_of spans 2 loose) (count_of spans 1 loose))
unfolding most_loose
most_is spans loose = refl

-- the span in the frame has 1, 2 or 4 pages
abbrev HasLength : List (Option Contents) → ℕ → Type 0
HasLength spans f =
    (pages_at spans f ≡ 1) ⊎ ((pages_at spans f ≡ 2) ⊎ (pages_at spans f ≡ 4))

count_first : (spans : List (Option Contents)) (p f : ℕ) (loose : List ℕ)
    → count_of spans p (f ∷ loose) ≡ one_if (nat_eq (pages_at spans f) p) + count_of spans p loose
count_first spans p f loose = by (nat_eq (pages_at spans f) p)
  where
    by : (b : Bool) → length (if b then f ∷ loose_of spans p loose else loose_of spans p loose)
        ≡ one_if b + count_of spans p loose
    by true = omega arith
    by false = omega arith

all_lengths : (spans : List (Option Contents)) (loose : List ℕ)
    → ((f : ℕ) → Contains loose f → HasLength spans f)
    → length loose ≤ count_of spans 4 loose + count_of spans 2 loose + count_of spans 1 loose
all_lengths spans [] long = omega arith
all_lengths spans (f ∷ loose) long = by (long f (0, omega arith, refl))
    (all_lengths spans loose (λ g c. long g (suc c.0, (let l = c.1 in omega (arith, l)), c.2)))
  where
    is : (p n : ℕ) → pages_at spans f ≡ n
        → one_if (nat_eq (pages_at spans f) p) ≡ one_if (nat_eq n p)
    is p n e = ap (λ (k : ℕ). one_if (nat_eq k p)) e

    by : HasLength spans f
        → length loose ≤ count_of spans 4 loose + count_of spans 2 loose + count_of spans 1 loose
        → length (f ∷ loose) ≤ count_of spans 4 (f ∷ loose) + count_of spans 2 (f ∷ loose)
        + count_of spans 1 (f ∷ loose)
    by (inl e) rest =
        let one = is 1 1 e in let two = is 2 1 e in let four = is 4 1 e in omega (
          arith,
          rest,
          one,
          two,
          four,
          count_first spans 4 f loose,
          count_first spans 2 f loose,
          count_first spans 1 f loose,
        )
    by (inr (inl e)) rest =
        let one = is 1 2 e in let two = is 2 2 e in let four = is 4 2 e in omega (
          arith,
          rest,
          one,
          two,
          four,
          count_first spans 4 f loose,
          count_first spans 2 f loose,
          count_first spans 1 f loose,
        )
    by (inr (inr e)) rest =
        let one = is 1 4 e in let two = is 2 4 e in let four = is 4 4 e in omega (
          arith,
          rest,
          one,
          two,
          four,
          count_first spans 4 f loose,
          count_first spans 2 f loose,
          count_first spans 1 f loose,
        )

-- of three lengths one has a third of them
third : (x : Words) (far : FarState) (s : Shown) → LocalSound s far
    → length (loose_frames x far) ≤ 3 * most_loose far.spans (loose_frames x far)
third x far s sound =
    let all = all_lengths far.spans (loose_frames x far) long in
    let most = most_is far.spans (loose_frames x far) in omega (arith, all, most)
  where
    long : (f : ℕ) → Contains (loose_frames x far) f → HasLength far.spans f
    long f c = let span = loose_span x far f c in
        subst (λ (p : ℕ). (p ≡ 1) ⊎ ((p ≡ 2) ⊎ (p ≡ 4))) (sym (ap pages_if span.1))
        (pages_known span.0.class (sound.frames.valid f span.0 span.1).in_table)

-- where each span has one page they are of one length
alike : (x : Words) (far : FarState)
    → ((f : ℕ) (span : Contents) → span_in far.spans f ≡ Some span → pages_of span.class ≡ 1)
    → most_loose far.spans (loose_frames x far) ≡ length (loose_frames x far)
alike x far narrow = most_alike far.spans (loose_frames x far) long
  where
    long : AreOfLength far.spans 1 (loose_frames x far)
    long k d below = let f = get_or (loose_frames x far) k d in
        let span = loose_span x far f
        (k, below, get_or_default (loose_frames x far) k f d below) in
        ap pages_if span.1 ∙ narrow f span.0 span.1

-- Where no seat has an open write and no batch is leaving
module _ (x : Words) (far : FarState) (s : Shown) (seats : List SeatState) (known : IsKnown x far s)
    (pinned : ArePinned x seats) (are : AreOpen x far seats) (none : NoClaims seats)
    (idle : far.leaving ≡ None) where
  abbrev frame : (h : ℕ) → HasFrame far h
  frame = frame_of s far known.sound.here

  abbrev zs : List ℕ
  zs = seat_frames s far frame seats

  still : (h : ℕ) → h < length x.words → state_of (word_at x h) ≡ word.Moving → ⊥
  still h below moves = never_moving x far seats h are none idle below moves

  busy : (f : ℕ) (span : Contents) → span_in far.spans f ≡ Some span → HasBusy x span.slots
      → list_any (nat_eq f) zs ≡ true
  busy f span at b =
      let r : resident far.spans f b.slot ≡ Some b.handle =
      ap (λ (o : Option Contents). handle_in o b.slot) at ∙ b.at in
      let lies = resident_lies s far f b.slot b.handle known.sound.here r in
      let below : b.handle < length x.words = let n = lies_within s b.handle lies in
      let count = known.shows.objects in omega (arith, n, count) in
      let here = lies_here (object_at s b.handle) (word_at x b.handle) lies.len lies.place
      (known.shows.fit b.handle below) lies.lies (still b.handle below) in
      let some = busy_pinned x b.handle here b.busy in
      seat_there s far frame f b.slot b.handle seats r
      (let counted = pinned.counted b.handle below in omega (arith, some, counted))

  held : (f : ℕ) (span : Contents) → span_in far.spans f ≡ Some span
      → list_any (nat_eq f) (loose_frames x far ++ zs) ≡ true
  held f span at = list_any-append (nat_eq f) (loose_frames x far) zs
      ∙ by (cases_Bool (is_loose x (Some span)))
    where
      below : f < length far.spans
      below = let frames = known.sound.here.frames in
          let within = frames.within f span at in
          let some = pages_some span.class (frames.valid f span at).in_table in
          omega (arith, within, some)

      by : (is_loose x (Some span) ≡ true) ⊎ (is_loose x (Some span) ≡ false)
          → (list_any (nat_eq f) (loose_frames x far) || list_any (nat_eq f) zs) ≡ true
      by (inl loose) = or_left (list_any (nat_eq f) (loose_frames x far)) (list_any (nat_eq f) zs)
          (any_filter (λ g. is_loose x (span_in far.spans g)) (candidates far) f
          (ap (is_loose x) at ∙ loose) (candidate far f span idle below at))
      by (inr off) = or_right (list_any (nat_eq f) (loose_frames x far)) (list_any (nat_eq f) zs)
          (busy f span at (has_busy x span.slots off))

  -- there are no more spans than loose ones and pins of all seats
  loose_or_pinned : (n : ℕ) → spans_below far.spans n
      ≤ length (loose_frames x far) + sum_by (λ seat. length seat.pins) seats
  loose_or_pinned n =
      let all = few_stand far.spans (loose_frames x far ++ zs) n held in
      let both = length-append (loose_frames x far) zs in
      let pins = seat_count s far frame seats in
      omega (arith, all, both, pins)

  -- where no run of frames is free that a span of some class fits
  pub frames_by_lengths : (class : Class) → IsClass class
      → least_run far.frames (pages_of class) ≡ None
      → length far.frames ≤ 21 * most_loose far.spans (loose_frames x far)
      + 7 * sum_by (λ seat. length seat.pins) seats + 3
  frames_by_lengths class in_table full =
      let frames = few_frames far known.sound.here.frames class in_table full in
      let spans = loose_or_pinned (length far.frames) in
      let most = third x far s known.sound.here in
      omega (arith, frames, spans, most)

  -- where no frame is free and each span has one page
  pub frames_narrow : ((f : ℕ) (span : Contents) → span_in far.spans f ≡ Some span
      → pages_of span.class ≡ 1) → least_run far.frames 1 ≡ None
      → length far.frames ≤ most_loose far.spans (loose_frames x far)
      + sum_by (λ seat. length seat.pins) seats
  frames_narrow narrow full =
      let frames = all_frames far known.sound.here.frames narrow full in
      let spans = loose_or_pinned (length far.frames) in
      let most = alike x far narrow in
      omega (arith, frames, spans, most)
