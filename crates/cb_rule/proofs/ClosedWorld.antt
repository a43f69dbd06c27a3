-- Where no seat holds the lock, the words of the table with the far state are a sound world, which
-- holds its newest entry of each object that no view claims.
use Rattle.std.proofs.Common.{◌≡◌, ℕ, zero, suc, ◌+◌, ◌*◌, ◌<◌, ◌≤◌, Bool, true, false, cond, List}
use Rattle.std.proofs.Common.{[], ◌∷◌, Option, None, Some, length, get_or, replicate, sym, refl, ap}
use Rattle.std.proofs.Common.{◌∙◌, subst, inl, inr, ⊎_elim, arith, true≢false}
use Rattle.std.specs.List.{All}
use Rattle.std.specs.Prelude.{slice_get}
use Rattle.std.proofs.lemmas.Bool.{cases_lt}
use Rattle.std.proofs.lemmas.List.{get_or-map, get_or_past, length-map, length-replicate}
use Rattle.std.proofs.lemmas.List.Elements.{All-replicate}
use Rattle.std.proofs.lemmas.List.Folds.{sum_by-replicate}
use mathlib.Core.Option.{Option as Maybe}
use Rattle.cb_types.specs.declared.config.Config.{Config}
use Rattle.cb_types.specs.Config.{IsAccepted}
use Rattle.cb_ptr.specs.declared.word.State.TheVariants as word
use Rattle.cb_ptr.specs.Word.{state_of, hot_of, pins_of}
use Rattle.cb_world.specs.declared.entry.Entry.{Entry}
use Rattle.cb_world.specs.declared.homes.Home.{Home}
use Rattle.cb_world.specs.declared.object.Object.{Object}
use Rattle.cb_world.specs.declared.object.Object.TheVariants as is
use Rattle.cb_world.specs.declared.seats.SeatPin.{SeatPin}
use Rattle.cb_world.specs.declared.shown.Shown.{Shown}
use Rattle.cb_world.specs.FarState.{FarState, handle_in}
use Rattle.cb_world.specs.Homes.{home_at}
use Rattle.cb_world.specs.LocalSound.{LiesAt}
use Rattle.cb_world.specs.Memory.{IsPacked, bytes_in, window, words_for}
use Rattle.cb_world.specs.Now.{Now, broken_home, is_gone, now, now_as}
use Rattle.cb_world.specs.Now.Now.{held, gone}
use Rattle.cb_world.specs.Orders.{KeepsOrder}
use Rattle.cb_world.specs.OpenWrites.{AreOpen, IsLeavingNow}
use Rattle.cb_world.specs.Packed.{IsFreedLater, IsPackedAs}
use Rattle.cb_world.specs.Plain.{Shows, word_at}
use Rattle.cb_world.specs.Seats.{SeatState, OpenWriteState, Holds, IsClaimAt, idle_seat, pins_among}
use Rattle.cb_world.specs.Shown.{Fits, IsHeld, never, object_at, version_at}
use Rattle.cb_world.specs.Sound.{Sound}
use Rattle.cb_world.specs.StillDesk.{window_length}
use Rattle.cb_world.specs.World.{ArePinned, IsKnown, IsSoundWorld, WorldState}
use Rattle.cb_world.proofs.Laws.{empty_value, window_at}
use Rattle.cb_rule.specs.declared.view.View.{View}
use Rattle.cb_rule.specs.AsShown.{as_shown}
use Rattle.cb_rule.specs.Closing.{AreAsKnown, desk_of}
use Rattle.cb_rule.specs.History.{Value, holding_words, newest, top}
use Rattle.cb_rule.specs.Lists.{total}
use Rattle.cb_rule.specs.Locking.{Stood}
use Rattle.cb_rule.specs.Promised.{HolderClaims}
use Rattle.cb_rule.specs.Rule.{RuleKept}
use Rattle.cb_rule.specs.Seats.{claims_on, pins_on}
use Rattle.cb_rule.specs.ShownWorld.{IsMovedByOne}
use Rattle.cb_rule.specs.Slot.{LockSlot}
use Rattle.cb_rule.specs.Stands.{IsCalm, IsClaimedBySeat, Stands}
use Rattle.cb_rule.specs.Words.{base, pointer, stamp, stamps}
use Rattle.cb_rule.proofs.FreedLater.{freed_later}
use Rattle.cb_rule.proofs.Opening.{same_each}
use Rattle.cb_rule.proofs.Promising.{claims_stand, moving_stands, pins_stand}
use Rattle.cb_rule.proofs.Showing.{shown_sound}

-- a window of a window
window_in : (ws : List ℕ) (b n p m : ℕ) → ((q : ℕ) → p ≤ q → q < p + m → q < n)
    → window (window ws b n) p m ≡ window ws (b + p) m
unfolding window
window_in ws b n p zero fits = refl
window_in ws b n p (suc m) fits =
    let head : get_or (window ws b n) p 0 ≡ get_or ws (b + p) 0 =
    window_at ws b n p (fits p (omega arith) (omega arith)) in
    let rest : window (window ws b n) (p + 1) m ≡ window ws (b + (p + 1)) m =
    window_in ws b n (p + 1) m (λ q low high. fits q (omega (arith, low)) (omega (arith, high))) in
    let same : b + (p + 1) ≡ (b + p) + 1 = omega arith in
    (λ i. head i ∷ rest i) ∙ ap (λ (j : ℕ). get_or ws (b + p) 0 ∷ window ws j m) same

-- an object that is not far has no home
abbrev is_far : Object → Bool
is_far (is.Empty v) = false
is_far (is.Far len v words) = true
is_far (is.Here len place) = false
is_far (is.Claimed len place v words) = false

not_gone : (s : Shown) (far : FarState) → Sound s far → (h : ℕ) → is_far (object_at s h) ≡ false
    → is_gone far h ≡ false
not_gone s far r h near = go (home_at far.homes h) refl
  where
    go : (home : Option Home) → home_at far.homes h ≡ home → broken_home far home ≡ false
    go None e = refl
    go (Some home) e = let one = r.away.sound in let there = one.away.home h home e in
        let rows = one.sets.worded home.set there.0 there.1 in
        let o = rows.1.holds home.position home.slot h there.2 in
        absurd (true≢false (ap is_far (sym o.away) ∙ near))

-- what the newest entry says of an object, where its set has lost too much or has not
abbrev pub value_now : Bool → ℕ → Value → Now
value_now lost n value = cond value.freed (empty_value n)
    (cond lost (gone n) (held n (bytes_in value.words value.len)))

has_words : (n k len : ℕ) (value : Value) (words : List ℕ) (lost : Bool) → n ≡ k
    → value ≡ holding_words len words
    → value_now lost n value ≡ cond lost (gone k) (held k (bytes_in words len))
has_words n k len value words lost a b i = value_now lost (a i) (b i)

none_as : (s : Shown) (h v : ℕ) (lost : Bool) → now_as s h lost (is.Empty v) ≡ empty_value v
none_as s h zero lost = refl
none_as s h (suc v) lost = refl

far_as : (s : Shown) (h len v : ℕ) (words : List ℕ) (lost : Bool)
    → now_as s h lost (is.Far len v words) ≡ cond lost (gone v) (held v (bytes_in words len))
far_as s h len v words true = refl
far_as s h len v words false = refl

-- ---- idle seats have no pin, no open write and not the lock
idle_each : (P : SeatState → Type 0) → P idle_seat → All P (replicate 64 idle_seat)
idle_each P p = All-replicate P 64 idle_seat p

no_pin : (P : SeatPin → Type 0) → All P []
no_pin P = λ k d lt. absurd (omega (arith, lt))

no_claim : (seat at : ℕ) (x : OpenWriteState) → IsClaimAt (replicate 64 idle_seat) seat at x → ⊥
no_claim seat at x there = let e : slice_get [] at ≡ Some x =
    ap (λ (s : SeatState). slice_get s.claims at) (sym (same_each 64 idle_seat seat)) ∙ there in cc

none_holds : (seat : ℕ) → Holds (replicate 64 idle_seat) seat → ⊥
none_holds seat has = true≢false (sym has
    ∙ ap (λ (s : SeatState). s.holds) (same_each 64 idle_seat seat))

module _ (c : Config) (ws : List ℕ) (views : List View) (known : Shown) (es : List Entry)
    (r : RuleKept c ws views known es) (far : FarState) (stood : Stood c known far) where
  abbrev t : Shown
  t = as_shown c ws known

  abbrev w : WorldState
  w = record { desk = desk_of c ws; far = far; seats = replicate 64 idle_seat }

  sound : Sound t far
  sound = shown_sound c ws views known es r far stood.sound

  wide : length (desk_of c ws).words ≡ c.handles
  wide = window_length ws 1 c.handles

  pointer_at : (h : ℕ) → h < c.handles → word_at (desk_of c ws) h ≡ pointer ws h
  pointer_at h l = window_at ws 1 c.handles h l

  hot_same : (h : ℕ) → h < length (desk_of c ws).words
      → get_or t.hots h false ≡ hot_of (word_at (desk_of c ws) h)
  hot_same h below = get_or-map hot_of (window ws 1 c.handles) h 0 false below

  shows : Shows (desk_of c ws) t
  shows = record {
    objects = r.sized.objects ∙ sym wide;
    versions = refl;
    hots = length-map (window ws 1 c.handles) hot_of;
    hot = λ h below hot. sym (hot_same h below) ∙ hot;
    memory = refl;
    fit = λ h below. let l = subst (λ (n : ℕ). h < n) wide below in
        subst (Fits (object_at known h)) (sym (pointer_at h l)) (r.fit h l);
  }

  -- the words of an object that lies there and that no one claims are those of its newest entry
  calm_words : (h len place : ℕ) → object_at known h ≡ is.Here len place
      → IsCalm c ws h (total (pins_on h) views) (total (claims_on h) views) (top es h)
      (newest es h) len place
      → window t.memory place (words_for len) ≡ (newest es h).words
  calm_words h len place q m = window_in ws (base c) (512 * c.frames) place (words_for len)
      (λ p low high. r.inside h len place p
      (subst (λ (o : Object). LiesAt o len place) (sym q) (refl, refl)) (low, high)) ∙ m.words

  packed_as : (h : ℕ) (o : Object) → object_at known h ≡ o
      → Stands c known.first ws h (total (pins_on h) views) (total (claims_on h) views)
      (top es h) (newest es h) (version_at known h) o
      → IsPackedAs t (pointer ws h) o
  packed_as h (is.Empty v) q k = tt
  packed_as h (is.Far len v words) q k = k.packed
  packed_as h (is.Claimed len place v words) q k = k.packed
  packed_as h (is.Here len place) q k = λ calm. ⊎_elim
      (λ (m : IsCalm c ws h (total (pins_on h) views) (total (claims_on h) views) (top es h)
      (newest es h) len place). subst (IsPacked len) (sym (calm_words h len place q m)) k.packed)
      (λ (m : IsClaimedBySeat ws h (total (pins_on h) views) (total (claims_on h) views)).
      absurd (let e = sym calm ∙ m.state in cc)) k.word

  freed_as : (h : ℕ) (o : Object)
      → Stands c known.first ws h (total (pins_on h) views) (total (claims_on h) views)
      (top es h) (newest es h) (version_at known h) o
      → IsFreedLater known.first o
  freed_as h (is.Empty v) k = freed_later known.first es h v r.history k.at k.has
  freed_as h (is.Far len v words) k = tt
  freed_as h (is.Here len place) k = tt
  freed_as h (is.Claimed len place v words) k = tt

  freed : (h : ℕ) → IsFreedLater known.first (object_at known h)
  freed h = ⊎_elim (λ (l : h < c.handles). freed_as h (object_at known h) (r.stand h l))
      (λ (past : c.handles ≤ h). subst (IsFreedLater known.first)
      (sym (get_or_past known.objects h never
      (let n = r.sized.objects in omega (arith, n, past)))) tt) (cases_lt h c.handles)

  pub shown_known : IsKnown (desk_of c ws) far t
  shown_known = record {
    sized = record {
      words = wide;
      versions = window_length ws (stamps c) c.handles;
      memory = window_length ws (base c) (512 * c.frames);
    };
    shows = shows;
    hots = hot_same;
    sound = sound;
    packed = λ h below. let l = subst (λ (n : ℕ). h < n) wide below in
        subst (λ (n : ℕ). IsPackedAs t n (object_at known h)) (sym (pointer_at h l))
        (packed_as h (object_at known h) refl (r.stand h l));
    freed = freed;
  }

  whole : (h : ℕ) (o : Object) → object_at known h ≡ o → is_far o ≡ false
      → is_gone far h ≡ false
  whole h o q near = not_gone known far stood.sound h (ap is_far q ∙ near)

  -- what the world holds of an object that no view claims is what the newest entry says
  pub now_shown : (h : ℕ) → h < c.handles → total (claims_on h) views ≡ 0
      → now t far h ≡ value_now (is_gone far h) (top es h) (newest es h)
  now_shown h l unclaimed = go (object_at known h) refl (r.stand h l)
    where
      here : (len place : ℕ) → object_at known h ≡ is.Here len place
          → newest es h ≡ holding_words len (newest es h).words
          → IsCalm c ws h (total (pins_on h) views) (total (claims_on h) views) (top es h)
          (newest es h) len place
          → now t far h ≡ value_now (is_gone far h) (top es h) (newest es h)
      here len place q has m =
          let version : version_at t h ≡ top es h =
          window_at ws (stamps c) c.handles h l ∙ m.stamped in
          let words = calm_words h len place q m in
          ap (now_as t h (is_gone far h)) q
          ∙ (λ i. held (version i) (bytes_in (words i) len))
          ∙ ap (λ (b : Bool). cond b (gone (top es h)) (held (top es h)
          (bytes_in (newest es h).words len))) (sym (whole h (is.Here len place) q refl))
          ∙ sym (has_words (top es h) (top es h) len (newest es h) (newest es h).words
          (is_gone far h) refl has)

      go : (o : Object) → object_at known h ≡ o
          → Stands c known.first ws h (total (pins_on h) views) (total (claims_on h) views)
          (top es h) (newest es h) (version_at known h) o
          → now t far h ≡ value_now (is_gone far h) (top es h) (newest es h)
      go (is.Empty v) q k = ap (now_as t h (is_gone far h)) q ∙ none_as t h v (is_gone far h)
          ∙ sym (λ i. value_now (is_gone far h) (k.at i) (k.has i))
      go (is.Far len v words) q k = ap (now_as t h (is_gone far h)) q
          ∙ far_as t h len v words (is_gone far h)
          ∙ sym (has_words (top es h) v len (newest es h) words (is_gone far h) k.kept.at
          k.kept.has)
      go (is.Claimed len place v words) q k = ap (now_as t h (is_gone far h)) q
          ∙ ap (λ (b : Bool). cond b (gone v) (held v (bytes_in words len)))
          (sym (whole h (is.Claimed len place v words) q refl))
          ∙ sym (has_words (top es h) v len (newest es h) words (is_gone far h) k.kept.at
          k.kept.has)
      go (is.Here len place) q k = ⊎_elim
          (λ (m : IsCalm c ws h (total (pins_on h) views) (total (claims_on h) views) (top es h)
          (newest es h) len place). here len place q k.held m)
          (λ (m : IsClaimedBySeat ws h (total (pins_on h) views) (total (claims_on h) views)).
          absurd (let one = m.one_claim in omega (arith, one, unclaimed))) k.word

  -- what is claimed in what is known stands in the leaving batch, and the reverse
  leaving_now : (h : ℕ) → HolderClaims views known h → IsLeavingNow far h
  leaving_now h o = let x = stood.sound.claimed h o.len o.place o.version o.words o.claimed in (
    x.batch,
    x.there,
    (
      x.slot.frame,
      x.slot.slot,
      x.leaves,
      ap (λ o. handle_in o x.slot.slot) x.slot.there ∙ x.slot.named,
    ),
  )

  claimed_now : (h : ℕ) → IsLeavingNow far h → (len place v : ℕ) × (words : List ℕ)
      × (object_at known h ≡ is.Claimed len place v words)
  claimed_now h (batch, there, (f, slot, leaves, named)) =
      let noted = stood.sound.noted batch there in let span = noted.held f leaves in
      let at = sym (ap (λ o. handle_in o slot) span.1) ∙ named in
      let n = noted.each f slot h span.0 leaves span.1 at in
      (_, _, n.version, n.words, n.claimed)

  -- so a word is Moving for one reason
  pub moved_by_one : (homes : List (Maybe LockSlot)) (h : ℕ) → h < c.handles
      → IsMovedByOne record { words = ws; homes = homes; views = views } far h
  moved_by_one homes h l = let m = moving_stands c ws views known es r h l in record {
    moves = λ moving. ⊎_elim (λ (one : total (claims_on h) views ≡ 1). inl one)
        (λ (o : HolderClaims views known h). inr (leaving_now h o)) (m.moves moving);
    claimed = (claims_stand c ws views known es r h l).moving;
    leaves = λ leaving. let x = claimed_now h leaving in let y = m.claimed x.0 x.1 x.2 x.3 x.4 in
        (y.0, y.1);
  }

  -- a version word is as known of an object that no one else may change
  held_version : (h : ℕ) (o : Object)
      → Stands c known.first ws h (total (pins_on h) views) (total (claims_on h) views)
      (top es h) (newest es h) (version_at known h) o
      → IsHeld o → stamp c ws h ≡ version_at known h
  held_version h (is.Empty v) k own = k.stamped
  held_version h (is.Far len v words) k own = k.kept.stamped
  held_version h (is.Here len place) k own = absurd own
  held_version h (is.Claimed len place v words) k own = k.kept.stamped

  -- the words are as is known of them
  pub as_known : AreAsKnown known (desk_of c ws)
  as_known = record {
    fit = λ h below. let l = subst (λ (n : ℕ). h < n) wide below in
        subst (Fits (object_at known h)) (sym (pointer_at h l)) (r.fit h l);
    hot = λ h below was. let l = subst (λ (n : ℕ). h < n) wide below in
        ap hot_of (pointer_at h l) ∙ r.hot h l was;
    held = λ h below own. let l = subst (λ (n : ℕ). h < n) wide below in
        window_at ws (stamps c) c.handles h l
        ∙ held_version h (object_at known h) (r.stand h l) own;
    owned = λ p own. let size = r.sized.memory in let low = own.0 in
        window_at ws (base c) (512 * c.frames) p (omega (arith, size, low)) ∙ r.owned p own;
  }

  -- where no view has a pin or a claim
  module _ (unpinned : (h : ℕ) → total (pins_on h) views ≡ 0)
      (unclaimed : (h : ℕ) → total (claims_on h) views ≡ 0) where
    bare : (h : ℕ) → h < c.handles → pins_of (word_at (desk_of c ws) h) ≡ 0
    bare h l = ap pins_of (pointer_at h l)
        ∙ (pins_stand c ws views known es r h l).counted ∙ unpinned h

    pinned : ArePinned (desk_of c ws) (replicate 64 idle_seat)
    pinned = record {
      count = length-replicate 64 idle_seat;
      few = idle_each (λ (seat : SeatState). length seat.pins ≤ 16) (omega arith);
      counted = λ h below. bare h (subst (λ (n : ℕ). h < n) wide below)
          ∙ sym (sum_by-replicate (λ (seat : SeatState). pins_among h seat.pins) 64 idle_seat);
      known = idle_each (λ (seat : SeatState).
          All (λ (pin : SeatPin). pin.handle < length (desk_of c ws).words) seat.pins) (no_pin _);
      here = λ h below some. absurd (let n = bare h (subst (λ (n : ℕ). h < n) wide below) in
          omega (arith, n, some));
      versions = idle_each (λ (seat : SeatState).
          All (λ (pin : SeatPin). pin.version ≡ get_or (desk_of c ws).versions pin.handle 0) seat.pins)
          (no_pin _);
    }

    -- a word that is Moving is that of an object that is leaving
    leaves : (h : ℕ) → h < c.handles → state_of (pointer ws h) ≡ word.Moving → IsLeavingNow far h
    leaves h l moving = ⊎_elim
        (λ (one : total (claims_on h) views ≡ 1).
        absurd (let none = unclaimed h in omega (arith, one, none)))
        (λ (x : IsLeavingNow far h). x) ((moved_by_one [] h l).moves moving)

    ongoing : AreOpen (desk_of c ws) far (replicate 64 idle_seat)
    ongoing = record {
      each = λ seat at x there. absurd (no_claim seat at x there);
      once = λ seat other at place x y there a b. absurd (no_claim seat at x there);
      apart = λ seat at x there leaving. no_claim seat at x there;
      moving = λ h below moves. let l = subst (λ (n : ℕ). h < n) wide below in
          inr (leaves h l (sym (ap state_of (pointer_at h l)) ∙ moves));
    }

    pub closed_sound : IsAccepted c → IsSoundWorld w
    closed_sound ok = record {
      config = ok;
      configured = stood.configured;
      shown = t;
      known = shown_known;
      pinned = pinned;
      ongoing = ongoing;
      one = λ a b there. absurd (none_holds a there);
      orders = λ seat. subst (λ (x : SeatState). KeepsOrder t far x.order)
          (sym (same_each 64 idle_seat seat)) tt;
      counted = stood.counted;
    }
