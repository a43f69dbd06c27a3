-- Worked examples of packed words, of freed versions and of orders: what meets each definition, and
-- worlds of one handle that are sound but for one of these alone. Of each such world one lemma says
-- that it is sound if it has that part, and another one that it is not sound.
use Rattle.std.proofs.Common.{◌≡◌, ◌↔◌, ℕ, zero, suc, ◌+◌, ◌*◌, ◌^◌, ◌<◌, ◌≤◌, Bool, true, false, List, [], ◌∷◌, ◌++◌, Option, None, Some, All, get_or, length, replicate, refl, sym, ap, ◌∙◌, subst, lit<, lit≤, arith, inl, inr}
use Rattle.std.specs.List.{slice_get}
use Rattle.std.proofs.lemmas.Bool.{agree_below_at, ltb-true}
use Rattle.std.proofs.lemmas.List.{length-replicate}
use Rattle.std.proofs.lemmas.List.Elements.{All-replicate}
use Rattle.std.proofs.lemmas.List.Folds.{sum_by-replicate}
use Rattle.std.proofs.Math.Dec.{ltb}
use Rattle.cb_class.specs.declared.class.Class.{Class}
use Rattle.cb_class.specs.Class.{IsClassOf, bytes_of, pages_of, slots_of, words_of}
use Rattle.cb_frame.specs.FreeFrames.{IsFreeFrame}
use Rattle.cb_gf256.specs.InRange.{IsInRange}
use Rattle.cb_gf256.specs.Rows.{HaveLength}
use Rattle.cb_member.specs.declared.names.Shard.{Shard}
use Rattle.cb_ptr.specs.declared.word.State.TheVariants as word
use Rattle.cb_ptr.specs.Word.{hot_of, pins_of, state_of}
use Rattle.cb_set.specs.SetState.{SetState}
use Rattle.cb_span.specs.declared.temp.Temp.TheVariants.{Cold}
use Rattle.cb_span.specs.Contents.{Contents, IsSpan, handle_at, live_count, span_of}
use Rattle.cb_span.specs.Places.{slot_place}
use Rattle.cb_types.specs.declared.config.Config.{Config}
use Rattle.cb_types.specs.declared.config.Field.TheVariants.{K, R, Nodes, Frames, Room, Handles, Turns}
use Rattle.cb_types.specs.declared.order.Kept.{Kept}
use Rattle.cb_types.specs.declared.order.Kept.TheVariants as work
use Rattle.cb_types.specs.Config.{IsAccepted}
use Rattle.cb_world.specs.declared.object.Object.{Object}
use Rattle.cb_world.specs.declared.object.Object.TheVariants as is
use Rattle.cb_world.specs.declared.seats.SeatPin.{SeatPin}
use Rattle.cb_world.specs.declared.shown.Shown.{Shown}
use Rattle.cb_world.specs.Empty.{empty_far, empty_shown}
use Rattle.cb_world.specs.FarSound.{IsShardOf, Owner}
use Rattle.cb_world.specs.FarSound.Owner.{of_joining, of_leaving, of_set}
use Rattle.cb_world.specs.FarState.{FarState, span_in}
use Rattle.cb_world.specs.LocalSound.{AreFrames, AreKnown, ArePlaced, HasSlot, IsStamped, LiesAt, LiesOver, NamesObject}
use Rattle.cb_world.specs.Memory.{IsPacked, memory_byte, window, words_for}
use Rattle.cb_world.specs.Orders.{AreOrdersKept, KeepsOrder}
use Rattle.cb_world.specs.Packed.{AreFreedLater, ArePacked, IsFreedLater, IsPackedAs}
use Rattle.cb_world.specs.Plain.{Words, word_at}
use Rattle.cb_world.specs.Seats.{IsClaimAt, OpenWriteState, SeatState, all_pins_on, idle_seat, pins_among}
use Rattle.cb_world.specs.Sets.{set_in}
use Rattle.cb_world.specs.Shown.{Fits, never, object_at, version_at}
use Rattle.cb_world.specs.Sound.{Sound}
use Rattle.cb_world.specs.StillDesk.{window_length}
use Rattle.cb_world.specs.World.{ArePinned, IsKnown, IsSoundWorld, WorldState}
use Rattle.cb_world.proofs.Laws.{KeepsAway, claimed_stay, empty_sound, empty_world_sound, local_stays, some_same, sound_near, unsurveyed}

-- ---- a word is the byte 0a with zeros behind it, or with 0b; the object has one byte
abbrev bare : List ℕ
bare = 10 ∷ []

abbrev followed : List ℕ
followed = 2826 ∷ []

bare_packed : IsPacked 1 bare
bare_packed zero past below = absurd (omega (arith, past))
bare_packed (suc zero) past below = refl
bare_packed (suc (suc zero)) past below = refl
bare_packed (suc (suc (suc zero))) past below = refl
bare_packed (suc (suc (suc (suc zero)))) past below = refl
bare_packed (suc (suc (suc (suc (suc zero))))) past below = refl
bare_packed (suc (suc (suc (suc (suc (suc zero)))))) past below = refl
bare_packed (suc (suc (suc (suc (suc (suc (suc zero))))))) past below = refl
bare_packed (suc (suc (suc (suc (suc (suc (suc (suc p)))))))) past below =
    absurd (omega (arith, below))

followed_not : IsPacked 1 followed → ⊥
followed_not p = let e : 11 ≡ 0 = p 1 (lit≤ tt) (lit< tt) in omega (arith, e)

-- of an object that is away its row tells, and of one that is claimed its claim
away_packed : (s : Shown) (w : ℕ) → IsPackedAs s w (is.Far 1 1 bare)
away_packed s w = bare_packed

away_followed : (s : Shown) (w : ℕ) → IsPackedAs s w (is.Far 1 1 followed) → ⊥
away_followed s w p = followed_not p

claimed_packed : (s : Shown) (w : ℕ) → IsPackedAs s w (is.Claimed 1 0 1 bare)
claimed_packed s w = bare_packed

claimed_followed : (s : Shown) (w : ℕ) → IsPackedAs s w (is.Claimed 1 0 1 followed) → ⊥
claimed_followed s w p = followed_not p

-- of one in memory the memory words tell, where its word is Here; where it is Moving its open write
-- does
here_followed : (s : Shown) → s.memory ≡ followed → IsPackedAs s 8194 (is.Here 1 0) → ⊥
unfolding window
here_followed s same p = followed_not
    (subst (λ (ms : List ℕ). IsPacked 1 (window ms 0 1)) same (p refl))

moving_followed : (s : Shown) → IsPackedAs s 8195 (is.Here 1 0)
moving_followed s = λ calm. absurd (let e : word.Moving ≡ word.Here = calm in cc)

-- ---- worlds of one frame and one handle, whose seats have nothing but perhaps an order
abbrev one : Config
one = record { k = 1; r = 1; nodes = 2; frames = 1; room = 1; handles = 1; turns = 0 }

accepted : IsAccepted one
accepted K = (lit≤ tt, lit≤ tt)
accepted R = (lit≤ tt, lit≤ tt)
accepted Nodes = (lit≤ tt, lit≤ tt)
accepted Frames = (lit≤ tt, lit≤ tt)
accepted Room = (lit≤ tt, lit≤ tt)
accepted Handles = (lit≤ tt, lit≤ tt)
accepted Turns = lit≤ tt

abbrev desk : ℕ → ℕ → List ℕ → Words
desk w v memory =
    record { settings = one; words = w ∷ []; versions = v ∷ []; memory = memory }

abbrev shown : Object → ℕ → List ℕ → Shown
shown o v memory =
    record { first = 1; objects = o ∷ []; hots = false ∷ []; versions = v ∷ []; memory = memory }

-- in one turn four numbers of sets were drawn, whose sets are gone
abbrev drawn : FarState
drawn = record (empty_far 1 one) {
  counts = record { turns = 1; by_job = 1 ∷ replicate 22 0; sets = 4; keys = 0 };
}

-- and one handle was made
abbrev made_one : Bool → Option Contents → FarState
made_one free span = record drawn { made = 1; frames = free ∷ []; spans = span ∷ [] }

abbrev pub keeping : Option Kept → SeatState
keeping order = record idle_seat { order = order }

abbrev pub seats : Option Kept → List SeatState
seats order = replicate 64 (keeping order)

abbrev world : ℕ → ℕ → List ℕ → Bool → Option Contents → Option Kept → WorldState
world w v memory free span order =
    record { desk = desk w v memory; far = made_one free span; seats = seats order }

pub none_some : {A : Type 0} (x : A) → None ≡ Some x → ⊥
none_some x e = cc

none_on : (order : Option Kept) (h : ℕ) → all_pins_on h (seats order) ≡ 0
none_on order h =
    sum_by-replicate (λ (seat : SeatState). pins_among h seat.pins) 64 (keeping order)

no_pins : (w : ℕ) → pins_of w ≡ 0 → (h : ℕ) → pins_of (get_or (w ∷ []) h 0) ≡ 0
no_pins w none zero = none
no_pins w none (suc h) = refl

none_of : (P : SeatPin → Type 0) → All P []
none_of P = λ k d below. absurd (omega (arith, below))

each_seat : (order : Option Kept) (P : SeatState → Type 0) → P (keeping order) → All P (seats order)
each_seat order P p = All-replicate P 64 (keeping order) p

pinned : (w v : ℕ) (memory : List ℕ) (order : Option Kept) → pins_of w ≡ 0
    → ArePinned (desk w v memory) (seats order)
pinned w v memory order none = record {
  count = length-replicate 64 (keeping order);
  few = each_seat order (λ (seat : SeatState). length seat.pins ≤ 16) (omega arith);
  counted = λ h below. no_pins w none h ∙ sym (none_on order h);
  known = each_seat order (λ (seat : SeatState).
      All (λ (pin : SeatPin). pin.handle < length (w ∷ [])) seat.pins) (none_of _);
  here = λ h below some. absurd (let n = no_pins w none h in omega (arith, n, some));
  versions = each_seat order (λ (seat : SeatState).
      All (λ (pin : SeatPin). pin.version ≡ get_or (v ∷ []) pin.handle 0) seat.pins) (none_of _);
}

no_claims : (order : Option Kept) (seat n : ℕ)
    → (get_or (replicate n (keeping order)) seat idle_seat).claims ≡ []
no_claims order zero zero = refl
no_claims order zero (suc n) = refl
no_claims order (suc seat) zero = refl
no_claims order (suc seat) (suc n) = no_claims order seat n

nothing_at : (at : ℕ) (c : OpenWriteState) → slice_get [] at ≡ Some c → ⊥
nothing_at at c e = cc

no_claim : (order : Option Kept) (seat at : ℕ) (c : OpenWriteState)
    → IsClaimAt (seats order) seat at c → ⊥
no_claim order seat at c there =
    nothing_at at c
    (ap (λ (l : List OpenWriteState). slice_get l at) (sym (no_claims order seat 64)) ∙ there)

none_holds : (order : Option Kept) (seat n : ℕ)
    → (get_or (replicate n (keeping order)) seat idle_seat).holds ≡ false
none_holds order zero zero = refl
none_holds order zero (suc n) = refl
none_holds order (suc seat) zero = refl
none_holds order (suc seat) (suc n) = none_holds order seat n

held_not : (b : Bool) → b ≡ false → b ≡ true → ⊥
held_not b e f = cc

still : (w : ℕ) → (state_of w ≡ word.Moving → ⊥) → (h : ℕ)
    → state_of (get_or (w ∷ []) h 0) ≡ word.Moving → ⊥
still w calm zero moved = calm moved
still w calm (suc h) moved = let e : word.Empty ≡ word.Moving = moved in cc

no_note : (n : ℕ) → None ≡ Some n → ⊥
no_note n e = cc

-- such a world is sound where all is known of its desk, and the order of every seat is kept
sound_with : (w v : ℕ) (memory : List ℕ) (free : Bool) (span : Option Contents) (order : Option Kept)
    (s : Shown) → pins_of w ≡ 0 → (state_of w ≡ word.Moving → ⊥)
    → IsKnown (desk w v memory) (made_one free span) s
    → AreOrdersKept s (made_one free span) (seats order)
    → IsSoundWorld (world w v memory free span order)
sound_with w v memory free span order s none calm known kept = record {
  config = accepted;
  configured = record {
    frames = refl;
    homes = refl;
    nodes = refl;
    room = refl;
    codes = (let c = (empty_world_sound one accepted).configured.codes in
        record { force = c.force; sets = c.sets; batch = c.batch; pair = c.pair; own = c.own });
  };
  shown = s;
  known = known;
  pinned = pinned w v memory order none;
  ongoing = record {
    each = λ seat at c there. absurd (no_claim order seat at c there);
    once = λ seat other at place c d there a b. absurd (no_claim order seat at c there);
    apart = λ seat at c there leaving. no_claim order seat at c there;
    moving = λ h below moved. absurd (still w calm h moved);
  };
  one = λ a b held other. absurd (held_not _ (none_holds order a 64) held);
  orders = kept;
  counted = record {
    kinds = refl;
    jobs = refl;
    turns = omega arith;
    sets = omega arith;
    keys = omega arith;
    epoch = omega arith;
    given = omega arith;
    no_pair = λ n e. absurd (no_note n e);
  };
}

-- the far part is that of the empty world, but for the numbers that were drawn
empty : Sound (empty_shown 1 one) (empty_far 1 one)
empty = empty_sound 1 one (lit≤ tt) (lit< tt)

no_set : (id : ℕ) (set : SetState) → set_in (empty_far 1 one).sets id ≡ Some set → ⊥
no_set id set there = omega (arith, empty.away.sound.sets.numbered id set there)

nobody : (o : Owner) (shard : Shard) → IsShardOf drawn o shard → ⊥
nobody (of_set id p) shard is = no_set id is.0 is.1
nobody (of_leaving p) shard is = none_some is.0 is.1
nobody (of_joining p) shard is = none_some is.0 is.1

nobody_before : (o : Owner) (shard : Shard) → IsShardOf (empty_far 1 one) o shard → ⊥
nobody_before (of_set id p) shard is = no_set id is.0 is.1
nobody_before (of_leaving p) shard is = none_some is.0 is.1
nobody_before (of_joining p) shard is = none_some is.0 is.1

drawn_sound : Sound (empty_shown 1 one) drawn
drawn_sound = record {
  here = local_stays (empty_shown 1 one) (empty_far 1 one) drawn refl refl refl refl empty.here;
  noted = λ batch there. absurd (none_some batch there);
  claimed = claimed_stay (empty_shown 1 one) (empty_far 1 one) drawn refl refl empty.claimed;
  away = record {
    sound = record {
      sets = record {
        shaped = λ id set there. absurd (no_set id set there);
        worded = λ id set there. absurd (no_set id set there);
        live = λ id p set there. absurd (no_set id set there);
        kept = λ id set there. absurd (no_set id set there);
        numbered = λ id set there. absurd (no_set id set there);
      };
      away = record {
        away = empty.away.sound.away.away;
        home = empty.away.sound.away.home;
        named = empty.away.sound.away.named;
      };
      rows = record {
        members = empty.away.sound.rows.members;
        counted = empty.away.sound.rows.counted;
        room = empty.away.sound.rows.room;
        owned = λ node key row there. let was = empty.away.sound.rows.owned node key row there in
            absurd (nobody_before was.0 was.1 was.2);
        one = λ o q a b of with same. absurd (nobody o a of);
        drawn = λ o a of. absurd (nobody o a of);
        current = λ o a of. absurd (nobody o a of);
      };
      batch = λ batch there. absurd (none_some batch there);
    };
    join = λ pair there. absurd (none_some pair there);
    survey = unsurveyed drawn;
  };
}

same_away : (free : Bool) (span : Option Contents) → KeepsAway drawn (made_one free span)
same_away free span = record {
  sets = refl;
  homes = refl;
  nodes = refl;
  members = refl;
  leaving = refl;
  joining = refl;
  counts = refl;
  survey = refl;
}

never_hot : (h : ℕ) → get_or (false ∷ []) h false ≡ true → ⊥
never_hot zero e = cc
never_hot (suc h) e = cc

-- ---- an object of 1,023 bytes at the place 0: its 128th word has its last seven bytes, and a zero
-- or the byte 0b behind them
abbrev calm : ℕ
calm = 8380418

abbrev largest : Class
largest = record { index = 11 }

abbrev span : Contents
span = span_of largest Cold (Some 0 ∷ None ∷ None ∷ None ∷ [])

abbrev memory_with : ℕ → List ℕ
memory_with last = replicate 127 0 ++ (last ∷ replicate 384 0)

abbrev here : List ℕ → Shown
here memory = shown (is.Here 1023 0) 1 memory

abbrev far : FarState
far = made_one false (Some span)

class_of_1023 : IsClassOf 1023 largest
unfolding bytes_of
class_of_1023 = record {
  in_table = lit< tt;
  holds = lit≤ tt;
  least = λ smaller less.
      let test : ℕ → Bool = λ (i : ℕ). ltb (bytes_of (record { index = i })) 1023 in
      ltb-true (bytes_of smaller) 1023
      (agree_below_at test (λ _. true) 11 smaller.index refl less);
}

first_slot : 0 ≡ slot_place largest 0 0
unfolding words_of bytes_of
first_slot = refl

is_span : IsSpan span
unfolding slots_of pages_of bytes_of
is_span = record { in_table = lit< tt; sized = refl }

known_of : (memory : List ℕ) → AreKnown (here memory) far
known_of memory = record {
  first = refl;
  least = lit≤ tt;
  bounded = lit≤ tt;
  made = made;
  stamped = stamped;
  versioned = versioned;
}
  where
    made : (h : ℕ) → h < 1 → 1 ≤ h ↔ (object_at (here memory) h ≡ never)
    made zero below = (λ most. absurd (omega (arith, most)), λ e. absurd (cc))
    made (suc h) below = absurd (omega (arith, below))

    stamped : (h : ℕ) → IsStamped (object_at (here memory) h) (version_at (here memory) h)
    stamped zero = tt
    stamped (suc h) = refl

    versioned : (h : ℕ) → h < 1 → 1 ≤ version_at (here memory) h
    versioned zero below = lit≤ tt
    versioned (suc h) below = absurd (omega (arith, below))

one_frame : pages_of largest ≡ 1
unfolding pages_of
one_frame = refl

are_frames : AreFrames far
are_frames = record {
  sized = refl;
  within = within;
  apart = apart;
  free = free;
  valid = valid;
  taken = taken;
}
  where
    within : (f : ℕ) (x : Contents) → span_in far.spans f ≡ Some x → f + pages_of x.class ≤ 1
    within zero x e = subst (λ (y : Contents). 0 + pages_of y.class ≤ 1) (some_same span x e)
        (omega (arith, one_frame))
    within (suc f) x e = absurd (none_some x e)

    apart : (f g : ℕ) (x y : Contents) → span_in far.spans f ≡ Some x
        → span_in far.spans g ≡ Some y → f < g → f + pages_of x.class ≤ g
    apart f zero x y d e less = absurd (omega (arith, less))
    apart f (suc g) x y d e less = absurd (none_some y e)

    free : (f : ℕ) → f < 1 → IsFreeFrame far.frames f ↔ ¬ ((g : ℕ) × LiesOver far.spans g f)
    free zero below = (
      (λ e. absurd (cc)),
      (λ none. absurd (none (
        0,
        record {
          span = span;
          there = refl;
          from = lit≤ tt;
          to = omega (arith, one_frame);
        },
      ))),
    )
    free (suc f) below = absurd (omega (arith, below))

    valid : (f : ℕ) (x : Contents) → span_in far.spans f ≡ Some x → IsSpan x
    valid zero x e = subst IsSpan (some_same span x e) is_span
    valid (suc f) x e = absurd (none_some x e)

    taken : (f : ℕ) (x : Contents) → span_in far.spans f ≡ Some x → 1 ≤ live_count x
    taken zero x e = subst (λ (y : Contents). 1 ≤ live_count y) (some_same span x e) (lit≤ tt)
    taken (suc f) x e = absurd (none_some x e)

placed_in : (memory : List ℕ) → length memory ≡ 512 → ArePlaced (here memory) far
placed_in memory sized = record { memory = sized; placed = placed; named = named }
  where
    placed : (h len place : ℕ) → LiesAt (object_at (here memory) h) len place
        → HasSlot far.spans h len place
    placed zero len place lies = record {
      frame = 0;
      slot = 0;
      span = span;
      there = refl;
      named = refl;
      at = lies.1 ∙ first_slot;
      fits = subst (λ (n : ℕ). IsClassOf n largest) (sym lies.0) class_of_1023;
    }
    placed (suc h) len place lies = absurd lies

    in_span : (slot h : ℕ) → handle_at span slot ≡ Some h → NamesObject (here memory) 0 slot h span
    in_span zero h e =
        subst (λ (k : ℕ). NamesObject (here memory) 0 0 k span) (some_same 0 h e)
        (record { len = 1023; lies = (refl, sym first_slot) })
    in_span (suc zero) h e = absurd (none_some h e)
    in_span (suc (suc zero)) h e = absurd (none_some h e)
    in_span (suc (suc (suc zero))) h e = absurd (none_some h e)
    in_span (suc (suc (suc (suc slot)))) h e = absurd (none_some h e)

    named : (f slot h : ℕ) (x : Contents) → span_in far.spans f ≡ Some x
        → handle_at x slot ≡ Some h → NamesObject (here memory) f slot h x
    named zero slot h x e =
        subst (λ (y : Contents). handle_at y slot ≡ Some h → NamesObject (here memory) 0 slot h y)
        (some_same span x e) (in_span slot h)
    named (suc f) slot h x e = absurd (none_some x e)

-- all is known of that desk, if only the object is packed
known_if_packed : (memory : List ℕ) → length memory ≡ 512
    → ArePacked (desk calm 1 memory) (here memory) → IsKnown (desk calm 1 memory) far (here memory)
known_if_packed memory sized packed = record {
  sized = record { words = refl; versions = refl; memory = sized };
  shows = record {
    objects = refl;
    versions = refl;
    hots = refl;
    hot = λ h below e. absurd (never_hot h e);
    memory = refl;
    fit = fit;
  };
  hots = hots;
  sound = sound_near (empty_shown 1 one) (here memory) drawn far drawn_sound
      (record { known = known_of memory; frames = are_frames; placed = placed_in memory sized })
      (same_away false (Some span))
      (elim [ zero ↦ inr (record { before = tt; after = tt }) | suc h ↦ inl refl ])
      (λ batch there. absurd (none_some batch there));
  packed = packed;
  freed = freed;
}
  where
    fit : (h : ℕ) → h < 1 → Fits (object_at (here memory) h) (word_at (desk calm 1 memory) h)
    fit zero below = (lit< tt, refl, refl, inl refl)
    fit (suc h) below = absurd (omega (arith, below))

    hots : (h : ℕ) → h < 1 → get_or (false ∷ []) h false ≡ hot_of (word_at (desk calm 1 memory) h)
    hots zero below = refl
    hots (suc h) below = absurd (omega (arith, below))

    freed : AreFreedLater (here memory)
    freed zero = tt
    freed (suc h) = tt

abbrev here_world : ℕ → Option Kept → WorldState
here_world last order = world calm 1 (memory_with last) false (Some span) order

-- so its world is sound, if only the object is packed, and the order of every seat is kept
sound_if_packed : (last : ℕ) (order : Option Kept)
    → ArePacked (desk calm 1 (memory_with last)) (here (memory_with last))
    → AreOrdersKept (here (memory_with last)) (made_one false (Some span)) (seats order)
    → IsSoundWorld (here_world last order)
sound_if_packed last order packed kept =
    sound_with calm 1 (memory_with last) false (Some span) order (here (memory_with last)) refl (λ moved. let e : word.Here ≡ word.Moving = moved in cc)
    (known_if_packed (memory_with last) refl packed) kept

-- it is with a zero behind the object
last_byte : memory_byte (window (memory_with 0) 0 128) 1023 ≡ 0
unfolding window
last_byte = refl

zero_packed : ArePacked (desk calm 1 (memory_with 0)) (here (memory_with 0))
zero_packed zero below = λ here p past inside.
    let n = window_length (memory_with 0) 0 128 in
    let e : 1023 ≡ p = omega (arith, past, inside, n) in
    subst (λ (q : ℕ). memory_byte (window (memory_with 0) 0 128) q ≡ 0) e last_byte
zero_packed (suc h) below = absurd (omega (arith, below))

-- each seat keeps it, where one does
pub each_keeps : (s : Shown) (far : FarState) (order : Option Kept) → KeepsOrder s far order
    → AreOrdersKept s far (seats order)
each_keeps s far order kept = λ seat. by seat 64
  where
    by : (seat n : ℕ) → KeepsOrder s far (get_or (replicate n (keeping order)) seat idle_seat).order
    by zero zero = tt
    by zero (suc n) = kept
    by (suc seat) zero = tt
    by (suc seat) (suc n) = by seat n

none_kept : (s : Shown) (far : FarState) → AreOrdersKept s far (seats None)
none_kept s far = each_keeps s far None tt

zero_behind : IsSoundWorld (here_world 0 None)
zero_behind = sound_if_packed 0 None zero_packed (none_kept _ _)

-- and it is not with the byte 0b behind it, which is in the highest byte of that word
abbrev eleven : ℕ
eleven = 11 * 2 ^ 56

abbrev spoilt : List ℕ
spoilt = memory_with eleven

spoilt_not : IsPacked 1023 (window spoilt 0 128) → ⊥
unfolding window
spoilt_not p = let e : 11 ≡ 0 = p 1023 (lit≤ tt) (lit< tt) in omega (arith, e)

byte_behind : IsSoundWorld (here_world eleven None) → ⊥
byte_behind x = refused (object_at x.shown 0) (x.known.shows.fit 0 (lit< tt))
    (x.known.packed 0 (lit< tt))
  where
    at_end : (len place : ℕ) → 1023 ≡ len → 0 ≡ place
        → IsPacked len (window x.shown.memory place (words_for len)) → ⊥
    at_end len place long first p = spoilt_not
        (subst (λ (ms : List ℕ). IsPacked 1023 (window ms 0 128)) x.known.shows.memory
        (subst (λ (n : ℕ). IsPacked 1023 (window x.shown.memory n 128)) (sym first)
        (subst (λ (n : ℕ). IsPacked n (window x.shown.memory place (words_for n))) (sym long) p)))

    refused : (o : Object) → Fits o calm → IsPackedAs x.shown calm o → ⊥
    refused (is.Empty v) fit p = omega (arith, fit)
    refused (is.Far len v words) fit p = let e = fit.0 in omega (arith, e)
    refused (is.Here len place) fit p = at_end len place fit.1 fit.2 (p refl)
    refused (is.Claimed len place v words) fit p = let e : word.Here ≡ word.Moving = fit.4 in cc

-- ---- an order in every seat, beside the object with a zero behind it: the world is sound, where the
-- order's number was drawn, and it is not where it was not
abbrev encoding : ℕ → Kept
encoding n = work.Encode (record { set = n; k = 1; r = 1; rows = [] ∷ [] })

abbrev decoding : ℕ → Kept
decoding n = work.Decode
    (record { set = n; position = 0; k = 1; r = 1; present = 1 ∷ []; rows = [] ∷ [] })

sound_with_orders : (order : Option Kept)
    → AreOrdersKept (here (memory_with 0)) (made_one false (Some span)) (seats order)
    → IsSoundWorld (here_world 0 order)
sound_with_orders order kept = sound_if_packed 0 order zero_packed kept

least_code : IsInRange 1 1
least_code = record {
  data_least = lit≤ tt;
  data_most = lit≤ tt;
  parities_least = lit≤ tt;
  parities_most = lit≤ tt;
}

empty_row : HaveLength 0 ([] ∷ [])
empty_row zero d below = refl
empty_row (suc k) d below = absurd (omega (arith, below))

-- its batch was given up
kept_to_encode : IsSoundWorld (here_world 0 (Some (encoding 3)))
kept_to_encode = sound_with_orders (Some (encoding 3)) (each_keeps _ _ (Some (encoding 3)) (record {
  fits = record { range = least_code; count = refl; lengths = empty_row };
  drawn = lit< tt;
  code = λ batch there same. absurd (none_some batch there);
  rows = λ batch there same. absurd (none_some batch there);
}))

undrawn_to_encode : IsSoundWorld (here_world 0 (Some (encoding 4))) → ⊥
undrawn_to_encode x = let n : 4 < 4 = (x.orders 0).drawn in omega (arith, n)

-- its set was dropped
kept_to_decode : IsSoundWorld (here_world 0 (Some (decoding 3)))
kept_to_decode = sound_with_orders (Some (decoding 3)) (each_keeps _ _ (Some (decoding 3)) (record {
  fits = record {
    range = least_code;
    positions = record {
      count = refl;
      ascend = λ i below. absurd (omega (arith, below));
      below = below;
    };
    wanted = lit< tt;
    count = refl;
    lengths = empty_row;
  };
  drawn = lit< tt;
  apart = λ batch there same. none_some batch there;
  code = λ set there. absurd (no_set 3 set there);
  rows = λ set there. absurd (no_set 3 set there);
}))
  where
    below : (i d : ℕ) → i < 1 → get_or (1 ∷ []) i d < 2
    below zero d first = lit< tt
    below (suc i) d first = absurd (omega (arith, first))

undrawn_to_decode : IsSoundWorld (here_world 0 (Some (decoding 4))) → ⊥
undrawn_to_decode x = let n : 4 < 4 = (x.orders 0).drawn in omega (arith, n)

-- ---- makes give the version 1: an object that was made and freed, at the version 1 or 2
abbrev zeros : List ℕ
zeros = replicate 512 0

abbrev freed_at : ℕ → Shown
freed_at v = shown (is.Empty v) v zeros

abbrev no_span : FarState
no_span = made_one true None

freed_known : (v : ℕ) → 1 ≤ v → AreKnown (freed_at v) no_span
freed_known v some = record {
  first = refl;
  least = lit≤ tt;
  bounded = lit≤ tt;
  made = made;
  stamped = stamped;
  versioned = versioned;
}
  where
    version : Object → ℕ
    version (is.Empty n) = n
    version (is.Far len n words) = n
    version (is.Here len place) = 0
    version (is.Claimed len place n words) = n

    made : (h : ℕ) → h < 1 → 1 ≤ h ↔ (object_at (freed_at v) h ≡ never)
    made zero below = (
      λ most. absurd (omega (arith, most)),
      λ e. absurd (let z : v ≡ 0 = ap version e in omega (arith, z, some)),
    )
    made (suc h) below = absurd (omega (arith, below))

    stamped : (h : ℕ) → IsStamped (object_at (freed_at v) h) (version_at (freed_at v) h)
    stamped zero = refl
    stamped (suc h) = refl

    versioned : (h : ℕ) → h < 1 → 1 ≤ version_at (freed_at v) h
    versioned zero below = some
    versioned (suc h) below = absurd (omega (arith, below))

no_frames : AreFrames no_span
no_frames = record {
  sized = refl;
  within = within;
  apart = apart;
  free = free;
  valid = valid;
  taken = taken;
}
  where
    nowhere : (f : ℕ) (x : Contents) → span_in no_span.spans f ≡ Some x → ⊥
    nowhere zero x e = none_some x e
    nowhere (suc f) x e = none_some x e

    within : (f : ℕ) (x : Contents) → span_in no_span.spans f ≡ Some x → f + pages_of x.class ≤ 1
    within f x e = absurd (nowhere f x e)

    apart : (f g : ℕ) (x y : Contents) → span_in no_span.spans f ≡ Some x
        → span_in no_span.spans g ≡ Some y → f < g → f + pages_of x.class ≤ g
    apart f g x y d e less = absurd (nowhere f x d)

    free : (f : ℕ) → f < 1
        → IsFreeFrame no_span.frames f ↔ ¬ ((g : ℕ) × LiesOver no_span.spans g f)
    free zero below = ((λ e over. nowhere over.0 over.1.span over.1.there), (λ none. refl))
    free (suc f) below = absurd (omega (arith, below))

    valid : (f : ℕ) (x : Contents) → span_in no_span.spans f ≡ Some x → IsSpan x
    valid zero x e = absurd (none_some x e)
    valid (suc f) x e = absurd (none_some x e)

    taken : (f : ℕ) (x : Contents) → span_in no_span.spans f ≡ Some x → 1 ≤ live_count x
    taken zero x e = absurd (none_some x e)
    taken (suc f) x e = absurd (none_some x e)

none_placed : (v : ℕ) → ArePlaced (freed_at v) no_span
none_placed v = record { memory = refl; placed = placed; named = named }
  where
    placed : (h len place : ℕ) → LiesAt (object_at (freed_at v) h) len place
        → HasSlot no_span.spans h len place
    placed zero len place lies = absurd lies
    placed (suc h) len place lies = absurd lies

    named : (f slot h : ℕ) (x : Contents) → span_in no_span.spans f ≡ Some x
        → handle_at x slot ≡ Some h → NamesObject (freed_at v) f slot h x
    named zero slot h x e = absurd (none_some x e)
    named (suc f) slot h x e = absurd (none_some x e)

abbrev freed_world : ℕ → WorldState
freed_world v = world 0 v zeros true None None

-- its world is sound, if only it is freed later than at the first version
sound_if_later : (v : ℕ) → 1 ≤ v → AreFreedLater (freed_at v) → IsSoundWorld (freed_world v)
sound_if_later v some later = sound_with 0 v zeros true None None (freed_at v) refl
    (λ moved. let e : word.Empty ≡ word.Moving = moved in cc)
    (record {
      sized = record { words = refl; versions = refl; memory = refl };
      shows = record {
        objects = refl;
        versions = refl;
        hots = refl;
        hot = λ h below e. absurd (never_hot h e);
        memory = refl;
        fit = fit;
      };
      hots = hots;
      sound = sound_near (empty_shown 1 one) (freed_at v) drawn no_span drawn_sound
          (record { known = freed_known v some; frames = no_frames; placed = none_placed v })
          (same_away true None)
          (elim [ zero ↦ inr (record { before = tt; after = tt }) | suc h ↦ inl refl ])
          (λ batch there. absurd (none_some batch there));
      packed = packed;
      freed = later;
    }) (none_kept _ _)
  where
    fit : (h : ℕ) → h < 1 → Fits (object_at (freed_at v) h) (word_at (desk 0 v zeros) h)
    fit zero below = refl
    fit (suc h) below = absurd (omega (arith, below))

    hots : (h : ℕ) → h < 1 → get_or (false ∷ []) h false ≡ hot_of (word_at (desk 0 v zeros) h)
    hots zero below = refl
    hots (suc h) below = absurd (omega (arith, below))

    packed : ArePacked (desk 0 v zeros) (freed_at v)
    packed zero below = tt
    packed (suc h) below = absurd (omega (arith, below))

freed_later : IsSoundWorld (freed_world 2)
freed_later = sound_if_later 2 (lit≤ tt) later
  where
    later : AreFreedLater (freed_at 2)
    later zero = lit< tt
    later (suc h) = tt

-- and it is not where that is the version of its make
freed_at_its_make : IsSoundWorld (freed_world 1) → ⊥
freed_at_its_make x = refused (object_at x.shown 0) (x.known.shows.fit 0 (lit< tt))
    (x.known.sound.here.known.stamped 0) (x.known.freed 0)
  where
    version : version_at x.shown 0 ≡ 1
    version = ap (λ (vs : List ℕ). get_or vs 0 0) x.known.shows.versions

    refused : (o : Object) → Fits o 0 → IsStamped o (version_at x.shown 0)
        → IsFreedLater x.shown.first o → ⊥
    refused (is.Empty zero) fit stamp later = let e = version in omega (arith, stamp, e)
    refused (is.Empty (suc v)) fit stamp later =
        let e = version in let f = x.known.sound.here.known.first in
        omega (arith, stamp, e, f, later)
    refused (is.Far len v words) fit stamp later = let e = fit.0 in omega (arith, e)
    refused (is.Here len place) fit stamp later =
        elim fit.3 [
          | inl here ↦ let e : word.Empty ≡ word.Here = here in cc
          | inr moving ↦ let e : word.Empty ≡ word.Moving = moving in cc
        ]
    refused (is.Claimed len place v words) fit stamp later =
        let e : word.Empty ≡ word.Moving = fit.4 in cc
