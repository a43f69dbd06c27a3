-- A span has arrived in free frames: the world is sound, and last complete contents stay.
use Rattle.std.proofs.Common.{◌≡◌, ◌≢◌, ◌⊎◌, ℕ, false, ◌+◌, ◌*◌, ◌/◌, ◌<◌, ◌≤◌, List, Option, Some, None, Contains, length, get_or, set, refl, sym, ap, ◌∙◌, subst, arith, inl, inr}
use Rattle.std.specs.FinMap as map
use Rattle.std.proofs.lemmas.List.{get_or_past}
use Rattle.cb_class.proofs.Laws.{object_fits, slot_in_run}
use Rattle.cb_class.specs.Class.{pages_of, slots_of, words_of}
use Rattle.cb_set.specs.SetState.{SetState, dead_position, position_of, with_position}
use Rattle.cb_set.proofs.Laws.{dead_is_rest}
use Rattle.cb_span.specs.Contents.{Contents}
use Rattle.cb_span.specs.Places.{slot_place}
use Rattle.cb_ptr.specs.Word.{len_of, place_of}
use Rattle.cb_world.specs.declared.object.Object.{Object}
use Rattle.cb_world.specs.declared.object.Object.TheVariants as is
use Rattle.cb_world.specs.declared.shown.Shown.{Shown}
use Rattle.cb_world.specs.Memory.{put, window, words_for}
use Rattle.cb_world.specs.Shown.{object_at}
use Rattle.cb_world.specs.Stored.{AreThere}
use Rattle.cb_world.specs.RowWords.{words_in}
use Rattle.cb_world.specs.Sets.{set_in}
use Rattle.cb_world.specs.SetAdded.{is_far}
use Rattle.cb_world.specs.Leaving.{LeavingState}
use Rattle.cb_world.specs.Now.{broken_home, broken_set, is_gone, now}
use Rattle.cb_world.specs.FarState.{FarState, span_in}
use Rattle.cb_world.specs.FarSound.{AwaySound}
use Rattle.cb_world.specs.GivenUp.{GivesUp}
use Rattle.cb_world.specs.LocalSound.{LiesAt}
use Rattle.cb_world.specs.Sound.{AreNoted, IsLeaving, Sound}
use Rattle.cb_world.proofs.Laws.{slot_inside, brought_now, now_kept, left_gone, room_left, left_count, left_others, left_over, noted_by, reserved_is_other, KeepsLeaving, batch_kept, given_whole, put_else, window_same, length_words, row_put, left_whole}
use Rattle.cb_world.specs.Fetched.{with_rows_given}
use Rattle.cb_world.specs.Rooms.{HaveRoom}
use Rattle.cb_swapin.specs.Named.{NamesHandle, IsNamed}
use Rattle.cb_swapin.proofs.Committed.{live_within}
use Rattle.cb_swapin.proofs.SlotNames.{named_or_not, named_within}
use Rattle.cb_swapin.proofs.SlotsBrought.{far_same}
use Rattle.cb_swapin.proofs.Waits.{CanArrive, arrives_in, home_named, named_waits, other_run}
use Rattle.cb_swapin.proofs.RowGiven.{word_is_wide}
use Rattle.cb_swapin.proofs.Arrived.{free_frame, HasArrived, arrived_here, each_moved, moved, other_span}

some_none : {X : Type 0} (o : Option X) (x : X) → o ≡ None → o ≡ Some x → ⊥
some_none o x e f = cc

-- ---- words beside the frames
-- the words of other frames stay
pub other_words : (ms : List ℕ) (f pages g more : ℕ) (row : List ℕ) → length row ≡ 4096 * pages
    → (g + more ≤ f) ⊎ (f + pages ≤ g) → (at n : ℕ) → 512 * g ≤ at → at + n ≤ 512 * (g + more)
    → window (put ms (512 * f) (words_in row)) at n ≡ window ms at n
other_words ms f pages g more row long off at n start end =
    window_same (put ms (512 * f) (words_in row)) ms at n (λ i low high.
    put_else ms (512 * f) (words_in row) i (side off i low high))
  where
    side : (g + more ≤ f) ⊎ (f + pages ≤ g) → (i : ℕ) → at ≤ i → i < at + n
        → (i < 512 * f) ⊎ (512 * f + length (words_in row) ≤ i)
    side (inl less) i low high = inl (omega (arith, less, high, end))
    side (inr more) i low high = inr (let w = length_words (length row / 8) row in
        omega (arith, more, low, start, w, long))

-- the row of a position has the bytes of a span of the set
pub fetched_wide : (s : Shown) (far : FarState) (id p : ℕ) (set : SetState) (f : ℕ)
    (span : Contents) (row : List ℕ) → CanArrive s far id p set f span row
    → length row ≡ 4096 * pages_of span.class
fetched_wide s far id p set f span row x =
    let w = x.sound.away.sound.sets.worded id set x.there in
    ap length (x.fetched.row_of w.0 w.1.word)
    ∙ (word_is_wide far.nodes far.members set p w.0 w.1.word (live_within set p x.live)).1
    ∙ ap (λ (n : ℕ). 4096 * n) (sym x.fetched.pages)

-- the words of a span that is there stay
span_words : (s : Shown) (far : FarState) (id p : ℕ) (set : SetState) (f : ℕ) (span : Contents)
    (row : List ℕ) → CanArrive s far id p set f span row → (g : ℕ) (c : Contents)
    → span_in far.spans g ≡ Some c → (at n : ℕ) → 512 * g ≤ at
    → at + n ≤ 512 * (g + pages_of c.class)
    → window (put s.memory (512 * f) (words_in row)) at n ≡ window s.memory at n
span_words s far id p set f span row x g c there at n start end =
    other_words s.memory f (pages_of span.class) g (pages_of c.class) row
    (fetched_wide s far id p set f span row x)
    (other_run far f (pages_of span.class) g c (arrives_in s far id p set f span row x) there) at n
    start end

-- ---- the batch that is leaving
leaves_apart : (s : Shown) (far : FarState) (id p : ℕ) (set : SetState) (f : ℕ) (span : Contents)
    (row : List ℕ) (batch : LeavingState) → CanArrive s far id p set f span row
    → far.leaving ≡ Some batch → (g : ℕ) → Contains batch.frames g → g ≢ f
leaves_apart s far id p set f span row batch x there g leaves same =
    let held = (x.sound.noted batch there).held g leaves in
    let frame = free_frame s far id p set f span row x in
    some_none (span_in far.spans f) held.0 frame.1 (ap (span_in far.spans) (sym same) ∙ held.1)

pub keeps_leaving : (s t : Shown) (far new : FarState) (id p : ℕ) (set : SetState) (f n : ℕ)
    (span : Contents) (row : List ℕ) → CanArrive s far id p set f span row
    → HasArrived s t far new id p set f n span row → (batch : LeavingState)
    → far.leaving ≡ Some batch → KeepsLeaving s t far new batch
keeps_leaving s t far new id p set f n span row x y batch there = record {
  spans = λ g leaves. ap (λ (l : List (Option Contents)). span_in l g) y.spans
      ∙ other_span far.spans f g span
      (leaves_apart s far id p set f span row batch x there g leaves);
  words = λ g leaves. let held = (x.sound.noted batch there).held g leaves in
      ap (λ (l : List ℕ). window l (512 * g) (512 * batch.pages)) y.brought.memory
      ∙ span_words s far id p set f span row x g held.0 held.1 (512 * g) (512 * batch.pages)
      (omega arith) (omega (arith, held.2));
}

far_claimed : (len v place l u : ℕ) (words ws : List ℕ)
    → is.Far len v words ≡ is.Claimed l place u ws → ⊥
far_claimed len v place l u words ws e = cc

arrived_noted : (s t : Shown) (far new : FarState) (id p : ℕ) (set : SetState) (f n : ℕ)
    (span : Contents) (row : List ℕ) → CanArrive s far id p set f span row
    → HasArrived s t far new id p set f n span row → (batch : LeavingState)
    → far.leaving ≡ Some batch → AreNoted t new batch
arrived_noted s t far new id p set f n span row x y batch there =
    let k = keeps_leaving s t far new id p set f n span row x y batch there in
    let was = x.sound.noted batch there in
    noted_by s t far new batch (record {
      spans = k.spans;
      sets = ap (λ m. map.get m batch.set) y.sets
          ∙ left_others far.sets id batch.set (with_position set p dead_position)
          (reserved_is_other far batch id set was.reserved x.there);
      drawn = (let e = ap (λ c. c.sets) y.counts in omega (arith, e));
      unpaired = λ apart pair at. apart pair (sym y.joining ∙ at);
    }) (λ g slot h other leaves at named z. record {
      former = z.former;
      noted = z.noted;
      handle = z.handle;
      free = z.free;
      below = z.below;
      version = z.version;
      words = z.words;
      claimed = elim (each_moved s t far new id p set f n span row x y h) [
        | inl m ↦ absurd (far_claimed m.len m.version (place_of z.former.word)
            (len_of z.former.word) z.version m.words z.words (sym m.was ∙ z.claimed))
        | inr same ↦ same.0 ∙ z.claimed
      ];
      small = z.small;
    }) was

-- a claimed object stands in a frame that is leaving, and its words stay
arrived_claimed : (s t : Shown) (far new : FarState) (id p : ℕ) (set : SetState) (f n : ℕ)
    (span : Contents) (row : List ℕ) → CanArrive s far id p set f span row
    → HasArrived s t far new id p set f n span row → (h len place v : ℕ) (words : List ℕ)
    → object_at t h ≡ is.Claimed len place v words → IsLeaving t new h len place words
arrived_claimed s t far new id p set f n span row x y h len place v words claimed =
    elim (each_moved s t far new id p set f n span row x y h) [
      | inl m ↦ absurd (here_claimed m.len (slot_place span.class f m.slot) (sym m.here ∙ claimed))
      | inr same ↦
          let z = x.sound.claimed h len place v words (sym same.0 ∙ claimed) in
          let c = z.slot in
          let inside = slot_inside far s h len place x.sound.here c in
          let off = leaves_apart s far id p set f span row z.batch x z.there c.frame z.leaves in
          record {
            batch = z.batch;
            there = y.leaving ∙ z.there;
            slot = record {
              frame = c.frame;
              slot = c.slot;
              span = c.span;
              there = ap (λ (l : List (Option Contents)). span_in l c.frame) y.spans
                  ∙ other_span far.spans f c.frame span off ∙ c.there;
              named = c.named;
              at = c.at;
              fits = c.fits;
            };
            leaves = z.leaves;
            contents = z.contents
                ∙ sym (span_words s far id p set f span row x c.frame c.span c.there place
                (words_for len) inside.0 inside.1)
                ∙ sym (ap (λ (l : List ℕ). window l place (words_for len)) y.brought.memory);
          }
    ]
  where
    here_claimed : (l q : ℕ) → is.Here l q ≡ is.Claimed len place v words → ⊥
    here_claimed l q e = cc

-- ---- the sets
pub there_of : (s : Shown) (far : FarState) (id : ℕ) (set : SetState) → AwaySound s far
    → set_in far.sets id ≡ Some set → AreThere far.nodes set.shards
there_of s far id set sound there q shard at =
    let y = ((sound.sets.shaped id set there).current q shard at).0 in
    let n = sound.rows.counted in omega (arith, y, n)

here_near : (len place : ℕ) (o : Object) → o ≡ is.Here len place → is_far o → ⊥
here_near len place o e far = subst is_far e far

no_slot : (slot h : ℕ) → get_or dead_position.slots slot None ≡ Some h → ⊥
no_slot slot h e = some_none (get_or dead_position.slots slot None) h
    (get_or_past dead_position.slots slot None (omega arith)) e

pub gives_up : (s t : Shown) (far new : FarState) (id p : ℕ) (set : SetState) (f n : ℕ)
    (span : Contents) (row : List ℕ) → CanArrive s far id p set f span row
    → HasArrived s t far new id p set f n span row
    → GivesUp s t far new id set p dead_position
gives_up s t far new id p set f n span row x y = record {
  was = x.there;
  inside = live_within set p x.live;
  rest = dead_is_rest (position_of set p);
  others = λ j off. ap (λ m. map.get m j) y.sets
      ∙ left_others far.sets id j (with_position set p dead_position) off;
  after = left_over far new id n (with_position set p dead_position) y.sets y.nodes
      (y.survey ∙ sym (left_whole far id set p dead_position x.whole))
      (there_of s far id set x.sound.away.sound x.there);
  nodes = ap (λ m. length m.nodes) y.nodes
      ∙ left_count _ (with_position set p dead_position);
  room = λ room. subst HaveRoom (sym y.nodes)
      (room_left (with_rows_given far.nodes n) (with_position set p dead_position) room);
  members = y.members;
  leaving = y.leaving;
  joining = y.joining;
  counts = y.counts;
  batch = λ b at. batch_kept s t far new b
      (keeps_leaving s t far new id p set f n span row x y b at);
  each = λ h. elim (named_or_not span.slots h) [
    | inl named ↦
        let m = moved s t far new id p set f n span row x y named.0 h named.1 in
        inr (record {
          slot = named.0;
          named = subst (λ (l : List (Option ℕ)). NamesHandle l named.0 h) x.fetched.slots named.1;
          gone = λ slot e. no_slot slot h e;
          home = y.homes.named h named;
          near = here_near m.len (slot_place span.class f m.slot) (object_at t h) m.here;
        })
    | inr none ↦ inl (record {
      object = (y.brought.others h none).object;
      home = y.homes.others h none;
      stays = λ slot e. absurd (none (
        slot,
        subst (λ (l : List (Option ℕ)). NamesHandle l slot h)
            (sym x.fetched.slots) e,
      ));
    })
  ];
}

pub sound_arrived : (s t : Shown) (far new : FarState) (id p : ℕ) (set : SetState) (f n : ℕ)
    (span : Contents) (row : List ℕ) → CanArrive s far id p set f span row
    → HasArrived s t far new id p set f n span row → Sound t new
sound_arrived s t far new id p set f n span row x y = record {
  here = arrived_here s t far new id p set f n span row x y;
  noted = λ batch there. arrived_noted s t far new id p set f n span row x y batch
      (sym y.leaving ∙ there);
  claimed = arrived_claimed s t far new id p set f n span row x y;
  away = given_whole s t far new id set p dead_position x.sound.away
      (gives_up s t far new id p set f n span row x y);
}

-- ---- last complete contents
pub now_arrived : (s t : Shown) (far new : FarState) (id p : ℕ) (set : SetState) (f n : ℕ)
    (span : Contents) (row : List ℕ) → CanArrive s far id p set f span row
    → HasArrived s t far new id p set f n span row → (h : ℕ) → now t new h ≡ now s far h
now_arrived s t far new id p set f n span row x y h = elim (named_or_not span.slots h) [
  | inl named ↦ named_now named.0 named.1
  | inr none ↦ other_now none
]
  where
    whole : (slot : ℕ) → NamesHandle span.slots slot h → is_gone far h ≡ false
    whole slot named =
        ap (broken_home far) (home_named s far id p set span.slots x.sound.away.sound x.there
        x.fetched.slots slot h named)
        ∙ ap (broken_set far.members) x.there ∙ x.whole

    named_now : (slot : ℕ) → NamesHandle span.slots slot h → now t new h ≡ now s far h
    named_now slot named =
        let w = named_waits s far id p set f span row x slot h named in
        let b = y.brought.brought slot h named in
        let len : b.len ≡ w.len =
        far_same b.len b.version w.len w.version b.words w.words (sym b.was ∙ w.away) in
        let below : slot < slots_of span.class = let k = named_within span.slots slot h named in
        omega (arith, k, x.fetched.valid.sized) in
        let ends = slot_in_run span.class slot x.fetched.valid.in_table below in
        let fit = object_fits w.len span.class w.fits in
        let room = arrives_in s far id p set f span row x in
        let long = fetched_wide s far id p set f span row x in
        brought_now s t far new h w.len w.version (slot_place span.class f slot) w.words w.away
        (whole slot named)
        (b.here ∙ ap (λ (k : ℕ). is.Here k (slot_place span.class f slot)) len)
        (ap (λ (l : List ℕ). get_or l h 0) y.brought.versions ∙ w.stamp)
        (ap (λ (l : List ℕ). window l (slot_place span.class f slot) (words_for w.len))
        y.brought.memory
        ∙ row_put s.memory row (512 * f) (slot * words_of span.class) (words_for w.len)
        (let m = x.sound.here.placed.memory in let within = room.stands.within in
        omega (arith, m, within, long))
        (omega (arith, ends, fit, long)) ∙ sym w.contents)

    other_now : (IsNamed span.slots h → ⊥) → now t new h ≡ now s far h
    other_now none = now_kept s t far new h (y.brought.others h none).object
        (ap (λ (l : List ℕ). get_or l h 0) y.brought.versions)
        (λ len place here.
        let lies = subst (λ (o : Object). LiesAt o len place) (sym here) (refl, refl) in
        let c = x.sound.here.placed.placed h len place lies in
        let inside = slot_inside far s h len place x.sound.here c in
        ap (λ (l : List ℕ). window l place (words_for len)) y.brought.memory
        ∙ span_words s far id p set f span row x c.frame c.span c.there place (words_for len)
        inside.0 inside.1)
        (left_gone s t far new id set p dead_position x.sound.away.sound
        (sound_arrived s t far new id p set f n span row x y).away.sound
        (gives_up s t far new id p set f n span row x y) h (y.homes.others h none))
