-- Spans all of whose objects are claimed: what is known of such a group, where the words of its
-- objects lie, and what stays while objects that are not far change.
use Rattle.std.proofs.Common.{◌≡◌, ◌≢◌, ◌⊎◌, ℕ, ◌+◌, ◌*◌, ◌^◌, ◌<◌, ◌≤◌, Bool, List, [], length, get_or, All, Option, None, Some, map as mapped, sym, refl, ap, ◌∙◌, subst, arith, inl, inr}
use Rattle.std.specs.List.{Contains, AllPairs}
use Rattle.std.proofs.lemmas.List.{get_or_default, get_or-map, get_or_append_left, length-map}
use Rattle.std.proofs.lemmas.List.Elements.{All-contains}
use Rattle.cb_class.specs.Class.{IsClassOf, pages_of, words_of}
use Rattle.cb_gf256.specs.Rows.{row_at}
use Rattle.cb_node.specs.NodesState.{NodesState}
use Rattle.cb_ptr.specs.Word.{len_of, place_of}
use Rattle.cb_span.specs.Contents.{Contents, handle_at}
use Rattle.cb_span.specs.Places.{slot_place}
use Rattle.cb_world.specs.declared.homes.Home.{Home}
use Rattle.cb_world.specs.declared.leaving.Former.{Former}
use Rattle.cb_world.specs.declared.object.Object.{Object}
use Rattle.cb_world.specs.declared.object.Object.TheVariants as is
use Rattle.cb_world.specs.declared.shown.Shown.{Shown}
use Rattle.cb_world.specs.Shown.{object_at}
use Rattle.cb_world.specs.Counts.{CountsState}
use Rattle.cb_world.specs.FarSound.{AwaySound, FarSound, batch_rows}
use Rattle.cb_world.specs.FarState.{FarState, span_in, handle_in}
use Rattle.cb_world.specs.Leaving.{LeavingState}
use Rattle.cb_world.specs.Homes.{home_at}
use Rattle.cb_world.specs.LocalSound.{LocalSound, LiesAt}
use Rattle.cb_world.specs.Memory.{window, words_for}
use Rattle.cb_world.specs.Now.{broken_home, broken_set, now, now_as}
use Rattle.cb_world.specs.Reserved.{IsReserved, without_batch}
use Rattle.cb_world.specs.RowWords.{words_in, row_of}
use Rattle.cb_world.specs.SetAdded.{is_far}
use Rattle.cb_world.specs.Sets.{SetMap}
use Rattle.cb_world.specs.SetWord.{IsSpanWord}
use Rattle.cb_world.specs.Sound.{AreNoted, IsLeaving, IsNoted, Sound}
use Rattle.cb_world.proofs.Laws.{was_far, frames_as, slot_inside, some_same, one_slot, batch_given_up_whole, gone_sets}
use Rattle.cb_evict.specs.Candidates.{AreUnique}
use Rattle.cb_evict.specs.Claims.{AreApart, IsNone}
use Rattle.cb_evict.specs.Looking.{IsIn}
use Rattle.cb_evict.proofs.Claims.{among, no_former}
use Rattle.cb_evict.proofs.Noted.{none_claimed}
use Rattle.cb_evict.proofs.SmallWords.{row_window}
use Rattle.cb_evict.proofs.Standing.{are_unique, named_at, names_span}
use Rattle.cb_evict.proofs.Options.{none_some}

-- ---- the local part
-- it does not depend on sets, nodes, the batch and what is counted
pub here_beside : (s : Shown) (far : FarState) (sets : SetMap) (nodes : NodesState)
    (leaving : Option LeavingState) (counts : CountsState) → LocalSound s far
    → LocalSound s (record far { sets = sets; nodes = nodes; leaving = leaving; counts = counts })
here_beside s far sets nodes leaving counts x = record {
  known = record {
    first = x.known.first;
    least = x.known.least;
    versioned = x.known.versioned;
    bounded = x.known.bounded;
    made = x.known.made;
    stamped = x.known.stamped;
  };
  frames = frames_as far _ refl refl x.frames;
  placed = record {
    memory = x.placed.memory;
    placed = x.placed.placed;
    named = λ f slot h span there named. let y = x.placed.named f slot h span there named in
        record { len = y.len; lies = y.lies };
  };
}

-- ---- objects that are not far
-- the object is as it was, or is not far, before and after
abbrev pub IsNotFarBoth : Shown → Shown → ℕ → Type 0
IsNotFarBoth s t h = (object_at t h ≡ object_at s h)
    ⊎ ((is_far (object_at s h) → ⊥) × (is_far (object_at t h) → ⊥))

far_then : (s t : Shown) (h len v : ℕ) (words : List ℕ) → IsNotFarBoth s t h
    → object_at s h ≡ is.Far len v words → object_at t h ≡ is.Far len v words
far_then s t h len v words (inl same) e = same ∙ e
far_then s t h len v words (inr near) e = absurd (near.0 (was_far (object_at s h) len v words e))

far_before : (s t : Shown) (h len v : ℕ) (words : List ℕ) → IsNotFarBoth s t h
    → object_at t h ≡ is.Far len v words → object_at s h ≡ is.Far len v words
far_before s t h len v words (inl same) e = sym same ∙ e
far_before s t h len v words (inr near) e = absurd (near.1 (was_far (object_at t h) len v words e))

-- the far part stays sound, where the rows of a batch that leaves stay
pub quiet_away : (s t : Shown) (far : FarState) → ((h : ℕ) → IsNotFarBoth s t h)
    → ((b : LeavingState) → far.leaving ≡ Some b → batch_rows t b ≡ batch_rows s b)
    → FarSound s far → FarSound t far
quiet_away s t far quiet rows sound = record {
  sound = record {
    sets = record {
      shaped = x.sets.shaped;
      worded = λ id set there. let w = x.sets.worded id set there in (
        w.0,
        record {
          word = w.1.word;
          holds = λ p slot h e. let o = w.1.holds p slot h e in record {
            len = o.len;
            version = o.version;
            words = o.words;
            class = o.class;
            paged = o.paged;
            away = far_then s t h o.len o.version o.words (quiet h) o.away;
            fits = o.fits;
            sized = o.sized;
            contents = o.contents;
          };
        },
      );
      live = x.sets.live;
      kept = x.sets.kept;
      numbered = x.sets.numbered;
    };
    away = record {
      away = λ h len v words e. x.away.away h len v words
          (far_before s t h len v words (quiet h) e);
      home = x.away.home;
      named = x.away.named;
    };
    rows = x.rows;
    batch = λ b there. let y = x.batch b there in let same = sym (rows b there) in record {
      word = λ made. subst (IsSpanWord b.pages (length b.frames) (length b.parities)) same
          (y.word made);
      bare = y.bare;
      count = y.count;
      put = λ p shard at up.
          y.put p shard at up ∙ ap (λ (l : List (List ℕ)). Some (row_at l p)) same;
      apart = y.apart;
    };
  };
  join = sound.join;
  survey = sound.survey;
}
  where
    x : AwaySound s far
    x = sound.sound

pub claimed_not_far : (o : Object) (len place v : ℕ) (words : List ℕ)
    → o ≡ is.Claimed len place v words → is_far o → ⊥
claimed_not_far o len place v words e f = subst is_far e f

pub here_not_far : (o : Object) (len place : ℕ) → o ≡ is.Here len place → is_far o → ⊥
here_not_far o len place e f = subst is_far e f

-- a note of an object that is as it was
pub noted_still : (s t : Shown) (batch rest : LeavingState) (h : ℕ) → batch.words ≡ rest.words
    → object_at t h ≡ object_at s h → IsNoted s batch h → IsNoted t rest h
noted_still s t batch rest h words same n = record {
  former = n.former;
  noted = subst (λ (l : List Former). Contains l n.former) words n.noted;
  handle = n.handle;
  free = n.free;
  below = n.below;
  version = n.version;
  words = n.words;
  claimed = same ∙ n.claimed;
  small = n.small;
}

-- ---- the group
-- All spans of a batch have its length, and all their objects are claimed at the words that are
-- noted, one of each, and their words stand at their places. Each other claimed object is of a
-- batch that is leaving, which has none of these spans; all else of the far state is sound.
pub record IsGroup (t : Shown) (far : FarState) (batch : LeavingState) : Type 0 where
  pub here : LocalSound t far
  pub away : FarSound t far
  pub apart : AllPairs (λ f g. f ≢ g) batch.frames
  pub held : (f : ℕ) → Contains batch.frames f → (span : Contents)
      × (span_in far.spans f ≡ Some span) × (pages_of span.class ≡ batch.pages)
  pub each : (h : ℕ) → IsIn far.spans batch.frames h → IsNoted t batch h
  pub only : All (λ former. IsIn far.spans batch.frames former.handle) batch.words
  pub each_once : AreApart batch.words
  pub contents : (h len place v : ℕ) (words : List ℕ) → IsIn far.spans batch.frames h
      → object_at t h ≡ is.Claimed len place v words → words ≡ window t.memory place (words_for len)
  pub others : (h len place v : ℕ) (words : List ℕ) → IsNone batch.words h
      → object_at t h ≡ is.Claimed len place v words → IsLeaving t far h len place words
  pub noted : (b : LeavingState) → far.leaving ≡ Some b → AreNoted t far b
  pub out : (b : LeavingState) → far.leaving ≡ Some b → (f : ℕ) → Contains b.frames f
      → Contains batch.frames f → ⊥

-- in a sound world the batch that is leaving is one, over the far state without it
pub leaving_group : (s : Shown) (far : FarState) (batch : LeavingState) → Sound s far
    → far.leaving ≡ Some batch → IsGroup s (without_batch far batch) batch
leaving_group s far batch sound there =
    let n = sound.noted batch there in record {
      here = here_beside s far _ _ None far.counts sound.here;
      away = batch_given_up_whole s far batch sound.away there n.reserved;
      apart = n.apart;
      held = n.held;
      each = λ h (f, c, (slot, named)).
          let span = names_span far.spans f h (slot, named) in
          n.each f slot h span.0 c span.1 (named_at far.spans f slot h span.0 span.1 named);
      only = λ k e l. let x = n.only k e l in (x.0, x.2, (x.1, x.3));
      each_once = n.each_once;
      contents = λ h len place v words x e. (sound.claimed h len place v words e).contents;
      others = λ h len place v words none e.
          absurd (none_claimed s far batch sound there h len place v words none e);
      noted = λ b e. absurd (none_some b e);
      out = λ b e f x y. none_some b e;
    }

-- what an object holds does not depend on it
pub now_without : (s : Shown) (far : FarState) (batch : LeavingState) → IsReserved far batch
    → (h : ℕ) → now s (without_batch far batch) h ≡ now s far h
now_without s far batch reserved h =
    ap (λ (lost : Bool). now_as s h lost (object_at s h)) (by (home_at far.homes h))
  where
    by : (o : Option Home) → broken_home (without_batch far batch) o ≡ broken_home far o
    by None = refl
    by (Some home) = ap (broken_set far.members) (gone_sets far batch reserved home.set)

module _ (t : Shown) (far : FarState) (batch : LeavingState) (g : IsGroup t far batch) where
  pub unique : AreUnique far.spans (length t.objects)
  unique = are_unique far t (length t.objects) g.here refl

  pub at_place : (p : ℕ) → p < length batch.frames → Contains batch.frames (get_or batch.frames p 0)
  at_place p within = (p, within, get_or_default batch.frames p (get_or batch.frames p 0) 0 within)

  -- an object is one of the group, or is none of the noted ones
  pub either : (h : ℕ) → IsIn far.spans batch.frames h ⊎ IsNone batch.words h
  either h = elim (among batch.words h) [
    | inl (k, l, e) ↦ inl (subst (IsIn far.spans batch.frames) (e no_former) (g.only k no_former l))
    | inr none ↦ inr none
  ]

  pub not_in : (h : ℕ) → IsNone batch.words h → IsIn far.spans batch.frames h → ⊥
  not_in h none x = let n = g.each h x in
      All-contains (λ f. f.handle ≢ h) batch.words n.former none n.noted n.handle

  pub out_none : (h : ℕ) → (IsIn far.spans batch.frames h → ⊥) → IsNone batch.words h
  out_none h out = elim (either h) [ inl x ↦ absurd (out x) | inr none ↦ none ]

  -- where an object of the group lies
  pub record LiesHere (f slot : ℕ) (span : Contents) (word : ℕ) : Type 0 where
    pub place : place_of word ≡ slot_place span.class f slot
    pub fits : IsClassOf (len_of word) span.class
    pub room : slot * words_of span.class + words_for (len_of word) ≤ 512 * pages_of span.class

  pub lies_here : (f slot h : ℕ) (span : Contents) (n : IsNoted t batch h)
      → span_in far.spans f ≡ Some span → handle_at span slot ≡ Some h
      → LiesHere f slot span n.former.word
  lies_here f slot h span n there named =
      let len = len_of n.former.word in let place = place_of n.former.word in
      let lies : LiesAt (object_at t h) len place =
      subst (λ (o : Object). LiesAt o len place) (sym n.claimed) (refl, refl) in
      let x = g.here.placed.placed h len place lies in
      let one = one_slot far t h len place f slot span g.here lies x there named in
      let span_same : x.span ≡ span =
      some_same x.span span (sym x.there ∙ ap (span_in far.spans) (sym one.0) ∙ there) in
      let inside = slot_inside far t h len place g.here x in
      let at : place ≡ slot_place span.class f slot =
      x.at ∙ ap (λ (y : Contents). slot_place y.class x.frame x.slot) span_same
      ∙ ap (λ (i : ℕ). slot_place span.class i x.slot) (sym one.0)
      ∙ ap (λ (i : ℕ). slot_place span.class f i) (sym one.1) in
      let frame = one.0 in
      record {
        place = at;
        fits = subst (λ (y : Contents). IsClassOf len y.class) span_same x.fits;
        room = (let n = ap (λ (y : Contents). pages_of y.class) span_same in
            omega (arith, inside.1, at, frame, n));
      }

  -- its words stand in its slot of the row of the span
  pub in_row : (f slot h : ℕ) (span : Contents) (n : IsNoted t batch h) → Contains batch.frames f
      → span_in far.spans f ≡ Some span → handle_at span slot ≡ Some h
      → n.words ≡ window (words_in (row_of (window t.memory (512 * f) (512 * batch.pages))))
      (slot * words_of span.class) (words_for (len_of n.former.word))
  in_row f slot h span n c there named =
      let count = words_for (len_of n.former.word) in
      let l = lies_here f slot h span n there named in
      let x : IsIn far.spans batch.frames h =
      (f, c, (slot, ap (λ (o : Option Contents). handle_in o slot) there ∙ named)) in
      let here : n.words ≡ window t.memory (512 * f + slot * words_of span.class) count =
      g.contents h (len_of n.former.word) (place_of n.former.word) n.version n.words x n.claimed
      ∙ ap (λ (i : ℕ). window t.memory i count) l.place in
      let held = g.held f c in
      let long = ap (λ (y : Contents). pages_of y.class) (some_same span held.0 (sym there ∙ held.1)) in
      here ∙ sym (row_window t.memory (512 * f) (512 * batch.pages) (slot * words_of span.class) count
      (omega (arith, l.room, long, held.2))
      (subst (λ (ws : List ℕ). All (λ w. w < 2 ^ 64) ws) here n.small))

  -- the row of a span
  pub row_is : (p : ℕ) → p < length batch.frames → row_at (batch_rows t batch) p
      ≡ row_of (window t.memory (512 * get_or batch.frames p 0) (512 * batch.pages))
  row_is p within =
      let row : ℕ → List ℕ = λ (f : ℕ). row_of (window t.memory (512 * f) (512 * batch.pages)) in
      let n = length-map batch.frames row in
      get_or_append_left (mapped row batch.frames) batch.parities [] p (omega (arith, n, within))
      ∙ get_or-map row batch.frames p 0 [] within
