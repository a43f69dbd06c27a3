-- What a step of a swap-in does to single objects: those of the position, which were far, are here;
-- every other one, and so each with pins, is as it was.
use Rattle.std.proofs.Common.{◌≡◌, ℕ, false, nat_eq, ◌+◌, ◌*◌, ◌/◌, ◌%◌, ◌^◌, ◌<◌, ◌≤◌, List, Option, Some, None, length, sym, ap, ◌∙◌, subst, arith, inl, inr, get_or-set_same}
use Rattle.cb_class.specs.declared.class.Class.{Class}
use Rattle.cb_class.proofs.Laws.{pages_some}
use Rattle.cb_frame.specs.Runs.{least_run}
use Rattle.cb_ptr.specs.declared.word.State.TheVariants as pointer
use Rattle.cb_ptr.specs.Word.{numbered_state, state_of, hot_of, len_of, place_of, pins_of}
use Rattle.cb_ptr.proofs.Laws.{len_of-below}
use Rattle.cb_set.specs.SetState.{SetState, position_of}
use Rattle.cb_span.specs.declared.temp.Temp.TheVariants.{Hot}
use Rattle.cb_span.specs.Contents.{Contents, span_of}
use Rattle.cb_span.specs.Places.{slot_place}
use Rattle.cb_types.specs.declared.reply.Reply.{Reply}
use Rattle.cb_types.specs.declared.reply.Reply.TheVariants as answer
use Rattle.cb_world.specs.declared.object.Object.{Object}
use Rattle.cb_world.specs.declared.object.Object.TheVariants as is
use Rattle.cb_world.specs.declared.shown.Shown.{Shown}
use Rattle.cb_world.specs.Shown.{Fits, object_at}
use Rattle.cb_world.specs.Plain.{Words}
use Rattle.cb_world.specs.StillDesk.{here_is}
use Rattle.cb_world.specs.Sets.{set_in}
use Rattle.cb_world.specs.declared.homes.Home.{Home}
use Rattle.cb_world.specs.Homes.{home_at}
use Rattle.cb_world.specs.FarState.{FarState, span_in}
use Rattle.cb_world.specs.LocalSound.{LiesAt}
use Rattle.cb_world.specs.World.{word_at, IsKnown}
use Rattle.cb_world.proofs.Laws.{KeepsPins, StepKeeps, pins_same}
use Rattle.cb_swapin.specs.Named.{NamesHandle}
use Rattle.cb_swapin.specs.SwapStep.{IsBringStep, IsSwapped, brought_word}
use Rattle.cb_swapin.proofs.SlotNames.{named_or_not}
use Rattle.cb_swapin.proofs.Waits.{free_run}
use Rattle.cb_swapin.proofs.SwapAnswers.{only_swapped}
use Rattle.cb_swapin.proofs.SwapWords.{far_within}
use Rattle.cb_swapin.proofs.SwapKeeps.{keeps_far, step_cases}

-- ---- an object that a position names is far
pub record IsFarAt (x : Words) (h : ℕ) : Type 0 where
  pub within : h < length x.words
  pub far : state_of (word_at x h) ≡ pointer.Far
  pub no_pins : pins_of (word_at x h) ≡ 0

pub named_far : (x : Words) (far : FarState) (s : Shown) (id p : ℕ) (set : SetState)
    → IsKnown x far s → set_in far.sets id ≡ Some set → (slot h : ℕ)
    → NamesHandle (position_of set p).slots slot h → IsFarAt x h
named_far x far s id p set k there slot h named =
    let z = (k.sound.away.sound.sets.worded id set there).1.holds p slot h named in
    let below : h < length x.words = (let n = far_within s h z.len z.version z.words z.away in
    let m = k.shows.objects in omega (arith, n, m)) in
    let fit : Fits (is.Far z.len z.version z.words) (word_at x h) =
    subst (λ (o : Object). Fits o (word_at x h)) z.away (k.shows.fit h below) in record {
      within = below;
      far = ap numbered_state (let e : word_at x h % 4 ≡ 1 = omega (arith, fit.0) in e);
      no_pins = omega (arith, fit.0);
    }

-- ---- how the word of an object that was brought in reads
pub record IsBroughtWord (w len : ℕ) : Type 0 where
  pub here : state_of w ≡ pointer.Here
  pub cold : hot_of w ≡ false
  pub no_pins : pins_of w ≡ 0
  pub len_is : len_of w ≡ len

pub brought_reads : (len place : ℕ) → len < 2 ^ 16 → IsBroughtWord (brought_word len place) len
brought_reads len place short = reads (brought_word len place) len place short (omega arith)
  where
    reads : (w len place : ℕ) → len < 2 ^ 16 → w ≡ 2 + len * 8192 + place * 536870912
        → IsBroughtWord w len
    reads w len place short e = record {
      here = ap numbered_state (let a : w % 4 ≡ 2 = omega (arith, e) in a);
      cold = ap (λ (n : ℕ). nat_eq n 1) (let a : w / 4 % 2 ≡ 0 = omega (arith, e) in a);
      no_pins = omega (arith, e);
      len_is = omega (arith, e, short);
    }

pub word_reads : (x y : Words) (far new : FarState) (id p : ℕ) (set : SetState) (f n : ℕ)
    → IsSwapped x y far new id p set f n → (slot h : ℕ) → NamesHandle (position_of set p).slots slot h
    → IsBroughtWord (word_at y h) (len_of (word_at x h))
word_reads x y far new id p set f n w slot h named =
    subst (λ (m : ℕ). IsBroughtWord m (len_of (word_at x h))) (sym (w.words.here slot h named))
    (brought_reads (len_of (word_at x h)) (slot_place w.state.class f slot)
    (len_of-below (word_at x h)))

-- An object that came in: it was far and without pins, and is here at its slot of the frame, with
-- its length, not hot and without pins.
pub record HasComeIn (x y : Words) (class : Class) (f slot h : ℕ) : Type 0 where
  pub was : IsFarAt x h
  pub reads : IsBroughtWord (word_at y h) (len_of (word_at x h))
  pub place : place_of (word_at y h) ≡ slot_place class f slot

pub come_in : (x y : Words) (far new : FarState) (s t : Shown) (id p : ℕ) (set : SetState) (f n : ℕ)
    → IsKnown x far s → IsKnown y new t → set_in far.sets id ≡ Some set
    → least_run far.frames set.pages ≡ Some f → (w : IsSwapped x y far new id p set f n)
    → (slot h : ℕ) → NamesHandle (position_of set p).slots slot h → HasComeIn x y w.state.class f slot h
come_in x y far new s t id p set f n k l there least w slot h named =
    let was = named_far x far s id p set k there slot h named in
    let reads = word_reads x y far new id p set f n w slot h named in
    let below : h < length y.words =
    (let n = w.words.count in let m = was.within in omega (arith, n, m)) in
    let object : object_at t h ≡ is.Here (len_of (word_at y h)) (place_of (word_at y h)) =
    here_is (object_at t h) (word_at y h) (l.shows.fit h below) reads.here in
    let span = span_of w.state.class Hot (position_of set p).slots in
    let some : 1 ≤ set.pages =
    (let n = pages_some w.state.class w.state.in_table in omega (arith, n, w.state.paged)) in
    let room = (free_run far f set.pages k.sound.here.frames some least).stands.within in
    let frame : span_in new.spans f ≡ Some span =
    ap (λ (c : List (Option Contents)). span_in c f) w.state.spans
    ∙ get_or-set_same far.spans f (Some span) None (omega (arith, some, room)) in
    let z = l.sound.here.placed.named f slot h span frame named in
    let lies : LiesAt (is.Here (len_of (word_at y h)) (place_of (word_at y h))) z.len
    (slot_place w.state.class f slot) =
    subst (λ (o : Object). LiesAt o z.len (slot_place w.state.class f slot)) object z.lies in record {
      was = was;
      reads = reads;
      place = sym lies.1;
    }

-- ---- every other object
-- the words after a position came in: its objects had no pins and have none, and others stay
swapped_pins : (x y : Words) (far new : FarState) (id p : ℕ) (set : SetState) (f n : ℕ) (s : Shown)
    → IsKnown x far s → set_in far.sets id ≡ Some set → IsSwapped x y far new id p set f n
    → KeepsPins x y
swapped_pins x y far new id p set f n s k there w = record {
  settings = w.words.settings;
  count = w.words.count;
  versions = w.words.versions;
  pins = λ h. elim (named_or_not (position_of set p).slots h) [
    | inl named ↦ (word_reads x y far new id p set f n w named.0 h named.1).no_pins
        ∙ sym (none_of h named.0 named.1)
    | inr off ↦ ap pins_of (w.words.others h off)
  ];
  pinned = λ h some. elim (named_or_not (position_of set p).slots h) [
    | inl named ↦ absurd (let none = none_of h named.0 named.1 in omega (arith, none, some))
    | inr off ↦ w.words.others h off
  ];
}
  where
    none_of : (h slot : ℕ) → NamesHandle (position_of set p).slots slot h
        → pins_of (word_at x h) ≡ 0
    none_of h slot named = (named_far x far s id p set k there slot h named).no_pins

pub swap_keeps : {rows : SetState → ℕ} (x y : Words) (far new : FarState) (id p : ℕ) (r : Reply)
    (s : Shown) → IsKnown x far s → IsBringStep rows x y far new id p r → StepKeeps x y far new
swap_keeps {rows = rows} x y far new id p r s k z = record {
  far = keeps_far x y far new id p r z;
  words = step_cases (KeepsPins x y) x y far new id p r z
      (λ same. subst (KeepsPins x) (sym same.0) (pins_same x))
      (λ f whole least e w. swapped_pins x y far new id p z.set f (rows z.set) s k z.there w);
}

-- ---- a step that came into a frame
-- each object that the position names came in
pub step_comes_in : {rows : SetState → ℕ} (x y : Words) (far new : FarState) (s t : Shown)
    (id p f : ℕ) → IsKnown x far s → IsKnown y new t → (z : IsBringStep rows x y far new id p (answer.Swapped f))
    → (slot h : ℕ) → NamesHandle (position_of z.set p).slots slot h
    → HasComeIn x y z.change.state.class f slot h
step_comes_in {rows = rows} x y far new s t id p f k l z =
    come_in x y far new s t id p z.set f (rows z.set) k l z.there (only_swapped far id z.set f (sym z.reply)).1
    z.change

-- and so an object whose home it is
pub home_comes_in : {rows : SetState → ℕ} (x y : Words) (far new : FarState) (s t : Shown) (h : ℕ)
    (home : Home) (f : ℕ)
    → IsKnown x far s → IsKnown y new t → home_at far.homes h ≡ Some home
    → (z : IsBringStep rows x y far new home.set home.position (answer.Swapped f))
    → HasComeIn x y z.change.state.class f home.slot h
home_comes_in x y far new s t h home f k l at z =
    let lies = k.sound.away.sound.away.home h home at in
    let same : lies.0 ≡ z.set = set_same lies.0 z.set (sym lies.1 ∙ z.there) in
    step_comes_in x y far new s t home.set home.position f k l z home.slot h
    (subst (λ (q : SetState). NamesHandle (position_of q home.position).slots home.slot h) same
    lies.2)
  where
    set_same : (a b : SetState) → Some a ≡ Some b → a ≡ b
    set_same a b e = cc
