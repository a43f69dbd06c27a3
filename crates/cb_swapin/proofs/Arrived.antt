-- A span has arrived in free frames: the local part of the world is sound.
use Rattle.std.proofs.Common.{◌≡◌, ◌≢◌, ◌⊎◌, ◌↔◌, ℕ, ◌*◌, ◌<◌, ◌≤◌, List, Option, Some, None, length, get_or, set, refl, sym, ap, ◌∙◌, subst, arith, inl, inr, length-set, get_or-set_same, get_or-set_other}
use Rattle.std.proofs.lemmas.Bool.{cases_eq}
use Rattle.cb_class.specs.Class.{IsClassOf, pages_of}
use Rattle.cb_class.proofs.Laws.{pages_some}
use Rattle.cb_frame.specs.FreeFrames.{with_run_taken}
use Rattle.cb_set.specs.SetState.{SetState, dead_position, position_of, with_position}
use Rattle.cb_span.specs.Contents.{Contents, handle_at, live_count}
use Rattle.cb_span.specs.Places.{slot_place}
use Rattle.cb_span.proofs.Laws.{live_count-pos}
use Rattle.cb_world.specs.declared.object.Object.{Object}
use Rattle.cb_world.specs.declared.object.Object.TheVariants as is
use Rattle.cb_world.specs.declared.shown.Shown.{Shown}
use Rattle.cb_world.specs.Shown.{object_at, version_at, never}
use Rattle.cb_world.specs.RowWords.{words_in}
use Rattle.cb_world.specs.Fetched.{with_rows_given}
use Rattle.cb_world.specs.LeftOver.{nodes_left, sets_left}
use Rattle.cb_world.specs.FarState.{FarState, span_in}
use Rattle.cb_world.specs.LocalSound.{LocalSound, AreFrames, AreKnown, ArePlaced, HasSlot, IsStamped, LiesAt, NamesObject}
use Rattle.cb_world.proofs.Laws.{frames_as, frames_put, length_put, live_names}
use Rattle.cb_swapin.specs.Named.{AreCleared, NamesHandle, IsNamed}
use Rattle.cb_swapin.specs.BroughtIn.{IsSpanBrought}
use Rattle.cb_swapin.proofs.SlotNames.{named_or_not}
use Rattle.cb_swapin.proofs.SlotsBrought.{far_same}
use Rattle.cb_swapin.proofs.Waits.{CanArrive, arrives_in, named_waits}

-- the spans with this one in a frame
abbrev pub set_at : List (Option Contents) → ℕ → Contents → List (Option Contents)
set_at spans f span = set spans f (Some span)

-- What there is once the span is in the frame, and its position is dead.
pub record HasArrived (s t : Shown) (far new : FarState) (id p : ℕ) (set : SetState) (f n : ℕ)
    (span : Contents) (row : List ℕ) : Type 0 where
  pub brought : IsSpanBrought span.slots span.class f row s t
  pub homes : AreCleared span.slots far.homes new.homes
  pub frames : new.frames ≡ with_run_taken far.frames f (pages_of span.class)
  pub spans : new.spans ≡ set_at far.spans f span
  pub sets : new.sets ≡ sets_left far.sets id (with_position set p dead_position)
  pub nodes : new.nodes
      ≡ nodes_left (with_rows_given far.nodes n) (with_position set p dead_position)
  pub first : new.first ≡ far.first
  pub made : new.made ≡ far.made
  pub members : new.members ≡ far.members
  pub leaving : new.leaving ≡ far.leaving
  pub joining : new.joining ≡ far.joining
  pub counts : new.counts ≡ far.counts
  pub survey : new.survey ≡ far.survey

none_some : (span : Contents) → None ≡ Some span → ⊥
none_some span e = cc

span_same : (a b : Contents) → Some a ≡ Some b → a ≡ b
span_same a b e = cc

-- the span of the frame, and those of the others
pub here_span : (spans : List (Option Contents)) (f : ℕ) (span : Contents) → f < length spans
    → span_in (set_at spans f span) f ≡ Some span
here_span spans f span within = get_or-set_same spans f (Some span) None within

pub other_span : (spans : List (Option Contents)) (f g : ℕ) (span : Contents) → g ≢ f
    → span_in (set_at spans f span) g ≡ span_in spans g
other_span spans f g span off = get_or-set_other spans f g (Some span) None off

-- an object that the span names, before and after
pub record IsBroughtIn (s t : Shown) (span : Contents) (f h : ℕ) : Type 0 where
  pub slot : ℕ
  pub named : NamesHandle span.slots slot h
  pub len : ℕ
  pub version : ℕ
  pub words : List ℕ
  pub was : object_at s h ≡ is.Far len version words
  pub here : object_at t h ≡ is.Here len (slot_place span.class f slot)
  pub fits : IsClassOf len span.class

-- the first of the frames is one of local memory, and has no span
pub free_frame : (s : Shown) (far : FarState) (id p : ℕ) (set : SetState) (f : ℕ)
    (span : Contents) (row : List ℕ) → CanArrive s far id p set f span row
    → (f < length far.spans) × (span_in far.spans f ≡ None)
free_frame s far id p set f span row x =
    let room = arrives_in s far id p set f span row x in
    let some = pages_some span.class x.fetched.valid.in_table in
    let within = room.stands.within in (omega (arith, some, within), room.none)

pub moved : (s t : Shown) (far new : FarState) (id p : ℕ) (set : SetState) (f n : ℕ)
    (span : Contents) (row : List ℕ) → CanArrive s far id p set f span row
    → HasArrived s t far new id p set f n span row → (slot h : ℕ) → NamesHandle span.slots slot h
    → IsBroughtIn s t span f h
moved s t far new id p set f n span row x y slot h named =
    let b = y.brought.brought slot h named in
    let w = named_waits s far id p set f span row x slot h named in record {
      slot = slot;
      named = named;
      len = b.len;
      version = b.version;
      words = b.words;
      was = b.was;
      here = b.here;
      fits = subst (λ (n : ℕ). IsClassOf n span.class)
          (far_same w.len w.version b.len b.version w.words b.words (sym w.away ∙ b.was)) w.fits;
    }

-- each object is moved, or as it was
pub each_moved : (s t : Shown) (far new : FarState) (id p : ℕ) (set : SetState) (f n : ℕ)
    (span : Contents) (row : List ℕ) → CanArrive s far id p set f span row
    → HasArrived s t far new id p set f n span row → (h : ℕ)
    → IsBroughtIn s t span f h ⊎ ((object_at t h ≡ object_at s h) × (IsNamed span.slots h → ⊥))
each_moved s t far new id p set f n span row x y h = elim (named_or_not span.slots h) [
  | inl named ↦ inl (moved s t far new id p set f n span row x y named.0 h named.1)
  | inr none ↦ inr ((y.brought.others h none).object, none)
]

far_never : (len v : ℕ) (words : List ℕ) → is.Far len v words ≡ never → ⊥
far_never len v words e = cc

here_never : (len place : ℕ) → is.Here len place ≡ never → ⊥
here_never len place e = cc

pub arrived_known : (s t : Shown) (far new : FarState) (id p : ℕ) (set : SetState) (f n : ℕ)
    (span : Contents) (row : List ℕ) → CanArrive s far id p set f span row
    → HasArrived s t far new id p set f n span row → AreKnown t new
arrived_known s t far new id p set f n span row x y = record {
  first = y.brought.first ∙ x.sound.here.known.first ∙ sym y.first;
  least = omega (arith, y.first, x.sound.here.known.least);
  versioned = λ h below. let stays = ap (λ (l : List ℕ). get_or l h 0) y.brought.versions in
      omega (
        arith,
        y.first,
        stays,
        x.sound.here.known.versioned h (let k = y.made in omega (arith, below, k)),
      );
  bounded = (let k = y.brought.objects in
      omega (arith, y.made, k, x.sound.here.known.bounded));
  made = λ h below. subst (λ (m : ℕ). m ≤ h ↔ (object_at t h ≡ never)) (sym y.made)
      (made h (let k = y.brought.objects in omega (arith, below, k))
      (each_moved s t far new id p set f n span row x y h));
  stamped = λ h. elim (each_moved s t far new id p set f n span row x y h) [
    | inl m ↦ subst (λ (o : Object). IsStamped o (version_at t h)) (sym m.here) tt
    | inr same ↦ subst (λ (o : Object). IsStamped o (version_at t h)) (sym same.0)
        (subst (λ (l : List ℕ). IsStamped (object_at s h) (get_or l h 0)) (sym y.brought.versions)
        (x.sound.here.known.stamped h))
  ];
}
  where
    made : (h : ℕ) → h < length s.objects
        → IsBroughtIn s t span f h ⊎ ((object_at t h ≡ object_at s h) × (IsNamed span.slots h → ⊥))
        → far.made ≤ h ↔ (object_at t h ≡ never)
    made h below (inl m) = (
      (λ past. absurd (far_never m.len m.version m.words (sym m.was
          ∙ (x.sound.here.known.made h below).0 past))),
      (λ none. absurd (here_never m.len (slot_place span.class f m.slot) (sym m.here ∙ none))),
    )
    made h below (inr same) = subst (λ (o : Object). far.made ≤ h ↔ (o ≡ never)) (sym same.0)
        (x.sound.here.known.made h below)

pub arrived_frames : (s t : Shown) (far new : FarState) (id p : ℕ) (set : SetState) (f n : ℕ)
    (span : Contents) (row : List ℕ) → CanArrive s far id p set f span row
    → HasArrived s t far new id p set f n span row → AreFrames new
arrived_frames s t far new id p set f n span row x y = frames_as _ new y.frames y.spans
    (frames_put far f span (with_run_taken far.frames f (pages_of span.class)) x.sound.here.frames
    (arrives_in s far id p set f span row x).stands x.fetched.valid some)
  where
    some : 1 ≤ live_count span
    some = let z = live_names (position_of set p).slots
        (sym (x.sound.away.sound.sets.live id p set x.there) ∙ x.live) in
        live_count-pos span z.0 z.1
        (subst (λ (l : List (Option ℕ)). NamesHandle l z.0 z.1) (sym x.fetched.slots) z.2)

no_far : (len v place n : ℕ) (words : List ℕ) (o : Object) → o ≡ is.Far len v words
    → LiesAt o n place → ⊥
no_far len v place n words o e lies = subst (λ (q : Object). LiesAt q n place) e lies

pub arrived_placed : (s t : Shown) (far new : FarState) (id p : ℕ) (set : SetState) (f n : ℕ)
    (span : Contents) (row : List ℕ) → CanArrive s far id p set f span row
    → HasArrived s t far new id p set f n span row → ArePlaced t new
arrived_placed s t far new id p set f n span row x y = record {
  memory = ap length y.brought.memory ∙ length_put s.memory (512 * f) (words_in row)
      ∙ sound.memory
      ∙ ap (λ (k : ℕ). 512 * k) (sym (ap length y.spans ∙ length-set far.spans f (Some span)));
  placed = λ h len place lies. subst (λ (l : List (Option Contents)). HasSlot l h len place)
      (sym y.spans) (placed h len place lies (each_moved s t far new id p set f n span row x y h));
  named = λ g slot h other there named. elim (cases_eq g f) [
    | inl same ↦
        let e : span ≡ other = span_same span other (sym (here_span far.spans f span frame.0)
        ∙ ap (span_in (set_at far.spans f span)) (sym same)
        ∙ ap (λ (l : List (Option Contents)). span_in l g) (sym y.spans) ∙ there) in
        let m = moved s t far new id p set f n span row x y slot h
        (subst (λ (c : Contents). handle_at c slot ≡ Some h) (sym e) named) in
        let b = y.brought.brought slot h
        (subst (λ (c : Contents). handle_at c slot ≡ Some h) (sym e) named) in
        subst (NamesObject t g slot h) e (subst (λ (k : ℕ). NamesObject t k slot h span)
        (sym same) (record {
          len = b.len;
          lies = subst (λ (o : Object). LiesAt o b.len (slot_place span.class f slot))
              (sym b.here) (refl, refl);
        }))
    | inr off ↦
        let z = sound.named g slot h other (sym (other_span far.spans f g span off)
        ∙ ap (λ (l : List (Option Contents)). span_in l g) (sym y.spans) ∙ there) named in record {
          len = z.len;
          lies = elim (each_moved s t far new id p set f n span row x y h) [
            | inl m ↦ absurd (no_far m.len m.version (slot_place other.class g slot) z.len m.words
                (object_at s h) m.was z.lies)
            | inr same ↦ subst (λ (o : Object). LiesAt o z.len (slot_place other.class g slot))
                (sym same.0) z.lies
          ];
        }
  ];
}
  where
    sound : ArePlaced s far
    sound = x.sound.here.placed

    frame : (f < length far.spans) × (span_in far.spans f ≡ None)
    frame = free_frame s far id p set f span row x

    placed : (h len place : ℕ) → LiesAt (object_at t h) len place
        → IsBroughtIn s t span f h ⊎ ((object_at t h ≡ object_at s h) × (IsNamed span.slots h → ⊥))
        → HasSlot (set_at far.spans f span) h len place
    placed h len place lies (inl m) =
        let l = subst (λ (o : Object). LiesAt o len place) m.here lies in record {
          frame = f;
          slot = m.slot;
          span = span;
          there = here_span far.spans f span frame.0;
          named = m.named;
          at = l.1;
          fits = subst (λ (k : ℕ). IsClassOf k span.class) (sym l.0) m.fits;
        }
    placed h len place lies (inr same) =
        let c = sound.placed h len place (subst (λ (o : Object). LiesAt o len place) same.0 lies) in
        let off : c.frame ≢ f = λ e. none_some c.span (sym frame.1
        ∙ ap (span_in far.spans) (sym e) ∙ c.there) in record {
          frame = c.frame;
          slot = c.slot;
          span = c.span;
          there = other_span far.spans f c.frame span off ∙ c.there;
          named = c.named;
          at = c.at;
          fits = c.fits;
        }

pub arrived_here : (s t : Shown) (far new : FarState) (id p : ℕ) (set : SetState) (f n : ℕ)
    (span : Contents) (row : List ℕ) → CanArrive s far id p set f span row
    → HasArrived s t far new id p set f n span row → LocalSound t new
arrived_here s t far new id p set f n span row x y = record {
  known = arrived_known s t far new id p set f n span row x y;
  frames = arrived_frames s t far new id p set f n span row x y;
  placed = arrived_placed s t far new id p set f n span row x y;
}
