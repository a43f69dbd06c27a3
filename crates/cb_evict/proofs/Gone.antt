-- The local part of the sound world once all objects of some spans are away and their frames are
-- given back.
use Rattle.std.proofs.Common.{◌≡◌, ◌≢◌, ◌⊎◌, ◌↔◌, ℕ, zero, suc, ◌+◌, ◌*◌, ◌<◌, ◌≤◌, List, [], ◌∷◌, length, set, All, sym, refl, ap, ◌∙◌, subst, arith, inl, inr, Option, Some, None, length-set, get_or-set_other, get_or-set_same}
use Rattle.std.specs.List.{Contains}
use Rattle.std.proofs.lemmas.Bool.{cases_eq, cases_lt}
use Rattle.std.proofs.lemmas.List.{get_or_past}
use Rattle.std.proofs.lemmas.List.Elements.{All-nil, All-cons}
use Rattle.cb_class.specs.Class.{pages_of}
use Rattle.cb_frame.specs.FreeFrames.{IsFreeFrame}
use Rattle.cb_span.specs.Contents.{Contents, handle_at}
use Rattle.cb_span.specs.Places.{slot_place}
use Rattle.cb_world.specs.declared.homes.Home.{Home}
use Rattle.cb_world.specs.declared.object.Object.{Object}
use Rattle.cb_world.specs.declared.shown.Shown.{Shown}
use Rattle.cb_world.specs.Shown.{object_at, version_at, never}
use Rattle.cb_world.specs.FarState.{FarState, span_in, resident, handle_in}
use Rattle.cb_world.specs.LocalSound.{AreFrames, LocalSound, LiesAt, IsStamped}
use Rattle.cb_world.proofs.Laws.{frames_as, one_slot, spans_apart}
use Rattle.cb_evict.specs.Looking.{IsIn}
use Rattle.cb_evict.specs.Closing.{all_given, all_closed, with_homes}
use Rattle.cb_evict.proofs.Homing.{close_all, closed_else, length_closed}
use Rattle.cb_evict.proofs.Options.{none_some, some_none}

-- a number is among these, or is none of them
pub in_or_out : (frames : List ℕ) (f : ℕ) → Contains frames f ⊎ All (λ g. g ≢ f) frames
in_or_out [] f = inr (All-nil (λ g. g ≢ f))
in_or_out (g ∷ frames) f = elim (cases_eq g f) [
  | inl e ↦ inl (0, omega arith, e)
  | inr off ↦ elim (in_or_out frames f) [
    | inl (k, l, e) ↦ inl (suc k, omega (arith, l), e)
    | inr none ↦ inr (All-cons (λ x. x ≢ f) g frames off none)
  ]
]

pub out_of : (frames : List ℕ) (f : ℕ) → All (λ g. g ≢ f) frames → Contains frames f → ⊥
out_of frames f none (k, l, e) = none k f l e

set_none : (spans : List (Option Contents)) (g : ℕ) → span_in (set spans g None) g ≡ None
set_none spans g = elim (cases_lt g (length spans)) [
  | inl within ↦ get_or-set_same spans g None None within
  | inr past ↦ get_or_past (set spans g None) g None
      (let n = length-set spans g None in omega (arith, n, past))
]

-- an empty frame stays so
pub closed_empty : (spans : List (Option Contents)) (frames : List ℕ) (f : ℕ)
    → span_in spans f ≡ None → span_in (all_closed spans frames) f ≡ None
closed_empty spans [] f e = e
closed_empty spans (g ∷ frames) f e = closed_empty (set spans g None) frames f (elim (cases_eq f g) [
  | inl same ↦ ap (λ (i : ℕ). span_in (set spans g None) i) same ∙ set_none spans g
  | inr off ↦ get_or-set_other spans g f None None off ∙ e
])

-- the span in one of the frames is gone
pub closed_in : (spans : List (Option Contents)) (frames : List ℕ) (f : ℕ) → Contains frames f
    → span_in (all_closed spans frames) f ≡ None
closed_in spans [] f (k, l, e) = absurd (omega (arith, l))
closed_in spans (g ∷ frames) f (zero, l, e) = closed_empty (set spans g None) frames f
    (ap (λ (i : ℕ). span_in (set spans g None) i) (sym e) ∙ set_none spans g)
closed_in spans (g ∷ frames) f (suc k, l, e) =
    closed_in (set spans g None) frames f (k, omega (arith, l), e)

-- ---- objects that are gone
-- the object is as it was, and the spans do not name it
pub record IsSparedOf (s t : Shown) (spans : List (Option Contents)) (frames : List ℕ) (h : ℕ)
    : Type 0 where
  pub object : object_at t h ≡ object_at s h
  pub absent : IsIn spans frames h → ⊥

-- one of the spans names the object, which was made and lies nowhere in local memory any more
pub record IsSentAwayOf (t : Shown) (spans : List (Option Contents)) (frames : List ℕ) (h : ℕ)
    : Type 0 where
  pub named : IsIn spans frames h
  pub gone : (len place : ℕ) → LiesAt (object_at t h) len place → ⊥
  pub made : object_at t h ≡ never → ⊥

pub record LeftMemory (s t : Shown) (spans : List (Option Contents)) (frames : List ℕ) : Type 0 where
  pub first : t.first ≡ s.first
  pub memory : length t.memory ≡ length s.memory
  pub objects : length t.objects ≡ length s.objects
  pub stamped : (h : ℕ) → IsStamped (object_at t h) (version_at t h)
  pub risen : (h : ℕ) → version_at s h ≤ version_at t h
  pub each : (h : ℕ) → IsSparedOf s t spans frames h ⊎ IsSentAwayOf t spans frames h

lies_never : (o : Object) (len place : ℕ) → LiesAt o len place → o ≡ never → ⊥
lies_never o len place lies e = subst (λ (q : Object). LiesAt q len place) e lies

-- a span that is left was there
was_there : (spans : List (Option Contents)) (frames : List ℕ) (g : ℕ) (other : Contents)
    → span_in (all_closed spans frames) g ≡ Some other
    → (span_in spans g ≡ Some other) × All (λ f. f ≢ g) frames
was_there spans frames g other at = elim (in_or_out frames g) [
  | inl c ↦ absurd (some_none other (sym at ∙ closed_in spans frames g c))
  | inr none ↦ (sym (closed_else spans frames g none) ∙ at, none)
]

-- the frames of a span that is taken out are free
pub given_in : (far : FarState) (frames : List ℕ) (f g : ℕ) (span : Contents) → AreFrames far
    → span_in far.spans f ≡ Some span → Contains frames f → f ≤ g → g < f + pages_of span.class
    → IsFreeFrame (all_given far.frames far.spans frames) g
given_in far frames f g span x there c from to =
    let y = close_all far frames x in
    let run = x.within f span there in
    let count = length_closed far.spans frames in
    (y.free g (omega (arith, to, run, count, y.sized))).1 (λ over.
    let was = was_there far.spans frames over.0 over.1.span over.1.there in
    elim (spans_apart far f over.0 span over.1.span x there was.0
    (λ e. out_of frames over.0 was.1 (subst (Contains frames) (sym e) c))) [
      | inl less ↦ let end = over.1.to in omega (arith, less, end, from)
      | inr more ↦ let begin = over.1.from in omega (arith, more, begin, to)
    ])

span_named : (spans : List (Option Contents)) (f slot h : ℕ) → resident spans f slot ≡ Some h
    → (span : Contents) × (span_in spans f ≡ Some span) × (handle_at span slot ≡ Some h)
span_named spans f slot h named = go (span_in spans f) refl
  where
    go : (o : Option Contents) → span_in spans f ≡ o
        → (span : Contents) × (span_in spans f ≡ Some span) × (handle_at span slot ≡ Some h)
    go (Some span) e = (span, e, sym (ap (λ (o : Option Contents). handle_in o slot) e) ∙ named)
    go None e = absurd (none_some h (sym (ap (λ (o : Option Contents). handle_in o slot) e) ∙ named))

pub sound_gone : (far : FarState) (s t : Shown) (frames : List ℕ) (homes : List (Option Home))
    → LocalSound s far → ((f : ℕ) → Contains frames f → f < length far.spans)
    → LeftMemory s t far.spans frames → LocalSound t (with_homes far frames homes)
sound_gone far s t frames homes sound within x = record {
  known = record {
    first = x.first ∙ sound.known.first;
    least = sound.known.least;
    versioned = λ h below. omega (arith, sound.known.versioned h below, x.risen h);
    bounded = omega (arith, sound.known.bounded, x.objects);
    made = λ h below. elim (x.each h) [
      | inl spared ↦ subst (λ (o : Object). far.made ≤ h ↔ (o ≡ never)) (sym spared.object)
          (sound.known.made h (omega (arith, below, x.objects)))
      | inr sent ↦
          let y = span_named far.spans sent.named.0 sent.named.2.0 h sent.named.2.1 in
          let n = sound.placed.named sent.named.0 sent.named.2.0 h y.0 y.1 y.2 in (
            (λ m. absurd (lies_never (object_at s h) n.len
                (slot_place y.0.class sent.named.0 sent.named.2.0) n.lies
                ((sound.known.made h (omega (arith, below, x.objects))).0 m))),
            (λ z. absurd (sent.made z)),
          )
    ];
    stamped = x.stamped;
  };
  frames = frames_as _ (with_homes far frames homes) refl refl (close_all far frames sound.frames);
  placed = record {
    memory = x.memory ∙ sound.placed.memory
        ∙ ap (λ (n : ℕ). 512 * n) (sym (length_closed far.spans frames));
    placed = λ h len place lies. elim (x.each h) [
      | inl spared ↦
          let d = sound.placed.placed h len place
          (subst (λ (o : Object). LiesAt o len place) spared.object lies) in
          let named : resident far.spans d.frame d.slot ≡ Some h =
          ap (λ (o : Option Contents). handle_in o d.slot) d.there ∙ d.named in
          let off : All (λ f. f ≢ d.frame) frames =
          elim (in_or_out frames d.frame) [
            | inl c ↦ absurd (spared.absent (d.frame, c, (d.slot, named)))
            | inr none ↦ none
          ] in
          record {
            frame = d.frame;
            slot = d.slot;
            span = d.span;
            there = closed_else far.spans frames d.frame off ∙ d.there;
            named = d.named;
            at = d.at;
            fits = d.fits;
          }
      | inr sent ↦ absurd (sent.gone len place lies)
    ];
    named = λ g slot h other at taken.
        let w = was_there far.spans frames g other at in
        let d = sound.placed.named g slot h other w.0 taken in
        elim (x.each h) [
          | inl spared ↦ record {
            len = d.len;
            lies = subst (λ (o : Object). LiesAt o d.len (slot_place other.class g slot))
                (sym spared.object) d.lies;
          }
          | inr sent ↦
              let y = span_named far.spans sent.named.0 sent.named.2.0 h sent.named.2.1 in
              let c = sound.placed.placed h d.len (slot_place other.class g slot) d.lies in
              let one = one_slot far s h d.len (slot_place other.class g slot) g slot other sound
              d.lies c w.0 taken in
              let two = one_slot far s h d.len (slot_place other.class g slot) sent.named.0
              sent.named.2.0 y.0 sound d.lies c y.1 y.2 in
              absurd (out_of frames g w.1 (subst (Contains frames) (two.0 ∙ sym one.0) sent.named.1))
        ];
  };
}
