-- How the slot at a place is found and emptied.
use Rattle.std.proofs.Common.{◌≡◌, ℕ, Bool, true, false, ◌+◌, ◌*◌, ◌<◌, ◌≤◌, List, Option, Some, None, set, if◌then◌else◌, sym, ap, ◌∙◌, subst, arith}
use Rattle.std.proofs.lemmas.List.{set-set}
use Rattle.cb_class.specs.declared.class.Class.{Class}
use Rattle.cb_class.specs.Class.{IsClass, pages_of}
use Rattle.cb_frame.specs.FreeFrames.{with_run_given}
use Rattle.cb_span.specs.Contents.{Contents, with_cleared}
use Rattle.cb_span.specs.Places.{frame_of, slot_in}
use Rattle.cb_span.proofs.Laws.{frame_of-slot_place, slot_in-slot_place}
use Rattle.cb_world.specs.FarState.{class_of, class_in, span_in}
use Rattle.cb_world.specs.LocalSound.{LiesOver}
use Rattle.cb_world.specs.Released.{is_last, spans_without, frames_without, IsSlotAt}

one_class : (a b : Class) → Some a ≡ Some b → a ≡ b
one_class a b e = cc

-- what tells the first frame of the span that has a frame
abbrev pub TellsHolder : List (Option Contents) → ℕ → Option ℕ → Type 0
TellsHolder spans frame found = (g : ℕ) (over : LiesOver spans g frame) → IsClass over.span.class
    → ((h : ℕ) → g < h → h ≤ frame → span_in spans h ≡ None) → found ≡ Some g

-- The class of the span that was found.
pub record IsFoundAt (spans : List (Option Contents)) (place frame : ℕ) (class : Class)
    : Type 0 where
  pub found : Option ℕ
  pub held : TellsHolder spans (frame_of place) found
  pub framed : found ≡ Some frame
  pub classed : class_in spans frame ≡ Some class

-- the place lies in the frames of its span
pub place_in_run : (frames : List Bool) (spans : List (Option Contents)) (place f slot : ℕ)
    (span : Contents) → IsSlotAt frames spans place f slot span
    → (f ≤ frame_of place) × (frame_of place < f + pages_of span.class)
place_in_run frames spans place f slot span x =
    let lies = frame_of-slot_place span.class f slot x.valid.in_table
    (subst (λ (n : ℕ). slot < n) x.valid.sized x.inside) in
    let at = ap frame_of x.at in (omega (arith, lies.0, at), omega (arith, lies.1, at))

-- the span has the frame of the place, and is found by it
pub held_is : (frames : List Bool) (spans : List (Option Contents)) (place f slot : ℕ)
    (span : Contents) (found : Option ℕ) → IsSlotAt frames spans place f slot span
    → TellsHolder spans (frame_of place) found → found ≡ Some f
held_is frames spans place f slot span found x tells =
    let lies = place_in_run frames spans place f slot span x in
    tells f (record { span = span; there = x.there; from = lies.0; to = lies.1 })
    x.valid.in_table (λ h behind before. x.alone h behind (omega (arith, before, lies.1)))

-- the place lies behind the first word of its span
pub place_behind : (frames : List Bool) (spans : List (Option Contents)) (place f slot : ℕ)
    (span : Contents) → IsSlotAt frames spans place f slot span → 512 * f ≤ place
place_behind frames spans place f slot span x = omega (arith, x.at)

pub frame_is : (frames : List Bool) (spans : List (Option Contents)) (place f slot frame : ℕ)
    (span : Contents) (found : Option ℕ) → IsSlotAt frames spans place f slot span
    → TellsHolder spans (frame_of place) found → found ≡ Some frame → frame ≡ f
frame_is frames spans place f slot frame span found x tells is =
    one_frame frame f (sym is ∙ held_is frames spans place f slot span found x tells)
  where
    one_frame : (a b : ℕ) → Some a ≡ Some b → a ≡ b
    one_frame a b e = cc

-- so where none is found there is no slot
pub none_found : (frames : List Bool) (spans : List (Option Contents)) (place f slot : ℕ)
    (span : Contents) (found : Option ℕ) → IsSlotAt frames spans place f slot span
    → TellsHolder spans (frame_of place) found → ((frame : ℕ) → found ≡ Some frame → ⊥) → ⊥
none_found frames spans place f slot span found x tells not =
    not f (held_is frames spans place f slot span found x tells)

pub class_is : (frames : List Bool) (spans : List (Option Contents)) (place f slot frame : ℕ)
    (span : Contents) (class : Class) → IsSlotAt frames spans place f slot span
    → IsFoundAt spans place frame class → class ≡ span.class
class_is frames spans place f slot frame span class x at =
    one_class class span.class (sym at.classed
    ∙ ap (class_in spans) (frame_is frames spans place f slot frame span at.found x at.held at.framed)
    ∙ ap class_of x.there)

pub slot_is : (frames : List Bool) (spans : List (Option Contents)) (place f slot frame q : ℕ)
    (span : Contents) (class : Class) → IsSlotAt frames spans place f slot span
    → IsFoundAt spans place frame class → q ≡ slot_in class frame place → q ≡ slot
slot_is frames spans place f slot frame q span class x at e =
    let same = class_is frames spans place f slot frame span class x at in
    let here = frame_is frames spans place f slot frame span at.found x at.held at.framed in
    e ∙ ap (λ (k : Class). slot_in k frame place) same
    ∙ ap (λ (i : ℕ). slot_in span.class i place) here ∙ ap (slot_in span.class f) x.at
    ∙ slot_in-slot_place span.class f slot x.valid.in_table

pub known_class : (frames : List Bool) (spans : List (Option Contents)) (place f slot frame : ℕ)
    (span : Contents) (class : Class) → IsSlotAt frames spans place f slot span
    → IsFoundAt spans place frame class → IsClass class
known_class frames spans place f slot frame span class x at =
    subst IsClass (sym (class_is frames spans place f slot frame span class x at))
    x.valid.in_table

-- what is left where the slot had the last object of its span, and where it had not
pub left_last : (frames : List Bool) (spans : List (Option Contents)) (f slot frame q n : ℕ)
    (span : Contents) → frame ≡ f → q ≡ slot → n ≡ pages_of span.class → is_last span q ≡ true
    → (set (set spans frame (Some (with_cleared span q))) frame None ≡ spans_without spans f slot span)
    × (with_run_given frames frame n ≡ frames_without frames f slot span)
left_last frames spans f slot frame q n span here there pages last =
    let e : is_last span slot ≡ true = ap (is_last span) (sym there) ∙ last in (
      set-set spans frame (Some (with_cleared span q)) None
          ∙ ap (λ (i : ℕ). set spans i None) here
          ∙ ap (λ (b : Bool). set spans f (if b then None else Some (with_cleared span slot))) (sym e),
      ap (λ (i : ℕ). with_run_given frames i n) here
          ∙ ap (with_run_given frames f) pages
          ∙ ap (λ (b : Bool). if b then with_run_given frames f (pages_of span.class) else frames)
          (sym e),
    )

pub left_more : (frames : List Bool) (spans : List (Option Contents)) (f slot frame q : ℕ)
    (span : Contents) → frame ≡ f → q ≡ slot → is_last span q ≡ false
    → (set spans frame (Some (with_cleared span q)) ≡ spans_without spans f slot span)
    × (frames ≡ frames_without frames f slot span)
left_more frames spans f slot frame q span here there more =
    let e : is_last span slot ≡ false = ap (is_last span) (sym there) ∙ more in (
      ap (λ (i : ℕ). set spans i (Some (with_cleared span q))) here
          ∙ ap (λ (i : ℕ). set spans f (Some (with_cleared span i))) there
          ∙ ap (λ (b : Bool). set spans f (if b then None else Some (with_cleared span slot))) (sym e),
      ap (λ (b : Bool). if b then with_run_given frames f (pages_of span.class) else frames) (sym e),
    )
