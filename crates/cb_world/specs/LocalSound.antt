-- The sound world, over what the holder of the far lock knows and the far state.
use Rattle.std.specs.Prelude.{◌≡◌, ℕ, ◌+◌, ◌*◌, ◌<◌, ◌≤◌, ◌↔◌, List, Option, Some, length}
use Rattle.cb_class.specs.Class.{IsClassOf, pages_of}
use Rattle.cb_frame.specs.FreeFrames.{IsFreeFrame}
use Rattle.cb_span.specs.Contents.{Contents, IsSpan, handle_at, live_count}
use Rattle.cb_span.specs.Places.{slot_place}
use Rattle.cb_world.specs.declared.object.Object.{Object}
use Rattle.cb_world.specs.declared.object.Object.TheVariants as is
use Rattle.cb_world.specs.declared.shown.Shown.{Shown}
use Rattle.cb_world.specs.Shown.{object_at, version_at, never}
use Rattle.cb_world.specs.FarState.{FarState, span_in}

-- the object lies at this place of local memory, with this length
abbrev pub LiesAt : Object → ℕ → ℕ → Type 0
LiesAt (is.Empty v) len place = ⊥
LiesAt (is.Far n v words) len place = ⊥
LiesAt (is.Here n p) len place = (len ≡ n) × (place ≡ p)
LiesAt (is.Claimed n p v words) len place = (len ≡ n) × (place ≡ p)

-- the version word of an object that no one else may change is its last complete version
abbrev pub IsStamped : Object → ℕ → Type 0
IsStamped (is.Empty v) n = n ≡ v
IsStamped (is.Far len v words) n = n ≡ v
IsStamped (is.Here len place) n = Unit {0}
IsStamped (is.Claimed len place v words) n = n ≡ v

-- an object that lies in local memory has a slot of the span at a frame, the first one of its run
pub record HasSlot (spans : List (Option Contents)) (h len place : ℕ) : Type 0 where
  pub frame : ℕ
  pub slot : ℕ
  pub span : Contents
  pub there : span_in spans frame ≡ Some span
  pub named : handle_at span slot ≡ Some h
  pub at : place ≡ slot_place span.class frame slot
  pub fits : IsClassOf len span.class

-- a taken slot names an object that lies there
pub record NamesObject (s : Shown) (f slot h : ℕ) (span : Contents) : Type 0 where
  pub len : ℕ
  pub lies : LiesAt (object_at s h) len (slot_place span.class f slot)

-- The objects and the words that others may not change. Version 0 is that of an object that was
-- never made: each one that was made has a version from the first one on.
pub record AreKnown (s : Shown) (far : FarState) : Type 0 where
  pub first : s.first ≡ far.first
  pub least : 1 ≤ far.first
  pub bounded : far.made ≤ length s.objects
  pub made : (h : ℕ) → h < length s.objects → far.made ≤ h ↔ (object_at s h ≡ never)
  pub stamped : (h : ℕ) → IsStamped (object_at s h) (version_at s h)
  pub versioned : (h : ℕ) → h < far.made → far.first ≤ version_at s h

-- the span that stands at frame g has the frame f: a span has adjacent frames, as many as its class
-- has pages, from the one on at which it stands
pub record LiesOver (spans : List (Option Contents)) (g f : ℕ) : Type 0 where
  pub span : Contents
  pub there : span_in spans g ≡ Some span
  pub from : g ≤ f
  pub to : f < g + pages_of span.class

-- each frame is free or one of exactly one span's, which is not empty
pub record AreFrames (far : FarState) : Type 0 where
  pub sized : length far.spans ≡ length far.frames
  pub within : (f : ℕ) (span : Contents) → span_in far.spans f ≡ Some span
      → f + pages_of span.class ≤ length far.spans
  pub apart : (f g : ℕ) (a b : Contents) → span_in far.spans f ≡ Some a
      → span_in far.spans g ≡ Some b → f < g → f + pages_of a.class ≤ g
  pub free : (f : ℕ) → f < length far.frames → IsFreeFrame far.frames f
      ↔ ¬ ((g : ℕ) × LiesOver far.spans g f)
  pub valid : (f : ℕ) (span : Contents) → span_in far.spans f ≡ Some span → IsSpan span
  pub taken : (f : ℕ) (span : Contents) → span_in far.spans f ≡ Some span → 1 ≤ live_count span

-- each object in local memory has its slot, and each taken slot its object
pub record ArePlaced (s : Shown) (far : FarState) : Type 0 where
  pub memory : length s.memory ≡ 512 * length far.spans
  pub placed : (h len place : ℕ) → LiesAt (object_at s h) len place → HasSlot far.spans h len place
  pub named : (f slot h : ℕ) (span : Contents) → span_in far.spans f ≡ Some span
      → handle_at span slot ≡ Some h → NamesObject s f slot h span

pub record LocalSound (s : Shown) (far : FarState) : Type 0 where
  pub known : AreKnown s far
  pub frames : AreFrames far
  pub placed : ArePlaced s far
