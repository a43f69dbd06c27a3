-- Where each span has one page and no frame is free, at least as many objects were made as there
-- are frames.
use Rattle.std.proofs.Common.{◌≡◌, ◌⊎◌, ℕ, suc, ◌<◌, ◌≤◌, true, List, [], ◌∷◌, length, get_or, map}
use Rattle.std.proofs.Common.{Option, None, Some, refl, sym, ap, ◌∙◌, subst, arith, inl, inr}
use Rattle.std.proofs.Common.{nat_eq, eq-eqb}
use Rattle.std.proofs.Common.{is_some}
use Rattle.std.specs.List.{count_by, list_any, range_with_len}
use Rattle.std.proofs.lemmas.Bool.{cases_lt}
use Rattle.std.proofs.lemmas.List.{get_or_past}
use Rattle.std.proofs.lemmas.List.Folds.{list_any_at}
use Rattle.std.proofs.lemmas.List.FromFn.{get_or-map-range_with_len, length-map-range_with_len}
use Rattle.std.proofs.lemmas.Map.Steps.{le-length_from_below}
use Rattle.cb_frame.specs.Runs.{least_run}
use Rattle.cb_span.specs.Contents.{Contents}
use Rattle.cb_span.specs.Places.{slot_place}
use Rattle.cb_world.specs.declared.object.Object.{Object}
use Rattle.cb_world.specs.declared.shown.Shown.{Shown}
use Rattle.cb_world.specs.FarState.{FarState, handle_in, resident}
use Rattle.cb_world.specs.LocalSound.{LiesAt, LocalSound}
use Rattle.cb_world.specs.Shown.{never, object_at}
use Rattle.cb_core.specs.Narrow.{IsNarrow}
use Rattle.cb_lanes.proofs.FullFrames.{has_span}
use Rattle.cb_lanes.proofs.LooseSpans.{HasFrame, frame_of}

-- ---- every frame has an object
count_tail : (slots : List (Option ℕ)) → 1 ≤ count_by is_some (None ∷ slots)
    → 1 ≤ count_by is_some slots
count_tail slots some = some

taken_slot : (slots : List (Option ℕ)) → 1 ≤ count_by is_some slots → (i h : ℕ) × (i < length slots)
    × (get_or slots i None ≡ Some h)
taken_slot [] some = absurd (omega (arith, some))
taken_slot (Some h ∷ slots) some = (0, h, omega arith, refl)
taken_slot (None ∷ slots) some = let z = taken_slot slots (count_tail slots some) in
    (suc z.0, z.1, (let l = z.2 in omega (arith, l)), z.3)

module _ (s : Shown) (far : FarState) (sound : LocalSound s far) (narrow : IsNarrow far)
    (full : least_run far.frames 1 ≡ None) where
  was_made : (h len place : ℕ) → LiesAt (object_at s h) len place → h < far.made
  was_made h len place lies = by (cases_lt h far.made) (cases_lt h (length s.objects))
    where
      off : object_at s h ≡ never → ⊥
      off e = subst (λ (o : Object). LiesAt o len place) e lies

      by : (h < far.made) ⊎ (far.made ≤ h) → (h < length s.objects) ⊎ (length s.objects ≤ h)
          → h < far.made
      by (inl below) z = below
      by (inr past) (inl within) = absurd (off ((sound.known.made h within).0 past))
      by (inr past) (inr beyond) = absurd (off (get_or_past s.objects h never beyond))

  frame : (h : ℕ) → HasFrame far h
  frame h = frame_of s far sound h

  abbrev homes : List ℕ
  homes = map (λ h. (frame h).0) (range_with_len 0 far.made)

  has_one : (f : ℕ) → f < length far.frames → list_any (nat_eq f) homes ≡ true
  has_one f below =
      let span = has_span far sound.frames narrow.spans full f below in
      let slot = taken_slot span.0.slots (sound.frames.taken f span.0 span.1) in
      let named = sound.placed.named f slot.0 slot.1 span.0 span.1 slot.3 in
      let made = was_made slot.1 named.len (slot_place span.0.class f slot.0) named.lies in
      let there : resident far.spans f slot.0 ≡ Some slot.1 =
      ap (λ (o : Option Contents). handle_in o slot.0) span.1 ∙ slot.3 in
      list_any_at (nat_eq f) homes slot.1 0
      (let n = length-map-range_with_len (λ h. (frame h).0) 0 far.made in omega (arith, n, made))
      (eq-eqb f (get_or homes slot.1 0) ((frame slot.1).1 f slot.0 there
      ∙ sym (get_or-map-range_with_len (λ h. (frame h).0) 0 far.made slot.1 slot.1 0 made
      (omega arith))))

  pub frames_made : length far.frames ≤ far.made
  frames_made = let n = le-length_from_below homes (length far.frames) has_one in
      let m = length-map-range_with_len (λ h. (frame h).0) 0 far.made in omega (arith, n, m)
