-- A set is filled position by position.
use Rattle.std.proofs.Common.{◌≡◌, ℕ, ◌<◌, List, length, map, get_or, Option, Some, None, sym, refl, ap, ◌∙◌, arith}
use Rattle.std.proofs.lemmas.List.{ext_get_or, get_or-map, length-map}
use Rattle.cb_set.specs.SetState.{SetState, dead_position}
use Rattle.std.specs.Option.{option_map, IsSome}
use Rattle.cb_span.specs.Contents.{Contents}
use Rattle.cb_world.specs.FarState.{span_in}
use Rattle.cb_world.specs.Reserved.{position_for}

-- the first n positions have the slot tables of the spans in the first n frames
pub record ArePositionsFilled (spans : List (Option Contents)) (frames : List ℕ) (n : ℕ)
    (old new : SetState)
    : Type 0 where
  pub id : new.id ≡ old.id
  pub pages : new.pages ≡ old.pages
  pub shards : new.shards ≡ old.shards
  pub count : length new.positions ≡ length old.positions
  pub filled : (q : ℕ) → q < n → get_or new.positions q dead_position ≡ position_for spans (get_or frames q 0)

pub all_filled : (spans : List (Option Contents)) (frames : List ℕ) (n : ℕ) (old new : SetState)
    → ArePositionsFilled spans frames n old new → n ≡ length frames
    → length old.positions ≡ length frames
    → new ≡ record old { positions = map (position_for spans) frames }
all_filled spans frames n old new a all count =
    let positions : new.positions ≡ map (position_for spans) frames =
    ext_get_or dead_position new.positions (map (position_for spans) frames)
    (a.count ∙ count ∙ sym (length-map frames (position_for spans)))
    (λ i l. let within : i < length frames = omega (arith, l, a.count, count) in
    a.filled i (omega (arith, within, all))
    ∙ sym (get_or-map (position_for spans) frames i 0 dead_position within)) in
    λ i. record { id = a.id i; pages = a.pages i; shards = a.shards i; positions = positions i }

-- a frame that holds a span gives it
pub span_got : {A : Type 0} (v : A → Contents) (spans : List (Option Contents)) (f : ℕ)
    (o : Option A) → option_map v o ≡ span_in spans f → (span : Contents) × (span_in spans f ≡ Some span)
    → IsSome o
span_got v spans f None e there = absurd (none_some (e ∙ there.1))
  where
    none_some : None ≡ Some there.0 → ⊥
    none_some e = cc
span_got v spans f (Some a) e there = refl

-- the span that was got is the one in the frame
pub got_span : {A : Type 0} (v : A → Contents) (spans : List (Option Contents)) (f : ℕ)
    (o : Option A) (a : A) → option_map v o ≡ span_in spans f → o ≡ Some a
    → span_in spans f ≡ Some (v a)
got_span v spans f o a e is = sym e ∙ ap (option_map v) is
