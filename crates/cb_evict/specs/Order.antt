-- The order in which the objects of spans are claimed and noted.
use Rattle.std.specs.Prelude.{ℕ, List, [], ◌∷◌, Option, None, Some, flat_map, map}
use Rattle.cb_span.specs.Contents.{Contents}
use Rattle.cb_world.specs.declared.leaving.Former.{Former}
use Rattle.cb_world.specs.FarState.{span_in}
use Rattle.cb_world.specs.Reserved.{table_of}

-- the object of a slot, where there is one
abbrev pub one_of : Option ℕ → List ℕ
one_of None = []
one_of (Some h) = h ∷ []

-- the objects of a slot table, by slot
abbrev pub objects_in : List (Option ℕ) → List ℕ
objects_in slots = flat_map one_of slots

-- the objects of the spans in some frames, one span after another
abbrev pub objects_of : List (Option Contents) → List ℕ → List ℕ
objects_of spans frames = flat_map (λ f. objects_in (table_of (span_in spans f))) frames

-- the objects that are noted
abbrev pub noted_of : List Former → List ℕ
noted_of formers = map (λ former. former.handle) formers
