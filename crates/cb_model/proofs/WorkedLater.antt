-- Worked examples of the versions that a lane may be answered later.
use Rattle.std.proofs.Common.{◌≡◌, ℕ, ◌<◌, ◌≤◌, [], lit<, lit≤, arith}
use Rattle.cb_model.specs.Event.Event.{Makes, Shows, Pins, Writes, Frees, FindsFreed}
use Rattle.cb_model.specs.Legal.{IsNotBelow}

-- after version 4: the same one made, shown or pinned, a later one written or freed, or none
not_below : IsNotBelow 4 (Makes [] 4) × IsNotBelow 4 (Shows 4 []) × IsNotBelow 4 (Pins 4)
    × IsNotBelow 4 (Writes 0 [] 5) × IsNotBelow 4 (Frees 5) × IsNotBelow 4 FindsFreed
not_below = (lit≤ tt, lit≤ tt, lit≤ tt, lit< tt, lit< tt, tt)

made_below : IsNotBelow 4 (Makes [] 3) → ⊥
made_below le = let e : 4 ≤ 3 = le in omega (arith, e)

shown_below : IsNotBelow 4 (Shows 3 []) → ⊥
shown_below le = let e : 4 ≤ 3 = le in omega (arith, e)

pinned_below : IsNotBelow 4 (Pins 3) → ⊥
pinned_below le = let e : 4 ≤ 3 = le in omega (arith, e)

-- a write and a free give another version than the one before
written_as_it_is : IsNotBelow 4 (Writes 0 [] 4) → ⊥
written_as_it_is less = let e : 4 < 4 = less in omega (arith, e)

freed_as_it_is : IsNotBelow 4 (Frees 4) → ⊥
freed_as_it_is less = let e : 4 < 4 = less in omega (arith, e)
