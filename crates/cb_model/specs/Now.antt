-- What a map has at a handle, and what a completed call makes of it.
use Rattle.std.specs.Prelude.{ℕ, ◌+◌, List, ◌++◌, length, take, drop, Option, Some}
use Rattle.cb_model.specs.declared.object.Object.{Object}
use Rattle.cb_model.specs.declared.object.Object.TheVariants.{Held, Freed}

-- a handle was never made, it has bytes at a version, or it was freed at a version
abbrev pub MapNow : Type 0
MapNow = Option Object

-- the bytes from place `at` on are replaced by as many others
abbrev pub overwritten : List ℕ → ℕ → List ℕ → List ℕ
overwritten old at bytes = take at old ++ bytes ++ drop (at + length bytes) old

-- what a completed call did to a handle
pub data Change : Type 0 where
  Create : List ℕ → Change
  Overwrite : ℕ → List ℕ → Change
  Remove : Change

-- what the map has after a change that answered this version
abbrev pub changed : MapNow → ℕ × Change → MapNow
changed before (version, Create bytes) = Some (Held version bytes)
changed (Some (Held old bytes)) (version, Overwrite at new) =
    Some (Held version (overwritten bytes at new))
changed before (version, Overwrite at new) = before
changed before (version, Remove) = Some (Freed version)
