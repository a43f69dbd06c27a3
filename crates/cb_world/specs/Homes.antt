-- Where far objects lie.
use Rattle.std.specs.Prelude.{◌≡◌, ℕ, List, Option, None, Some, length, slice_index_or}
use Rattle.cb_world.specs.declared.homes.Home.{Home}

-- the home of the object of a handle, where it is far
abbrev pub home_at : List (Option Home) → ℕ → Option Home
home_at homes h = slice_index_or homes h None

-- each object that the slot table names has its home at that slot of the position of the set, and
-- every other home is as it was
pub record HasHomes (slots : List (Option ℕ)) (set position : ℕ) (old new : List (Option Home))
    : Type 0 where
  pub count : length new ≡ length old
  pub here : (slot h : ℕ) → slice_index_or slots slot None ≡ Some h
      → home_at new h ≡ Some (record { set = set; position = position; slot = slot })
  pub others : (h : ℕ) → ((slot : ℕ) → slice_index_or slots slot None ≡ Some h → ⊥)
      → home_at new h ≡ home_at old h
