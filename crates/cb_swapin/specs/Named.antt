-- The handles that a slot table names.
use Rattle.std.specs.Prelude.{◌≡◌, ℕ, List, Option, None, Some, length, slice_index_or}
use Rattle.cb_world.specs.declared.homes.Home.{Home}
use Rattle.cb_world.specs.Homes.{home_at}

-- the slot names the handle
abbrev pub NamesHandle : List (Option ℕ) → ℕ → ℕ → Type 0
NamesHandle slots slot h = slice_index_or slots slot None ≡ Some h

-- a slot names the handle
abbrev pub IsNamed : List (Option ℕ) → ℕ → Type 0
IsNamed slots h = (slot : ℕ) × NamesHandle slots slot h

-- no two slots name one handle
abbrev pub NamesApart : List (Option ℕ) → Type 0
NamesApart slots = (p q h : ℕ) → NamesHandle slots p h → NamesHandle slots q h → p ≡ q

-- the objects of the named handles have no home, and every other has the one that it had
pub record AreCleared (slots : List (Option ℕ)) (old new : List (Option Home)) : Type 0 where
  pub count : length new ≡ length old
  pub named : (h : ℕ) → IsNamed slots h → home_at new h ≡ None
  pub others : (h : ℕ) → (IsNamed slots h → ⊥) → home_at new h ≡ home_at old h
