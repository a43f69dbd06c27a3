-- A change of some objects alone.
use Rattle.std.specs.Prelude.{◌≡◌, ℕ, List, length, All}
use Rattle.cb_world.specs.declared.leaving.Former.{Former}
use Rattle.cb_world.specs.declared.shown.Shown.{Shown}
use Rattle.cb_world.specs.Shown.{object_at, hot_at}
use Rattle.cb_evict.specs.Claims.{IsNone}

-- So each of these objects is. The others are as they were, and so are all versions and words.
pub record ChangesObjects (s t : Shown) (formers : List Former) (so : Former → Type 0)
    : Type 0 where
  pub changed : All so formers
  pub others : (h : ℕ) → IsNone formers h → object_at t h ≡ object_at s h
  pub hots : (h : ℕ) → IsNone formers h → hot_at t h ≡ hot_at s h
  pub objects : length t.objects ≡ length s.objects
  pub heat : length t.hots ≡ length s.hots
  pub versions : t.versions ≡ s.versions
  pub memory : t.memory ≡ s.memory
  pub first : t.first ≡ s.first
