-- The handles of pins.
use Rattle.std.specs.Prelude.{◌≡◌, ◌≢◌, ℕ, ◌<◌, List, map, length, slice_index}
use Rattle.cb_rule.specs.declared.view.Stand.{Stand}

-- the handles of pins
abbrev pub handles_of : List Stand → List ℕ
handles_of pins = map (λ (p : Stand). p.handle) pins

-- the first place of a handle in a list
pub record IsFirstAt (handles : List ℕ) (h at : ℕ) : Type 0 where
  pub within : at < length handles
  pub here : slice_index handles at ≡ h
  pub before : (i : ℕ) → i < at → slice_index handles i ≢ h
