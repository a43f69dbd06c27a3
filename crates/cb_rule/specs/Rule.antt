-- The rule of the words, between any two steps.
use Rattle.std.specs.Prelude.{◌≡◌, ◌≢◌, ℕ, ◌+◌, ◌*◌, ◌<◌, ◌≤◌, true, List, length, slice_index}
use mathlib.Core.Option.{some}
use lib.ListN.{get_elem?}
use Rattle.cb_types.specs.declared.config.Config.{Config}
use Rattle.cb_ptr.specs.Word.{hot_of}
use Rattle.cb_world.specs.declared.entry.Entry.{Entry}
use Rattle.cb_world.specs.declared.shown.Shown.{Shown}
use Rattle.cb_world.specs.LocalSound.{LiesAt}
use Rattle.cb_world.specs.Shown.{Fits, Covers, Owns, object_at, hot_at, version_at}
use Rattle.cb_rule.specs.declared.view.View.{View}
use Rattle.cb_rule.specs.History.{IsEntryHistory, is_version, newest, top}
use Rattle.cb_rule.specs.Lists.{times, total, Each}
use Rattle.cb_rule.specs.Records.{SeatOk}
use Rattle.cb_rule.specs.Seats.{pins_on, claims_on, written_on, holding}
use Rattle.cb_rule.specs.Stands.{Stands}
use Rattle.cb_rule.specs.Words.{base, pointer}

pub record AreSized (c : Config) (s : Shown) : Type 0 where
  pub objects : length s.objects ≡ c.handles
  pub hots : length s.hots ≡ c.handles
  pub versions : length s.versions ≡ c.handles
  pub memory : length s.memory ≡ 512 * c.frames

-- an object stands, by the views and the history
abbrev pub StandsIn : Config → List ℕ → List View → Shown → List Entry → ℕ → Type 0
StandsIn c ws views known es h = Stands c known.first ws h
    (total (pins_on h) views) (total (claims_on h) views) (top es h) (newest es h)
    (version_at known h) (object_at known h)

-- The words of a table, the views of its seats and the history of all objects, by what the holder of
-- the far lock knows, or would know if it were taken now.
pub record RuleKept (c : Config) (ws : List ℕ) (views : List View) (known : Shown)
    (es : List Entry) : Type 0 where
  pub wide : length ws ≡ base c + 512 * c.frames
  pub sized : AreSized c known
  pub begins : 1 ≤ known.first
  pub fit : (h : ℕ) → h < c.handles → Fits (object_at known h) (pointer ws h)
  pub hot : (h : ℕ) → h < c.handles → hot_at known h ≡ true → hot_of (pointer ws h) ≡ true
  pub owned : (p : ℕ) → Owns known p → slice_index ws (base c + p) ≡ slice_index known.memory p
  pub inside : (h len place p : ℕ) → LiesAt (object_at known h) len place → Covers place len p
      → p < 512 * c.frames
  pub apart : (h len place k len' place' p : ℕ) → LiesAt (object_at known h) len place
      → LiesAt (object_at known k) len' place' → h ≢ k
      → Covers place len p → Covers place' len' p → ⊥
  pub stand : (h : ℕ) → h < c.handles → StandsIn c ws views known es h
  pub seats : (j : ℕ) (u : View) → get_elem? views j ≡ some u → SeatOk c ws known es u
  pub history : IsEntryHistory known.first es
  pub within : Each (λ (e : Entry). e.handle < c.handles) es
  pub recorded : (h k : ℕ) → total (written_on h k) views ≡ times (is_version h k) es
  pub one : total holding views ≤ 1
