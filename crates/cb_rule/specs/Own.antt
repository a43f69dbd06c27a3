-- Own handles: what a pass made and no other pass knows.
use Rattle.std.specs.Prelude.{◌≡◌, ◌≢◌, ◌⊎◌, ℕ, ◌+◌, ◌<◌, Bool, false, cond, eqb, List, []}
use mathlib.Core.Option.{some}
use lib.ListN.{get_elem?}
use Rattle.cb_types.specs.declared.config.Config.{Config}
use Rattle.cb_world.specs.declared.entry.Entry.{Entry}
use Rattle.cb_world.specs.declared.shown.Shown.{Shown}
use Rattle.cb_world.specs.LocalSound.{IsStamped}
use Rattle.cb_world.specs.Shown.{never, object_at, version_at}
use Rattle.cb_rule.specs.declared.view.Seen.{Seen}
use Rattle.cb_rule.specs.declared.view.View.{View}
use Rattle.cb_rule.specs.History.{is_version}
use Rattle.cb_rule.specs.Lists.{times, total, Has}
use Rattle.cb_rule.specs.Seats.{claims_on, pins_on}

abbrev pub writes_it : ℕ → Entry → Bool
writes_it h e = eqb e.handle h

abbrev pub reads_it : ℕ → Seen → Bool
reads_it h s = eqb s.handle h

-- the entries of an object that a record has, written or read, with those of a turn that still runs
abbrev pub entries_on : ℕ → View → ℕ
entries_on h u = times (writes_it h) u.fresh + times (writes_it h) u.written
    + times (reads_it h) u.seen

-- and all that it has of the object: its pins and claims too
abbrev pub traces : ℕ → View → ℕ
traces h u = entries_on h u + pins_on h u + claims_on h u

-- the first version of the object stands among the entries: they make it
abbrev pub Make : ℕ → ℕ → List Entry → Type 0
Make first h es = 0 < times (is_version h first) es

-- the object is the view's own: it is noted so, or the running turn makes it
abbrev pub IsOwn : ℕ → ℕ → View → Type 0
IsOwn first h u = Has h u.own ⊎ Make first h u.fresh

-- no other view has the object: this one has the whole share, or it is its own
abbrev pub IsAlone : ℕ → View → Type 0
IsAlone h u = (u.share ≡ 64) ⊎ Has h u.own

-- A view made each of its own objects, and no other has anything of them. Entries of a running turn
-- stand in the view of the holder of the lock alone.
pub record AreOwn (first : ℕ) (views : List View) : Type 0 where
  pub made : (j : ℕ) (u : View) → get_elem? views j ≡ some u → (h : ℕ) → Has h u.own
      → Make first h u.written
  pub alone : (i : ℕ) (u : View) → get_elem? views i ≡ some u → (j : ℕ) (w : View)
      → get_elem? views j ≡ some w → j ≢ i → (h : ℕ) → IsOwn first h u → traces h w ≡ 0
  pub idle : (j : ℕ) (u : View) → get_elem? views j ≡ some u → u.holds ≡ false → u.fresh ≡ []

-- the holder of the lock may write the object: its record has an entry of it, or it was never made
abbrev pub MayWrite : ℕ → Shown → View → Type 0
MayWrite h known u = (0 < entries_on h u) ⊎ (object_at known h ≡ never)

-- the entries that the holder of the lock has of an object
abbrev pub held_on : ℕ → View → ℕ
held_on h u = cond u.holds (entries_on h u) 0

-- The version word of an object that the holder of the lock alone may change is its last complete
-- version, but that of one which the holder may write.
abbrev pub AreBound : Config → Shown → List View → Type 0
AreBound c known views = (h : ℕ) → h < c.handles
    → IsStamped (object_at known h) (version_at known h)
    ⊎ ((object_at known h ≡ never) ⊎ (0 < total (held_on h) views))
