-- The rule of the whole table.
use Rattle.std.specs.Prelude.{◌≡◌, ◌≢◌, ◌⊎◌, ℕ, true, false, List, [], ◌∷◌, ◌++◌, None, slice_index}
use Rattle.std.specs.Prelude.{slice_set}
use mathlib.Core.Option.{some}
use lib.ListN.{get_elem?}
use Rattle.cb_types.specs.declared.config.Config.{Config}
use Rattle.cb_world.specs.declared.entry.Entry.{Entry}
use Rattle.cb_world.specs.declared.shown.Shown.{Shown}
use Rattle.cb_rule.specs.declared.view.View.{View}
use Rattle.cb_rule.specs.Lists.{total}
use Rattle.cb_rule.specs.Own.{AreBound, AreOwn}
use Rattle.cb_rule.specs.Rule.{RuleKept}
use Rattle.cb_rule.specs.Seats.{share_of}
use Rattle.cb_rule.specs.Slot.{Table}
use Rattle.cb_rule.specs.Steps.{blank, joined}

-- the shares sum to 64, and a view without any is spent
pub record AreShares (c : Config) (views : List View) : Type 0 where
  pub whole : total share_of views ≡ 64
  pub spent : (j : ℕ) (u : View) → get_elem? views j ≡ some u → u.share ≡ 0 → u ≡ blank c

-- what stands beside: a fact of the lock, the far state and the turns, by what the holder of the
-- lock knows
abbrev pub Beside : Type 1
Beside = Config → Table → Shown → Type 0

-- the lock, what a turn began with, the turns of a view and the order that it keeps
pub record IsAlike (v w : View) : Type 0 where
  pub holds : w.holds ≡ v.holds
  pub start : w.start ≡ v.start
  pub since : w.since ≡ v.since
  pub took : w.took ≡ v.took
  pub turns : w.turns ≡ v.turns
  pub order : w.order ≡ v.order

-- A step on another word than the lock keeps what stands beside, where the seat's lock and turns
-- stay and what is known stays but for the holder, who keeps the first version. So do a split and a
-- join of seats.
pub record IsSteady (beside : Beside) : Type 0 where
  pub stays : (c : Config) (s : Table) (ws : List ℕ) (known known' : Shown) (id : ℕ) (v w : View)
      → get_elem? s.views id ≡ some v → slice_index ws 0 ≡ slice_index s.words 0 → IsAlike v w
      → (known' ≡ known) ⊎ (v.holds ≡ true) → known'.first ≡ known.first → beside c s known
      → beside c record { words = ws; homes = s.homes; views = slice_set s.views id w } known'
  pub splits : (c : Config) (s : Table) (known : Shown) (id : ℕ) (v left right : View)
      → get_elem? s.views id ≡ some v → IsAlike v left → right.holds ≡ false → right.turns ≡ []
      → right.order ≡ None → beside c s known
      → beside c record {
        words = s.words;
        homes = s.homes;
        views = slice_set s.views id left ++ right ∷ [];
      } known
  pub joins : (c : Config) (s : Table) (known : Shown) (id : ℕ) (v : View) (other : ℕ) (w : View)
      → get_elem? s.views id ≡ some v → other ≢ id
      → get_elem? (slice_set s.views id (joined v w)) other ≡ some w → w.holds ≡ false
      → beside c s known
      → beside c record {
        words = s.words;
        homes = s.homes;
        views = slice_set (slice_set s.views id (joined v w)) other (blank c);
      } known

-- The rule, where makes give the version first: for some knowledge and some history the words are
-- kept, and what stands beside.
pub record Ruled (beside : Beside) (first : ℕ) (c : Config) (s : Table) : Type 0 where
  pub known : Shown
  pub history : List Entry
  pub starts : known.first ≡ first
  pub kept : RuleKept c s.words s.views known history
  pub shares : AreShares c s.views
  pub own : AreOwn first s.views
  pub bound : AreBound c known s.views
  pub far : beside c s known
