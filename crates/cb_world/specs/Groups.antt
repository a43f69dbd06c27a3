-- Groups of committed sets, of which no two match.
use Rattle.std.specs.Prelude.{◌≡◌, ◌⊎◌, ℕ, List, Some, length, slice_get, bit_and}
use Rattle.cb_set.specs.SetState.{SetState, parities}
use Rattle.cb_set.specs.Matched.{live_mask}
use Rattle.cb_world.specs.Sets.{SetMap, set_in}
use Rattle.cb_world.specs.declared.groups.Group.{Group}

-- the code and the length of a set, and its live positions
abbrev pub group_of : SetState → Group
group_of set = record {
  k = length set.positions;
  r = parities set;
  pages = set.pages;
  live = live_mask set.positions;
}

-- both are of one code and one length and have no live position in common
pub record DoMatch (g h : Group) : Type 0 where
  pub k : g.k ≡ h.k
  pub r : g.r ≡ h.r
  pub pages : g.pages ≡ h.pages
  pub apart : bit_and g.live h.live ≡ 0

-- it stands somewhere in the list
abbrev pub IsAmong : {X : Type 0} → X → List X → Type 0
IsAmong x xs = (i : ℕ) × (slice_get xs i ≡ Some x)

-- none of them matches another one or itself
abbrev pub NoGroupsMatch : List Group → Type 0
NoGroupsMatch groups = (g h : Group) → IsAmong g groups → IsAmong h groups → ¬ (DoMatch g h)

-- no two of the groups match, and each committed set is of one of them, but for those of these
-- numbers
pub record AreGrouped (sets : SetMap) (groups : List Group) (changed : List ℕ) : Type 0 where
  pub apart : NoGroupsMatch groups
  pub cover : (id : ℕ) (set : SetState) → set_in sets id ≡ Some set
      → IsAmong (group_of set) groups ⊎ IsAmong id changed

-- no two committed sets are of one code and one length and without a common live position, whole or
-- not
abbrev pub NoSetsMatch : SetMap → Type 0
NoSetsMatch sets = (i j : ℕ) (a b : SetState) → set_in sets i ≡ Some a → set_in sets j ≡ Some b
    → ¬ (DoMatch (group_of a) (group_of b))
