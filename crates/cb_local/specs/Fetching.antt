-- The rows that an order for the joining pair takes from the nodes.
use Rattle.std.specs.Prelude.{◌≡◌, ℕ, ◌+◌, ◌*◌, List, length}
use Rattle.std.specs.List.Sorted.{IsStrictlyIncreasing}
use Rattle.cb_gf256.specs.Rows.{HaveLength}
use Rattle.cb_node.specs.NodesState.{NodesState}
use Rattle.cb_set.specs.SetState.{SetState, parities}
use Rattle.cb_world.specs.declared.shown.Shown.{Shown}
use Rattle.cb_world.specs.FarSound.{FarSound}
use Rattle.cb_world.specs.FarState.{FarState}
use Rattle.cb_world.specs.Fetched.{with_rows_given}
use Rattle.cb_world.specs.Joining.{JoiningState}
use Rattle.cb_world.specs.SetWord.{IsWordOf}
use Rattle.cb_compact.specs.Deltas.{IsOfCode, StandTogether}
use Rattle.cb_compact.specs.PartStep.{IsFreshPair}
use Rattle.cb_local.specs.Delta.{DoneState, IsOrder}
use Rattle.cb_local.specs.Words.{AreMergedParities, IsOfWords}
use Rattle.cb_local.specs.declared.order.DeltaOrder.{DeltaOrder}

-- how many rows are given out for a pair of sets with r parities: both rows at each taken position,
-- and a's parities
abbrev pub rows_given : List ℕ → ℕ → ℕ
rows_given taken r = 2 * length taken + r

-- the far state once so many rows more were given out
abbrev pub far_given : FarState → ℕ → FarState
far_given far n = record far { nodes = with_rows_given far.nodes n }

-- the order is for the pair, with rows of spans of so many pages, as many as it takes
pub record IsBlank (pair : JoiningState) (k r pages : ℕ) (order : DeltaOrder) : Type 0 where
  pub set_is : order.set ≡ pair.a
  pub taken_is : order.taken ≡ pair.taken
  pub k_is : order.k ≡ k
  pub r_is : order.r ≡ r
  pub old_count : length order.old ≡ length pair.taken
  pub new_count : length order.new ≡ length pair.taken
  pub parity_count : length order.parities ≡ r
  pub old_wide : HaveLength (4096 * pages) order.old
  pub new_wide : HaveLength (4096 * pages) order.new
  pub parities_wide : HaveLength (4096 * pages) order.parities

-- there is room in it for the rows of the pair, whose taken positions ascend and whose sets' rows
-- stand
pub record CanFetch (nodes : NodesState) (pair : JoiningState) (order : DeltaOrder) : Type 0 where
  pub code : IsOfCode nodes pair order.k order.r
  pub ascend : IsStrictlyIncreasing pair.taken
  pub pages : ℕ
  pub blank : IsBlank pair order.k order.r pages order
  pub words : (wa wb : List (List ℕ)) × StandTogether nodes pair pages order.k order.r wa wb

-- the order has its rows: those of both sets' words
pub record AreFetched (nodes : NodesState) (pair : JoiningState) (old new : DeltaOrder) : Type 0
  where
    pub order : IsOrder new
    pub taken_is : new.taken ≡ pair.taken
    pub k_is : new.k ≡ old.k
    pub r_is : new.r ≡ old.r
    pub words : (pages : ℕ) (wa wb : List (List ℕ))
        → StandTogether nodes pair pages old.k old.r wa wb
        → IsOfWords new pages wa wb

-- the joining pair can have an order: the far part is sound, both sets stand as they did at the
-- begin, and the taken positions ascend
pub record HasOrder (s : Shown) (far : FarState) (pair : JoiningState) (a b : SetState) : Type 0
  where
    pub sound : FarSound s far
    pub fresh : IsFreshPair far pair a b
    pub ascend : IsStrictlyIncreasing pair.taken

-- the order is the pair's, and its rows are those of the sets' words
pub record IsOrderFetched (far : FarState) (pair : JoiningState) (a b : SetState)
    (order : DeltaOrder)
    : Type 0 where
  pub order_is : IsOrder order
  pub taken_is : order.taken ≡ pair.taken
  pub k_is : order.k ≡ length a.positions
  pub r_is : order.r ≡ parities a
  pub words : (wa wb : List (List ℕ)) → IsWordOf far.nodes far.members a wa
      → IsWordOf far.nodes far.members b wb → IsOfWords order a.pages wa wb

-- and it was run: the parities are the merged set's
pub record AreParitiesMade (far : FarState) (pair : JoiningState) (a b : SetState)
    (done : DoneState)
    : Type 0 where
  pub fetched : IsOrderFetched far pair a b done.order
  pub count : length done.parities ≡ done.order.r
  pub parities_are : AreMergedParities done.order done.parities
