-- How far the rows of an order are put for the steps of a pair.
use Rattle.std.specs.Prelude.{◌≡◌, ℕ, ◌+◌, ◌^◌, ◌<◌, ◌≤◌, List, Some, length, slice_get}
use Rattle.cb_member.specs.declared.names.Shard.{Shard}
use Rattle.cb_node.specs.NodesState.{held}
use Rattle.cb_set.specs.SetState.{SetState, parities}
use Rattle.cb_world.specs.declared.shown.Shown.{Shown}
use Rattle.cb_world.specs.FarState.{FarState}
use Rattle.cb_world.specs.Joining.{JoiningState}
use Rattle.cb_world.specs.SetWord.{IsWordOf}
use Rattle.cb_world.specs.Sound.{Sound}
use Rattle.cb_compact.specs.NowGoing.{HasGone}
use Rattle.cb_compact.specs.PartStep.{IsFreshPair}
use Rattle.cb_compact.specs.PatchStep.{is_undone}
use Rattle.cb_local.specs.Delta.{DoneState}
use Rattle.cb_local.specs.Fetching.{AreParitiesMade, rows_given}
use Rattle.cb_local.specs.Rooms.{AllHaveRoom}

-- the far state where so many rows were given out
abbrev pub with_count : FarState → ℕ → FarState
with_count far given = record far { nodes = record far.nodes { given = given } }

-- Steps were taken since the begin, in order, none of those below the position is left, and from it
-- on all is as at the begin: what is to be done, and how many rows a's nodes hold there. The words
-- of both sets are those of the begin.
pub record HasTakenSteps (begun : FarState) (first : JoiningState) (a b : SetState) (far : FarState)
    (n : ℕ) : Type 0 where
  pub gone : HasGone begun far n
  pub pair : JoiningState
  pub fresh : IsFreshPair far pair a b
  pub shards : pair.shards_a ≡ first.shards_a
  pub taken : pair.taken ≡ first.taken
  pub count : length pair.steps ≡ length first.steps
  pub undone : (q : ℕ) → n ≤ q → is_undone pair (length a.positions) q
      ≡ is_undone first (length a.positions) q
  pub room : far.nodes.room ≡ begun.nodes.room
  pub held_same : (q : ℕ) (old : Shard) → n ≤ q → slice_get first.shards_a q ≡ Some old
      → held far.nodes old.node ≡ held begun.nodes old.node
  pub a_words : (rows : List (List ℕ)) → IsWordOf far.nodes far.members a rows
      → IsWordOf begun.nodes begun.members a rows
  pub b_words : (rows : List (List ℕ)) → IsWordOf far.nodes far.members b rows
      → IsWordOf begun.nodes begun.members b rows

-- The rows of an order that was run are put for the steps below the position, where the begin left
-- room for all of them. But that the order's rows were given out, it is as if the nodes had made
-- them.
pub record ArePut (done : DoneState) (s : Shown) (begun : FarState) (first : JoiningState)
    (a b : SetState) (far : FarState) (n : ℕ) : Type 0 where
  pub sound : Sound s begun
  pub made : AreParitiesMade begun first a b done
  pub rooms : AllHaveRoom begun first a
  pub few : begun.counts.keys + 20 < 2 ^ 62
  pub taken : HasTakenSteps begun first a b (with_count far begun.nodes.given) n
  pub given : far.nodes.given ≡ begun.nodes.given + rows_given first.taken (parities a)
