-- A pair that has begun to join is gone through with by the compute side.
use Rattle.std.specs.Prelude.{◌≡◌, ◌⊎◌, ℕ, ◌+◌, ◌^◌, ◌<◌, ◌≤◌}
use Rattle.std.specs.List.Sorted.{IsStrictlyIncreasing}
use Rattle.cb_member.specs.declared.names.NodeId.{NodeId}
use Rattle.cb_set.specs.SetState.{SetState, parities}
use Rattle.cb_types.specs.declared.handle.SetId.{SetId}
use Rattle.cb_types.specs.declared.reply.Reply.{Reply}
use Rattle.cb_types.specs.declared.reply.Reply.TheVariants as answer
use Rattle.cb_world.specs.declared.shown.Shown.{Shown}
use Rattle.cb_world.specs.FarState.{FarState}
use Rattle.cb_world.specs.Joining.{JoiningState}
use Rattle.cb_world.specs.Sound.{Sound}
use Rattle.cb_compact.specs.NowGoing.{EndsFrom, HasGone, IsUndone, with_keys, without_pair}
use Rattle.cb_compact.specs.PartStep.{IsFreshPair}
use Rattle.cb_local.specs.Fetching.{far_given, rows_given}
use Rattle.cb_local.specs.Putting.{with_count}

-- the pair has begun: the world is sound, both sets stand, no step is done, the taken positions
-- ascend, and the counts have room
pub record IsBegunPair (s : Shown) (far : FarState) (pair : JoiningState) (a b : SetState) : Type 0
  where
    pub sound : Sound s far
    pub fresh : IsFreshPair far pair a b
    pub undone : IsUndone pair
    pub ascend : IsStrictlyIncreasing pair.taken
    pub few : far.counts.keys + 20 < 2 ^ 62
    pub numbers : far.counts.sets < 2 ^ 62
    pub rows : far.nodes.given + 36 < 2 ^ 64

-- the pair is one set, and its rows were given
pub record EndsMergedHere (begun new : FarState) (pair : JoiningState) (a : SetState) (r : Reply)
    : Type 0 where
  pub mid : FarState
  pub set : SetId
  pub moved : ℕ
  pub reply : r ≡ answer.Merged set moved
  pub ends : EndsFrom begun mid r
  pub state : new ≡ far_given mid (rows_given pair.taken (parities a))

-- a node is full: the pair is given up, and nothing else changes
pub record EndsFullHere (begun new : FarState) (r : Reply) : Type 0 where
  pub mid : FarState
  pub node : NodeId
  pub reply : r ≡ answer.NodeFull node
  pub ends : EndsFrom begun mid r
  pub state : new ≡ with_keys mid begun.counts.keys
  pub left : new ≡ without_pair begun

-- how the turn ends
abbrev pub EndsHere : FarState → FarState → JoiningState → SetState → Reply → Type 0
EndsHere begun new pair a r = EndsFullHere begun new r ⊎ EndsMergedHere begun new pair a r

-- steps were taken since the begin, and at most so many rows were given
pub record HasGoneGiving (begun far : FarState) : Type 0 where
  pub n : ℕ
  pub gone : HasGone begun (with_count far begun.nodes.given) n
  pub rows : ℕ
  pub few : rows ≤ 36
  pub given : far.nodes.given ≡ begun.nodes.given + rows

-- without the pair all is as it was before the begin, but that at most so many rows were given
pub record IsJoinStopped (begun new : FarState) : Type 0 where
  pub rows : ℕ
  pub few : rows ≤ 36
  pub state : new ≡ far_given (without_pair begun) rows
