-- Whether the sets of the joining pair stand as they did at the begin, and the pair given up.
use Rattle.std.specs.Prelude.{◌≡◌, ◌⊎◌, ℕ, List, None, Some}
use Rattle.cb_member.specs.declared.names.Shard.{Shard}
use Rattle.cb_set.specs.SetState.{SetState}
use Rattle.cb_set.specs.Lost.{IsWhole}
use Rattle.cb_types.specs.declared.reply.Reply.{Reply}
use Rattle.cb_types.specs.declared.reply.Reply.TheVariants as answer
use Rattle.cb_world.specs.Joining.{JoiningState}
use Rattle.cb_world.specs.Reserved.{put_shards}
use Rattle.cb_world.specs.Sets.{set_in}
use Rattle.cb_world.specs.Stored.{all_dropped}
use Rattle.cb_world.specs.FarState.{FarState}
use Rattle.cb_compact.specs.PairStep.{set_numbered}

-- the set of the number is committed and whole, and has these shards
pub record SetStands (far : FarState) (id : ℕ) (shards : List Shard) (set : SetState) : Type 0 where
  pub there : set_in far.sets id ≡ Some set
  pub same : set.shards ≡ shards
  pub whole : IsWhole far.members set

-- it is gone, has lost a shard or has other shards
abbrev pub HasChanged : FarState → ℕ → List Shard → Type 0
HasChanged far id shards = (set : SetState) → ¬ (SetStands far id shards set)

-- the pair is joining, and both of its sets stand as they did at the begin
pub record IsFreshPair (far : FarState) (pair : JoiningState) (a b : SetState) : Type 0 where
  pub was : far.joining ≡ Some pair
  pub a_stands : SetStands far pair.a pair.shards_a a
  pub b_stands : SetStands far pair.b pair.shards_b b

-- the set of the pair that has changed since the begin, a before b
abbrev pub IsChangedSet : FarState → JoiningState → ℕ → Type 0
IsChangedSet far pair id = (HasChanged far pair.a pair.shards_a × (id ≡ pair.a))
    ⊎ ((a : SetState) × SetStands far pair.a pair.shards_a a × HasChanged far pair.b pair.shards_b
    × (id ≡ pair.b))

-- the far state once the pair is given up: its new rows are dropped
abbrev pub with_parted : FarState → JoiningState → FarState
with_parted far pair = record far {
  nodes = all_dropped far.nodes (put_shards pair.steps);
  joining = None;
}

-- no pair is joining
pub record HasNoPair (far new : FarState) (r : Reply) : Type 0 where
  pub none : far.joining ≡ None
  pub reply : r ≡ answer.NoJoin
  pub state : new ≡ far

-- a set of the pair has changed: the pair is given up
pub record IsPairGivenUp (far new : FarState) (r : Reply) : Type 0 where
  pub pair : JoiningState
  pub there : far.joining ≡ Some pair
  pub id : ℕ
  pub changed : IsChangedSet far pair id
  pub reply : r ≡ answer.Changed (set_numbered id)
  pub state : new ≡ with_parted far pair

-- the pair is given up as it was asked for
pub record IsPartedPair (far new : FarState) (r : Reply) : Type 0 where
  pub pair : JoiningState
  pub there : far.joining ≡ Some pair
  pub reply : r ≡ answer.Done
  pub state : new ≡ with_parted far pair

-- the parting of a pair
abbrev pub PartStep : FarState → FarState → Reply → Type 0
PartStep far new r = HasNoPair far new r ⊎ IsPartedPair far new r
