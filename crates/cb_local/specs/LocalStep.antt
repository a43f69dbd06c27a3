-- Two sets are joined in one turn, with parities that the compute side makes.
use Rattle.std.specs.Prelude.{◌≡◌, ◌≢◌, ◌⊎◌, ℕ}
use Rattle.cb_member.specs.declared.names.NodeId.{NodeId}
use Rattle.cb_set.specs.SetState.{parities}
use Rattle.cb_types.specs.declared.handle.SetId.{SetId}
use Rattle.cb_types.specs.declared.reply.Reply.{Reply}
use Rattle.cb_types.specs.declared.reply.Reply.TheVariants as answer
use Rattle.cb_world.specs.FarState.{FarState}
use Rattle.cb_compact.specs.NowGoing.{with_keys}
use Rattle.cb_compact.specs.CompactStep.{CompactStep}
use Rattle.cb_compact.specs.PairStep.{IsPaired, live_positions}
use Rattle.cb_local.specs.Fetching.{far_given, rows_given}

-- no sets were merged: no row is given, and no key is drawn
pub record IsNotMerged (far mid new : FarState) (r : Reply) : Type 0 where
  pub refusal : (set : SetId) (moved : ℕ) → r ≢ answer.Merged set moved
  pub state : new ≡ with_keys mid far.counts.keys

-- The first two sets that can be joined were merged. Both rows at each position that is live in the
-- second one, and the parities of the first, were given.
pub record IsMergedHere (far mid new : FarState) (r : Reply) : Type 0 where
  pub set : SetId
  pub moved : ℕ
  pub reply : r ≡ answer.Merged set moved
  pub begun : FarState
  pub begins : Reply
  pub pair : IsPaired far begun begins
  pub state : new ≡ far_given mid (rows_given (live_positions pair.b) (parities pair.a))

-- how the far state stands beside `mid`, in which the nodes would have ended the turn
abbrev pub IsBesideNodes : FarState → FarState → FarState → Reply → Type 0
IsBesideNodes far mid new r = IsNotMerged far mid new r ⊎ IsMergedHere far mid new r

-- The turn has the reply that it has where the nodes make the parities, and leads to the same far
-- state, but for the rows that were given and the keys that a full node left drawn: here it leaves
-- all as it was.
pub record LocalStep (far new : FarState) (r : Reply) : Type 0 where
  pub mid : FarState
  pub same : CompactStep far mid r
  pub beside : IsBesideNodes far mid new r
  pub full : (node : NodeId) → r ≡ answer.NodeFull node → new ≡ far
