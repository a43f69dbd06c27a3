-- Two sets are joined in one turn.
use Rattle.std.specs.Prelude.{◌≡◌, ◌⊎◌, ℕ, List, [], ◌∷◌}
use Rattle.cb_member.specs.declared.names.NodeId.{NodeId}
use Rattle.cb_types.specs.declared.handle.SetId.{SetId}
use Rattle.cb_types.specs.declared.reply.Reply.{Reply}
use Rattle.cb_types.specs.declared.reply.Reply.TheVariants as answer
use Rattle.cb_world.specs.FarState.{FarState}
use Rattle.cb_compact.specs.PairStep.{FindsNoPair, IsJoining, PairStep}
use Rattle.cb_compact.specs.PartStep.{PartStep}
use Rattle.cb_compact.specs.PatchStep.{PatchStep}
use Rattle.cb_compact.specs.MergeStep.{MergeStep}

-- the steps of the joining pair at these positions, one after another, lead from one far state to
-- the other
abbrev pub AreStepped : FarState → List ℕ → FarState → Type 0
AreStepped far [] new = new ≡ far
AreStepped far (position ∷ rest) new =
    (next : FarState) × PatchStep far next (answer.Stepped position) × AreStepped next rest new

-- a's node at the next position is full: the pair is given up, and the node is answered
pub record EndsFull (far new : FarState) (r : Reply) : Type 0 where
  pub node : NodeId
  pub full : PatchStep far far (answer.NodeFull node)
  pub parted : PartStep far new answer.Done
  pub reply : r ≡ answer.NodeFull node

-- every step is done: the pair is one set
pub record EndsMerged (far new : FarState) (r : Reply) : Type 0 where
  pub set : SetId
  pub moved : ℕ
  pub merged : MergeStep far new (answer.Merged set moved)
  pub reply : r ≡ answer.Merged set moved

-- how a pair that is joining ends, whose steps are taken up to here
abbrev pub PairEnds : FarState → FarState → Reply → Type 0
PairEnds far new r = EndsFull far new r ⊎ EndsMerged far new r

-- the first two sets that can be joined begin to, and their steps are taken in order, up to the
-- last one or to the first node that is full
pub record GoesThrough (far new : FarState) (r : Reply) : Type 0 where
  pub a : SetId
  pub b : SetId
  pub begun : FarState
  pub paired : PairStep far begun (answer.Pair a b)
  pub done : List ℕ
  pub stepped : FarState
  pub steps : AreStepped begun done stepped
  pub ends : PairEnds stepped new r

-- two sets joined in one turn: the reply and the far state after it
abbrev pub CompactStep : FarState → FarState → Reply → Type 0
CompactStep far new r = IsJoining far new r ⊎ FindsNoPair far new r ⊎ GoesThrough far new r
