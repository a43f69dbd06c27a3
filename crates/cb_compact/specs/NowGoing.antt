-- How far the steps of a pair that is joined in one turn have gone.
use Rattle.std.specs.Prelude.{◌≡◌, ◌⊎◌, ℕ, ◌+◌, ◌<◌, ◌≤◌, false, List, [], Option, None, Some, length}
use Rattle.cb_member.specs.declared.names.NodeId.{NodeId}
use Rattle.cb_set.specs.SetState.{SetState}
use Rattle.cb_types.specs.declared.reply.Reply.{Reply}
use Rattle.cb_types.specs.declared.reply.Reply.TheVariants as answer
use Rattle.cb_world.specs.FarState.{FarState}
use Rattle.cb_world.specs.Joining.{JoiningState}
use Rattle.cb_world.specs.Reserved.{put_shards}
use Rattle.cb_compact.specs.CompactStep.{AreStepped, PairEnds}
use Rattle.cb_compact.specs.PartStep.{IsFreshPair, with_parted}
use Rattle.cb_compact.specs.Stepping.{TakesOne}
use Rattle.cb_compact.specs.PatchStep.{AreDone, IsNext, IsNodeFull, is_undone}

-- no step of the pair is done
abbrev pub IsUndone : JoiningState → Type 0
IsUndone pair = put_shards pair.steps ≡ []

-- the far state where so many keys are drawn
abbrev pub with_keys : FarState → ℕ → FarState
with_keys far keys = record far { counts = record far.counts { keys = keys } }

-- the far state where no pair is joining
abbrev pub without_pair : FarState → FarState
without_pair far = record far { joining = None }

-- the step of a position is tried where it is to be done
abbrev pub TriesStep : FarState → JoiningState → SetState → SetState → ℕ → FarState → Option NodeId
    → Type 0
TriesStep far pair a b p new full =
    ((is_undone pair (length a.positions) p ≡ false) × (full ≡ None) × (new ≡ far))
    ⊎ (IsNext pair (length a.positions) p × TakesOne far pair a b p new full)

-- Steps were taken since the begin, in order: none of those below the position is left. At most
-- one key was drawn for each, and with the new rows dropped and the keys given back all is as it
-- was at the begin, without the pair.
pub record HasGone (begun far : FarState) (position : ℕ) : Type 0 where
  pub pair : JoiningState
  pub a : SetState
  pub b : SetState
  pub fresh : IsFreshPair far pair a b
  pub below : (q : ℕ) → q < position → is_undone pair (length a.positions) q ≡ false
  pub done : List ℕ
  pub steps : AreStepped begun done far
  pub count : (q : JoiningState) → begun.joining ≡ Some q → length pair.steps ≡ length q.steps
  pub keys : far.counts.keys ≤ begun.counts.keys + position
  pub back : with_keys (with_parted far pair) begun.counts.keys ≡ without_pair begun

-- where they end: all steps are done, or a node is full
abbrev pub GoesTo : FarState → FarState → Option NodeId → Type 0
GoesTo begun far None = (n : ℕ) × (gone : HasGone begun far n)
    × AreDone gone.pair (length gone.a.positions)
GoesTo begun far (Some node) = (n : ℕ) × (gone : HasGone begun far n)
    × IsNodeFull far gone.pair gone.a far (answer.NodeFull node)

-- a pair that has begun is gone through with
abbrev pub EndsFrom : FarState → FarState → Reply → Type 0
EndsFrom begun new r = (done : List ℕ) × (stepped : FarState) × AreStepped begun done stepped
    × PairEnds stepped new r
