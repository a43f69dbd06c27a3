-- What a step of the joining pair was.
use Rattle.std.proofs.Common.{◌≡◌, ℕ, ◌+◌, ◌<◌, Some, length, refl, sym, ap, ◌∙◌, subst}
use Rattle.std.specs.List.{slice_get}
use Rattle.cb_member.specs.declared.names.Shard.{Shard}
use Rattle.cb_node.specs.NodesState.{NodesState, held}
use Rattle.cb_node.specs.declared.nodes.PutAnswer.TheVariants.{Full, Stored}
use Rattle.cb_set.specs.SetState.{SetState}
use Rattle.cb_world.specs.declared.shown.Shown.{Shown}
use Rattle.cb_world.specs.FarState.{FarState}
use Rattle.cb_world.specs.FarSound.{FarSound}
use Rattle.cb_world.specs.Joining.{JoiningState}
use Rattle.cb_world.specs.JoinSteps.{with_step}
use Rattle.cb_types.specs.declared.reply.Reply.TheVariants as answer
use Rattle.cb_compact.specs.Deltas.{IsReadyToPut, PutsMerged}
use Rattle.cb_compact.specs.PartStep.{IsFreshPair}
use Rattle.cb_compact.specs.PatchStep.{IsNext, IsNodeFull, IsOneStep, shard_beside, with_stepped}

pub ready : (s : Shown) (far : FarState) (pair : JoiningState) (a b : SetState) (p : ℕ)
    (shard old : Shard) → FarSound s far → IsFreshPair far pair a b
    → IsNext pair (length a.positions) p → slice_get pair.shards_a p ≡ Some old
    → shard ≡ shard_beside far old → IsReadyToPut s far pair a b p shard
ready s far pair a b p shard old sound fresh next at beside = record {
  sound = sound;
  fresh = fresh;
  next = next;
  old = old;
  at = at;
  beside = beside;
}

abbrev noted : FarState → JoiningState → ℕ → Shard → FarState
noted far pair p shard = record far {
  joining = Some (with_step pair p shard);
  counts = record far.counts { keys = far.counts.keys + 1 };
}

-- the row was put, and the step noted
pub one_step : (far mid new : FarState) (pair : JoiningState) (a b : SetState) (p : ℕ)
    (shard old : Shard) → IsFreshPair far pair a b → IsNext pair (length a.positions) p
    → slice_get pair.shards_a p ≡ Some old → shard ≡ shard_beside far old
    → mid ≡ record far { nodes = mid.nodes } → PutsMerged far pair a b p shard Stored mid.nodes
    → ((q : JoiningState) → mid.joining ≡ Some q → new ≡ noted mid q p shard)
    → IsOneStep far pair a b new (answer.Stepped p)
one_step far mid new pair a b p shard old fresh next at beside put row is = record {
  position = p;
  next = next;
  old = old;
  at = at;
  room = subst (λ (q : Shard). held far.nodes q.node < far.nodes.room) beside row.0;
  row = row.1;
  merged = row.2;
  reply = refl;
  state = is pair (ap (λ (f : FarState). f.joining) put ∙ fresh.was)
      ∙ ap (λ (f : FarState). noted f pair p shard) put
      ∙ ap (λ (n : NodesState). noted (record far { nodes = n }) pair p shard) row.3
      ∙ ap (λ (q : Shard). with_stepped far pair p q row.1) beside;
}

-- the node is full
pub full_step : (far new : FarState) (pair : JoiningState) (a b : SetState) (p : ℕ)
    (shard old : Shard) (count : ℕ) → IsFreshPair far pair a b → IsNext pair (length a.positions)
    p
    → slice_get pair.shards_a p ≡ Some old → shard ≡ shard_beside far old
    → new ≡ record far { nodes = new.nodes } → PutsMerged far pair a b p shard (Full count)
    new.nodes
    → IsNodeFull far pair a new (answer.NodeFull shard.node)
full_step far new pair a b p shard old count fresh next at beside put full = record {
  position = p;
  next = next;
  old = old;
  at = at;
  full = ap (λ (q : Shard). held far.nodes q.node) (sym beside) ∙ full.0;
  reply = ap (λ (q : Shard). answer.NodeFull q.node) beside;
  state = put ∙ ap (λ (n : NodesState). record far { nodes = n }) full.1;
}
