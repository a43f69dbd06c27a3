-- How the steps of a pair that is joined in one turn end.
use Rattle.std.proofs.Common.{◌≡◌, ℕ, ◌≤◌, length, Some, None, refl, sym, ap, subst, arith, inl, inr}
use Rattle.std.specs.Prelude.{Result, Ok, Err, IfOk, OnErr}
use Rattle.cb_member.specs.declared.names.NodeId.{NodeId}
use Rattle.cb_member.specs.declared.no_memory.NoMemory.{NoMemory}
use Rattle.cb_set.specs.SetState.{SetState}
use Rattle.cb_types.specs.declared.reply.Reply.{Reply}
use Rattle.cb_types.specs.declared.reply.Reply.TheVariants as answer
use Rattle.cb_world.specs.declared.shown.Shown.{Shown}
use Rattle.cb_world.specs.FarState.{FarState}
use Rattle.cb_world.specs.Joining.{JoiningState}
use Rattle.cb_world.specs.Reserved.{put_shards}
use Rattle.cb_world.specs.Sound.{Sound}
use Rattle.cb_world.specs.Stored.{AreThere}
use Rattle.cb_compact.specs.MergeStep.{IsMerged}
use Rattle.cb_compact.specs.Merging.{IsReadyToMerge}
use Rattle.cb_compact.specs.NowGoing.{EndsFrom, GoesTo, HasGone}
use Rattle.cb_compact.specs.PartStep.{IsFreshPair, with_parted}
use Rattle.cb_compact.proofs.CompactKeeps.{steps_there}
use Rattle.cb_compact.proofs.NowGone.{stepped_keeps_all}

-- ---- what is known then
pub gone_sound : (s : Shown) (begun far : FarState) (n : ℕ) → Sound s begun → HasGone begun far n
    → Sound s far
gone_sound s begun far n sound x = (stepped_keeps_all s begun far x.done sound x.steps).sound

pub gone_there : (s : Shown) (begun far : FarState) (n : ℕ) → Sound s begun
    → HasGone begun far n
    → (pair : JoiningState) × (far.joining ≡ Some pair) × AreThere far.nodes (put_shards pair.steps)
gone_there s begun far n sound x = (
  x.pair,
  x.fresh.was,
  steps_there far x.pair (gone_sound s begun far n sound x).away.sound.rows x.fresh.was,
)

pub gone_sets : (begun far : FarState) (n : ℕ) → HasGone begun far n
    → far.counts.sets ≡ begun.counts.sets
gone_sets begun far n x = ap (λ (f : FarState). f.counts.sets) x.back

-- all steps up to the count are all there are
pub gone_all : (begun far : FarState) (n : ℕ) (q : JoiningState) → HasGone begun far n
    → begun.joining ≡ Some q → length q.steps ≤ n → GoesTo begun far None
gone_all begun far n q x there past =
    (n, x, λ p l. x.below p (let e = x.count q there in omega (arith, e, l, past)))

-- ---- every step is done
pub goes_ready : (s : Shown) (begun far : FarState) → Sound s begun → GoesTo begun far None
    → (t : Shown) × (pair : JoiningState) × (a : SetState) × (b : SetState)
    × IsReadyToMerge t far pair a b
goes_ready s begun far sound x = (
  s,
  x.1.pair,
  x.1.a,
  x.1.b,
  record {
    sound = (gone_sound s begun far x.0 sound x.1).away;
    fresh = x.1.fresh;
    done = x.2;
  },
)

pub ends_merged : (begun far new : FarState) (r : Result Reply NoMemory) → GoesTo begun far None
    → IfOk r (λ reply. (pair : JoiningState) (a b : SetState) → IsFreshPair far pair a b
    → IsMerged far pair a b new reply) → IfOk r (λ reply. EndsFrom begun new reply)
ends_merged begun far new (Ok reply) x merged =
    let m = merged x.1.pair x.1.a x.1.b x.1.fresh in (
      x.1.done,
      far,
      x.1.steps,
      inr (record {
        set = _;
        moved = _;
        merged = inr (inr (record {
          pair = x.1.pair;
          a = x.1.a;
          b = x.1.b;
          fresh = x.1.fresh;
          merges = inr (record { done = m.done; homes = m.homes; reply = refl; state = m.state });
        }));
        reply = m.reply;
      }),
    )
ends_merged begun far new (Err e) x merged = merged

pub ends_error : (begun far new : FarState) (r : Result Reply NoMemory) → GoesTo begun far None
    → OnErr r (new ≡ far) → OnErr r ((n : ℕ) × HasGone begun new n)
ends_error begun far new (Ok reply) x error = error
ends_error begun far new (Err e) x error =
    (x.0, subst (λ (f : FarState). HasGone begun f x.0) (sym error) x.1)

-- ---- a node is full
pub ends_full : (begun far new : FarState) (node : NodeId) → GoesTo begun far (Some node)
    → ((q : JoiningState) → far.joining ≡ Some q → new ≡ with_parted far q)
    → EndsFrom begun new (answer.NodeFull node)
ends_full begun far new node x parted = (
  x.1.done,
  far,
  x.1.steps,
  inl (record {
    node = node;
    full = inr (inr (record {
      pair = x.1.pair;
      a = x.1.a;
      b = x.1.b;
      fresh = x.1.fresh;
      takes = inr (inl x.2);
    }));
    parted = inr (record {
      pair = x.1.pair;
      there = x.1.fresh.was;
      reply = refl;
      state = parted x.1.pair x.1.fresh.was;
    });
    reply = refl;
  }),
)
