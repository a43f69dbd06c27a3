-- A pair joined in one turn keeps the world sound, and last complete contents.
use Rattle.std.proofs.Common.{◌≡◌, ℕ, zero, suc, List, [], ◌∷◌, replicate, length, Option, None, refl, sym, ap, ◌∙◌, subst, inl, inr}
use Rattle.std.specs.Prelude.{Result, Ok, Err, IfOk, OnErr}
use Rattle.cb_member.specs.declared.no_memory.NoMemory.{NoMemory}
use Rattle.cb_set.specs.SetState.{SetState}
use Rattle.cb_types.specs.declared.handle.SetId.{SetId}
use Rattle.cb_types.specs.declared.reply.Reply.{Reply}
use Rattle.cb_types.specs.declared.reply.Reply.TheVariants as answer
use Rattle.cb_world.specs.declared.shown.Shown.{Shown}
use Rattle.cb_world.specs.FarState.{FarState}
use Rattle.cb_world.specs.Joining.{JoiningState}
use Rattle.cb_world.specs.Reserved.{put_shards}
use Rattle.cb_world.specs.Sound.{Sound}
use Rattle.cb_compact.specs.NowGoing.{EndsFrom, IsUndone, without_pair}
use Rattle.cb_compact.specs.CompactStep.{AreStepped, CompactStep, PairEnds}
use Rattle.cb_compact.specs.PairStep.{IsPaired, PairStep, begun_pair, set_numbered, with_pair}
use Rattle.cb_compact.specs.PartStep.{IsFreshPair, PartStep}
use Rattle.cb_compact.proofs.PairSound.{begin_given, begin_now, begin_words}
use Rattle.cb_compact.proofs.MergeSound.{merge_given, merge_keeps}
use Rattle.cb_compact.proofs.CompactKeeps.{JoinKeeps, dropped_given, keeps_all, keeps_both, parted_keeps}
use Rattle.cb_compact.proofs.NowGone.{stepped_keeps_all}
use Rattle.cb_compact.proofs.PatchSound.{patch_given}

-- ---- what the begin was
pub at_joining : (far mid : FarState) (a b : SetId) → PairStep far mid (answer.Joining a b)
    → CompactStep far mid (answer.Joining a b)
at_joining far mid a b (inl x) = inl x
at_joining far mid a b (inr (inl x)) = absurd (other x.reply)
  where
    other : answer.Joining a b ≡ answer.NoPair → ⊥
    other e = cc
at_joining far mid a b (inr (inr x)) = absurd (other x.reply)
  where
    other : answer.Joining a b ≡ answer.Pair (set_numbered x.x) (set_numbered x.y) → ⊥
    other e = cc

pub at_no_pair : (far mid : FarState) → PairStep far mid answer.NoPair
    → CompactStep far mid answer.NoPair
at_no_pair far mid (inl x) = absurd (other x.reply)
  where
    other : answer.NoPair ≡ answer.Joining (set_numbered x.pair.a) (set_numbered x.pair.b) → ⊥
    other e = cc
at_no_pair far mid (inr (inl x)) = inr (inl x)
at_no_pair far mid (inr (inr x)) = absurd (other x.reply)
  where
    other : answer.NoPair ≡ answer.Pair (set_numbered x.x) (set_numbered x.y) → ⊥
    other e = cc

pub at_pair : (far mid : FarState) (a b : SetId) → PairStep far mid (answer.Pair a b)
    → IsPaired far mid (answer.Pair a b)
at_pair far mid a b (inl x) = absurd (other x.reply)
  where
    other : answer.Pair a b ≡ answer.Joining (set_numbered x.pair.a) (set_numbered x.pair.b) → ⊥
    other e = cc
at_pair far mid a b (inr (inl x)) = absurd (other x.reply)
  where
    other : answer.Pair a b ≡ answer.NoPair → ⊥
    other e = cc
at_pair far mid a b (inr (inr x)) = x

none_put : (n : ℕ) → put_shards (replicate n None) ≡ []
none_put zero = refl
none_put (suc n) = none_put n

-- the pair that has begun stands as it began, and no step of it is done
pub record PairHasBegun (far mid : FarState) : Type 0 where
  pub none : far.joining ≡ None
  pub pair : JoiningState
  pub a : SetState
  pub b : SetState
  pub fresh : IsFreshPair mid pair a b
  pub undone : IsUndone pair
  pub state : mid ≡ with_pair far pair

pub has_begun : (far mid : FarState) (a b : SetId) → PairStep far mid (answer.Pair a b)
    → PairHasBegun far mid
has_begun far mid a b step = let x = at_pair far mid a b step in record {
  none = x.none;
  pair = begun_pair x.x x.y x.a x.b;
  a = x.a;
  b = x.b;
  fresh = subst (λ (f : FarState). IsFreshPair f (begun_pair x.x x.y x.a x.b) x.a x.b)
      (sym x.state) (record {
        was = refl;
        a_stands = record {
          there = x.first.can.a_there;
          same = refl;
          whole = x.first.can.matched.whole_a;
        };
        b_stands = record {
          there = x.first.can.b_there;
          same = refl;
          whole = x.first.can.matched.whole_b;
        };
      });
  undone = none_put (length x.a.shards);
  state = x.state;
}

-- without the pair all is as it was before the begin
pub back_before : (far mid : FarState) → PairHasBegun far mid → without_pair mid ≡ far
back_before far mid x = ap without_pair x.state
    ∙ ap (λ (o : Option JoiningState). record far { joining = o }) (sym x.none)

-- ---- what the end keeps
part_keeps : (s : Shown) (far new : FarState) (r : Reply) → Sound s far → PartStep far new r
    → JoinKeeps s far new
part_keeps s far new r sound (inl x) = subst (JoinKeeps s far) (sym x.state) (keeps_all s far sound)
part_keeps s far new r sound (inr x) =
    subst (JoinKeeps s far) (sym x.state) (parted_keeps s far x.pair sound x.there)

part_given : (far new : FarState) (r : Reply) → PartStep far new r
    → new.nodes.given ≡ far.nodes.given
part_given far new r (inl x) = ap (λ (f : FarState). f.nodes.given) x.state
part_given far new r (inr x) = ap (λ (f : FarState). f.nodes.given) x.state
    ∙ dropped_given far.nodes (put_shards x.pair.steps)

ends_keep : (s : Shown) (far new : FarState) (r : Reply) → Sound s far → PairEnds far new r
    → JoinKeeps s far new
ends_keep s far new r sound (inl x) = part_keeps s far new answer.Done sound x.parted
ends_keep s far new r sound (inr x) =
    merge_keeps s far new (answer.Merged x.set x.moved) sound x.merged

ends_given : (far new : FarState) (r : Reply) → PairEnds far new r
    → new.nodes.given ≡ far.nodes.given
ends_given far new r (inl x) = part_given far new answer.Done x.parted
ends_given far new r (inr x) = merge_given far new (answer.Merged x.set x.moved) x.merged

steps_given : (far new : FarState) (done : List ℕ) → AreStepped far done new
    → new.nodes.given ≡ far.nodes.given
steps_given far new [] steps = ap (λ (f : FarState). f.nodes.given) steps
steps_given far new (p ∷ done) steps =
    steps_given steps.0 new done steps.2 ∙ patch_given far steps.0 (answer.Stepped p) steps.1

-- ---- the whole turn
pub from_keep : (s : Shown) (far new : FarState) (r : Reply) → Sound s far → EndsFrom far new r
    → JoinKeeps s far new
from_keep s far new r sound x =
    let y = stepped_keeps_all s far x.1 x.0 sound x.2 in
    keeps_both s far x.1 new y (ends_keep s x.1 new r y.sound x.3)

pub from_given : (far new : FarState) (r : Reply) → EndsFrom far new r
    → new.nodes.given ≡ far.nodes.given
from_given far new r x = ends_given x.1 new r x.3 ∙ steps_given far x.1 x.0 x.2

module _ (far mid new : FarState) (a b : SetId) (begun : PairStep far mid (answer.Pair a b)) where
  pub through : (r : Result Reply NoMemory) → IfOk r (λ reply. EndsFrom mid new reply)
      → IfOk r (λ reply. CompactStep far new reply)
  through (Ok reply) x = inr (inr (record {
    a = a;
    b = b;
    begun = mid;
    paired = begun;
    done = x.0;
    stepped = x.1;
    steps = x.2;
    ends = x.3;
  }))
  through (Err e) x = x

  pub through_error : (r : Result Reply NoMemory) → OnErr r (new ≡ without_pair mid)
      → OnErr r (new ≡ far)
  through_error (Ok reply) x = x
  through_error (Err e) x = x ∙ back_before far mid (has_begun far mid a b begun)

  pub through_keeps : (s : Shown) (r : Result Reply NoMemory) → Sound s far → Sound s mid
      → IfOk r (λ reply. EndsFrom mid new reply) → OnErr r (new ≡ without_pair mid)
      → JoinKeeps s far new
  through_keeps s (Ok reply) sound after x error =
      keeps_both s far mid new (record {
        sound = after;
        same_now = λ h. begin_now s far mid (answer.Pair a b) h sound begun;
        words = begin_words far mid (answer.Pair a b) begun;
      }) (from_keep s mid new reply after x)
  through_keeps s (Err e) sound after x error =
      subst (JoinKeeps s far) (sym (error ∙ back_before far mid (has_begun far mid a b begun)))
      (keeps_all s far sound)

  pub through_given : (r : Result Reply NoMemory) → IfOk r (λ reply. EndsFrom mid new reply)
      → OnErr r (new ≡ without_pair mid) → new.nodes.given ≡ far.nodes.given
  through_given (Ok reply) x error =
      from_given mid new reply x ∙ begin_given far mid (answer.Pair a b) begun
  through_given (Err e) x error =
      ap (λ (f : FarState). f.nodes.given)
      (error ∙ back_before far mid (has_begun far mid a b begun))

-- no row is given, whatever the turn was
pub now_given : (far new : FarState) (r : Reply) → CompactStep far new r
    → new.nodes.given ≡ far.nodes.given
now_given far new r (inl x) = ap (λ (f : FarState). f.nodes.given) x.state
now_given far new r (inr (inl x)) = ap (λ (f : FarState). f.nodes.given) x.state
now_given far new r (inr (inr x)) =
    from_given x.begun new r (x.done, x.stepped, x.steps, x.ends)
    ∙ begin_given far x.begun (answer.Pair x.a x.b) x.paired
