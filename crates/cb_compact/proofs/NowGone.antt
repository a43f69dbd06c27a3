-- How far the steps of a pair that is joined in one turn have gone.
use Rattle.std.proofs.Common.{◌≡◌, ℕ, ◌+◌, ◌<◌, ◌&&◌, Bool, true, false, List, [], ◌∷◌, ◌++◌, length, Option, Some, None, is_none, refl, sym, ap, ◌∙◌, subst, arith, inl, inr, length-set}
use Rattle.std.specs.List.{slice_get}
use Rattle.std.proofs.lemmas.Bool.{cases_eq}
use Rattle.std.proofs.lemmas.List.{get_or-set_same, get_or-set_other}
use Rattle.cb_member.specs.declared.names.NodeId.{NodeId}
use Rattle.cb_member.specs.declared.names.Shard.{Shard}
use Rattle.cb_set.specs.SetState.{SetState}
use Rattle.cb_types.specs.declared.reply.Reply.TheVariants as answer
use Rattle.cb_world.specs.declared.shown.Shown.{Shown}
use Rattle.cb_world.specs.FarState.{FarState}
use Rattle.cb_world.specs.FarSound.{of_joining, of_set}
use Rattle.cb_world.specs.Joining.{JoiningState}
use Rattle.cb_world.specs.JoinSteps.{with_step}
use Rattle.cb_world.specs.Sound.{Sound}
use Rattle.cb_world.specs.Stored.{all_dropped}
use Rattle.cb_world.proofs.Laws.{undrawn_is_fresh}
use Rattle.cb_compact.specs.NowGoing.{HasGone, IsUndone, TriesStep, with_keys, without_pair}
use Rattle.cb_compact.specs.CompactStep.{AreStepped}
use Rattle.cb_compact.specs.PartStep.{IsFreshPair, with_parted}
use Rattle.cb_compact.specs.PatchStep.{IsNodeFull, IsOneStep, PatchStep, has_step, is_undone, shard_beside, with_stepped}
use Rattle.cb_compact.proofs.CompactKeeps.{JoinKeeps, keeps_all, keeps_both, steps_there}
use Rattle.cb_compact.proofs.NowDropped.{stepped_back}
use Rattle.cb_compact.proofs.PatchSound.{patch_keeps, step_is_none}

-- ---- steps one after another
pub stepped_more : (far mid new : FarState) (done : List ℕ) (p : ℕ) → AreStepped far done mid
    → PatchStep mid new (answer.Stepped p) → AreStepped far (done ++ p ∷ []) new
stepped_more far mid new [] p steps step =
    (new, subst (λ (f : FarState). PatchStep f new (answer.Stepped p)) steps step, refl)
stepped_more far mid new (q ∷ done) p steps step =
    (steps.0, steps.1, stepped_more steps.0 mid new done p steps.2 step)

pub stepped_keeps_all : (s : Shown) (far new : FarState) (done : List ℕ) → Sound s far
    → AreStepped far done new → JoinKeeps s far new
stepped_keeps_all s far new [] sound steps =
    subst (JoinKeeps s far) (sym steps) (keeps_all s far sound)
stepped_keeps_all s far new (p ∷ done) sound steps =
    let x = patch_keeps s far steps.0 (answer.Stepped p) sound steps.1 in
    keeps_both s far steps.0 new x (stepped_keeps_all s steps.0 new done x.sound steps.2)

-- ---- the begin
pub none_gone : (far : FarState) (pair : JoiningState) (a b : SetState)
    → IsFreshPair far pair a b → IsUndone pair → HasGone far far 0
none_gone far pair a b fresh undone = record {
  pair = pair;
  a = a;
  b = b;
  fresh = fresh;
  below = λ q l. absurd (omega (arith, l));
  done = [];
  steps = refl;
  count = λ q e. ap (λ (p : JoiningState). length p.steps) (same pair q (sym fresh.was ∙ e));
  keys = omega arith;
  back = ap (λ (l : List Shard). without_pair (record far { nodes = all_dropped far.nodes l }))
      undone;
}
  where
    same : (p q : JoiningState) → Some p ≡ Some q → p ≡ q
    same p q e = cc

-- ---- one position more
below_more : (f : ℕ → Bool) (n : ℕ) → ((q : ℕ) → q < n → f q ≡ false) → f n ≡ false
    → (q : ℕ) → q < n + 1 → f q ≡ false
below_more f n below at q l = elim (cases_eq q n) [
  | inl e ↦ ap f e ∙ at
  | inr off ↦ below q (omega (arith, l, off))
]

and_false : (b : Bool) → (b && false) ≡ false
and_false true = refl
and_false false = refl

-- the step that was done is done, and the others are as they were
pub step_done : (pair : JoiningState) (k p : ℕ) (shard : Shard) → p < length pair.steps
    → is_undone (with_step pair p shard) k p ≡ false
step_done pair k p shard within =
    ap (λ (o : Option Shard). has_step pair k p && is_none o)
    (get_or-set_same pair.steps p (Some shard) None within)
    ∙ and_false (has_step pair k p)

pub step_other : (pair : JoiningState) (k p q : ℕ) (shard : Shard) → (q ≡ p → ⊥)
    → is_undone (with_step pair p shard) k q ≡ is_undone pair k q
step_other pair k p q shard off =
    ap (λ (o : Option Shard). has_step pair k q && is_none o)
    (get_or-set_other pair.steps p q (Some shard) None off)

-- nothing was to be done there
pub gone_past : (begun far : FarState) (n : ℕ) (x : HasGone begun far n)
    → is_undone x.pair (length x.a.positions) n ≡ false → HasGone begun far (n + 1)
gone_past begun far n x at = record {
  pair = x.pair;
  a = x.a;
  b = x.b;
  fresh = x.fresh;
  below = below_more (is_undone x.pair (length x.a.positions)) n x.below at;
  done = x.done;
  steps = x.steps;
  count = x.count;
  keys = let l = x.keys in omega (arith, l);
  back = x.back;
}

-- the step is done
module _ (s : Shown) (begun far new : FarState) (n : ℕ) (sound : Sound s far)
    (x : HasGone begun far n)
    (step : IsOneStep far x.pair x.a x.b new (answer.Stepped n)) (at : step.position ≡ n)
  where
    abbrev shard : Shard
    shard = shard_beside far step.old

    abbrev after : FarState
    after = with_stepped far x.pair step.position shard step.row

    patched : PatchStep far new (answer.Stepped n)
    patched = inr (inr (record {
      pair = x.pair;
      a = x.a;
      b = x.b;
      fresh = x.fresh;
      takes = inr (inr step);
    }))

    within : shard.node.n < length far.nodes.nodes
    within =
        let rows = sound.away.sound.rows in
        let y = (rows.current (of_set x.pair.a step.position) step.old (
          x.a,
          x.fresh.a_stands.there,
          ap (λ (l : List Shard). slice_get l step.position) x.fresh.a_stands.same ∙ step.at,
        )).0 in
        let m = rows.counted in omega (arith, y, m)

    apart : (q : ℕ) (t : Shard) → slice_get x.pair.steps q ≡ Some (Some t) → t.key ≡ shard.key → ⊥
    apart q t there e =
        let l = sound.away.sound.rows.drawn (of_joining q) t (x.pair, x.fresh.was, there) in
        omega (arith, l, e)

    back_as : with_keys (with_parted after (with_step x.pair step.position shard)) begun.counts.keys
        ≡ without_pair begun
    back_as =
        stepped_back far x.pair step.position begun.counts.keys shard step.row within
        (steps_there far x.pair sound.away.sound.rows x.fresh.was)
        (undrawn_is_fresh far shard.node far.counts.keys sound.away.sound.rows (omega arith))
        (step_is_none x.pair (length x.a.positions) step.position step.next) apart
        ∙ x.back

    k : ℕ
    k = length x.a.positions

    at_after : HasGone begun after (step.position + 1)
    at_after = record {
      pair = with_step x.pair step.position shard;
      a = x.a;
      b = x.b;
      fresh = record {
        was = refl;
        a_stands = record {
          there = x.fresh.a_stands.there;
          same = x.fresh.a_stands.same;
          whole = x.fresh.a_stands.whole;
        };
        b_stands = record {
          there = x.fresh.b_stands.there;
          same = x.fresh.b_stands.same;
          whole = x.fresh.b_stands.whole;
        };
      };
      below = below_more (is_undone (with_step x.pair step.position shard) (length x.a.positions))
          step.position (λ q l. step_other x.pair (length x.a.positions) step.position q shard
          (λ e. omega (arith, e, l)) ∙ x.below q (omega (arith, l, at)))
          (step_done x.pair (length x.a.positions) step.position shard step.next.within);
      done = x.done ++ n ∷ [];
      steps = subst (AreStepped begun (x.done ++ n ∷ [])) step.state
          (stepped_more begun far new x.done n x.steps patched);
      count = λ q e. length-set x.pair.steps step.position (Some shard) ∙ x.count q e;
      keys = let l = x.keys in omega (arith, l, at);
      back = back_as;
    }

    pub gone_one : HasGone begun new (n + 1)
    gone_one = subst (λ (f : FarState). HasGone begun f (n + 1)) (sym step.state)
        (subst (λ (m : ℕ). HasGone begun after (m + 1)) at at_after)

position_same : (p q : ℕ) → answer.Stepped p ≡ answer.Stepped q → p ≡ q
position_same p q e = cc

-- whatever was tried
abbrev pub StepGoesOn : FarState → FarState → ℕ → Option NodeId → Type 0
StepGoesOn begun new n None = HasGone begun new (n + 1)
StepGoesOn begun new n (Some node) = (x : HasGone begun new n)
    × IsNodeFull new x.pair x.a new (answer.NodeFull node)

pub gone_on : (s : Shown) (begun far new : FarState) (n : ℕ) (full : Option NodeId) → Sound s far
    → (x : HasGone begun far n) → TriesStep far x.pair x.a x.b n new full
    → StepGoesOn begun new n full
gone_on s begun far new n full sound x (inl y) =
    subst (StepGoesOn begun new n) (sym y.1)
    (subst (λ (f : FarState). HasGone begun f (n + 1)) (sym y.2) (gone_past begun far n x y.0))
gone_on s begun far new n None sound x (inr y) =
    gone_one s begun far new n sound x y.1 (sym (position_same n y.1.position y.1.reply))
gone_on s begun far new n (Some node) sound x (inr y) =
    subst (λ (f : FarState). (z : HasGone begun f n)
    × IsNodeFull f z.pair z.a f (answer.NodeFull node))
    (sym y.1.state) (
      x,
      record {
        position = y.1.position;
        next = y.1.next;
        old = y.1.old;
        at = y.1.at;
        full = y.1.full;
        reply = y.1.reply;
        state = refl;
      },
    )
