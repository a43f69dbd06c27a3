-- The far part with the pair that is joining.
use Rattle.std.proofs.Common.{◌≡◌, ◌≢◌, ℕ, ◌<◌, ◌≤◌, true, List, length, Option, Some, None, sym, ap, ◌∙◌, subst, arith, inl, inr}
use Rattle.std.specs.List.{slice_get}
use Rattle.std.proofs.lemmas.Bool.{cases_eq}
use Rattle.cb_code.specs.Coefficients.{AreCoefficients}
use Rattle.cb_member.specs.declared.names.NodeId.{NodeId}
use Rattle.cb_member.specs.declared.names.Shard.{Shard}
use Rattle.cb_member.specs.Membership.{IsMembership, Membership, alive, with_crash}
use Rattle.cb_set.specs.SetState.{SetState, PositionState}
use Rattle.cb_set.specs.Lost.{is_lost}
use Rattle.cb_world.specs.declared.shown.Shown.{Shown}
use Rattle.cb_world.specs.FarState.{FarState}
use Rattle.cb_world.specs.Joining.{JoiningState}
use Rattle.cb_set.specs.SetState.{parities}
use Rattle.cb_world.specs.FarSound.{FarSound}
use Rattle.cb_world.specs.SetAdded.{IsSetAdded}
use Rattle.cb_world.specs.GivenUp.{GivesUp}
use Rattle.cb_world.specs.Join.{IsJoin}
use Rattle.cb_world.specs.JoinSteps.{with_step, IsBegun, IsStepped, IsParted, IsCommitted, LeavesSets}
use Rattle.cb_world.proofs.Added.{set_added}
use Rattle.cb_world.proofs.GivenUp.{given_up}
use Rattle.cb_world.specs.NodeChanges.{crashed_far}
use Rattle.cb_world.proofs.Crash.{crash_keeps}
use Rattle.cb_world.proofs.CrashSurvey.{crash_surveyed}
use Rattle.cb_world.proofs.Joined.{crash_keeps_join}
use Rattle.cb_world.proofs.Stepping.{step_keeps, step_keeps_join, part_keeps}
use Rattle.cb_world.proofs.Beginning.{begin_keeps, begun_join}
use Rattle.cb_world.proofs.Committed.{commit_keeps}
use Rattle.cb_world.proofs.JoinNow.{added_keeps_join, given_keeps_join}
use Rattle.cb_world.specs.Counts.{CountsState}
use Rattle.cb_world.specs.Sets.{SetMap, if_committed, set_in}
use Rattle.cb_world.specs.Survey.{survey_without}
use Rattle.cb_world.specs.Surveyed.{IsSurvey}
use Rattle.cb_world.proofs.Surveying.{StandsAlike, rest_broken, stands_gone, stands_rest, stands_still, stands_whole, survey_dropped, survey_same, survey_stays}

pair_same : (x y : JoiningState) → Some x ≡ Some y → x ≡ y
pair_same x y e = cc

no_pair : (far : FarState) → far.joining ≡ None → (pair : JoiningState) → far.joining ≡ Some pair
    → IsJoin far pair
no_pair far none pair at = absurd (none_some far.joining pair none at)
  where
    none_some : (o : Option JoiningState) (p : JoiningState) → o ≡ None → o ≡ Some p → ⊥
    none_some o p e f = cc

one_pair : (far : FarState) (pair : JoiningState) → far.joining ≡ Some pair → IsJoin far pair
    → (other : JoiningState) → far.joining ≡ Some other → IsJoin far other
one_pair far pair is j other at = subst (IsJoin far) (pair_same pair other (sym is ∙ at)) j

left_survey : (far new : FarState) → LeavesSets far new → IsSurvey far far.survey
    → IsSurvey new new.survey
left_survey far new c x = survey_same far new c.survey c.members
    (let d = c.drawn in omega (arith, d)) (λ id. ap (λ (m : SetMap). set_in m id) c.sets) x

pub crash_whole : (s : Shown) (far : FarState) (node : NodeId) → FarSound s far
    → node.n < length far.members.nodes → alive far.members node ≡ true
    → IsMembership (with_crash far.members node) → FarSound s (crashed_far far node)
crash_whole s far node x within up valid = record {
  sound = crash_keeps s far node x.sound within up valid;
  join = λ pair at. crash_keeps_join s far node pair x.sound within up (x.join pair at);
  survey = crash_surveyed s far node x.sound within up x.survey;
}

pub added_whole : (s t : Shown) (far new : FarState) (id : ℕ) (set : SetState)
    (rows : List (List ℕ)) → FarSound s far → IsSetAdded s t far new id set rows → FarSound t new
added_whole s t far new id set rows x c = record {
  sound = set_added s t far new id set rows x.sound c;
  join = λ pair at. let was = sym c.joining
      ∙ at in added_keeps_join s t far new id set rows pair x.sound was c (x.join pair was);
  survey = survey_stays far new c.survey c.drawn.1 each x.survey;
}
  where
    each : (j : ℕ) → j < far.survey.below
        → StandsAlike far.members new.members (set_in far.sets j) (set_in new.sets j)
    each j l = elim (cases_eq j id) [
      | inl here ↦ stands_whole far.members new.members (set_in far.sets j) (set_in new.sets j) set
          (ap (set_in far.sets) here ∙ c.fresh) (ap (set_in new.sets) here ∙ c.added)
          (λ p shard at. ap (λ (m : Membership). is_lost m shard) c.members ∙ c.up p shard at)
      | inr off ↦ stands_still far.members new.members (set_in far.sets j) (set_in new.sets j)
          c.members (ap if_committed (c.others j off))
    ]

pub given_whole : (s t : Shown) (far new : FarState) (id : ℕ) (set : SetState) (p : ℕ)
    (left : PositionState) → FarSound s far → GivesUp s t far new id set p left → FarSound t new
given_whole s t far new id set p left x c = record {
  sound = given_up s t far new id set p left x.sound c;
  join = λ pair at. let was = sym c.joining
      ∙ at in given_keeps_join s t far new id set p left pair x.sound was c (x.join pair was);
  survey = elim c.after [
    | inl on ↦ survey_stays far new on.survey drawn (λ j l. elim (cases_eq j id) [
      | inl here ↦ stands_rest far.members new.members (set_in far.sets j) (set_in new.sets j)
          set p left c.members (ap (set_in far.sets) here ∙ c.was)
          (ap (set_in new.sets) here ∙ on.there)
      | inr off ↦ other j off
    ]) x.survey
    | inr gone ↦ survey_dropped far new id set (record {
      survey = gone.survey
          ∙ ap (survey_without far.survey id) (rest_broken far.members set p left);
      drawn = drawn;
      was = c.was;
      gone = gone.gone;
      others = other;
    }) x.survey
  ];
}
  where
    drawn : far.counts.sets ≤ new.counts.sets
    drawn = let e = ap (λ (n : CountsState). n.sets) c.counts in omega (arith, e)

    other : (j : ℕ) → j ≢ id
        → StandsAlike far.members new.members (set_in far.sets j) (set_in new.sets j)
    other j off = stands_still far.members new.members (set_in far.sets j) (set_in new.sets j)
        c.members (ap if_committed (c.others j off))

pub begun_whole : (s : Shown) (far new : FarState) (pair : JoiningState) (a b : SetState)
    (table : List (List ℕ)) → FarSound s far
    → AreCoefficients (length a.positions) (parities a) table → IsBegun far new pair a b
    → FarSound s new
begun_whole s far new pair a b table x coeffs c = record {
  sound = begin_keeps s far new pair a b x.sound c;
  join = one_pair new pair c.now (begun_join s far new pair a b table x.sound coeffs c);
  survey = left_survey far new c.left x.survey;
}

pub stepped_whole : (s : Shown) (far new : FarState) (pair : JoiningState) (a b : SetState) (p : ℕ)
    (old shard : Shard) (row : List ℕ) → FarSound s far → IsStepped far new pair a b p old shard row
    → FarSound s new
stepped_whole s far new pair a b p old shard row x c = record {
  sound = step_keeps s far new pair a b p old shard row x.sound c;
  join = one_pair new (with_step pair p shard) c.now
      (step_keeps_join s far new pair a b p old shard row x.sound (x.join pair c.was) c);
  survey = left_survey far new c.left x.survey;
}

pub parted_whole : (s : Shown) (far new : FarState) (pair : JoiningState) → FarSound s far
    → IsParted far new pair → FarSound s new
parted_whole s far new pair x c =
    record {
      sound = part_keeps s far new pair x.sound c;
      join = no_pair new c.now;
      survey = left_survey far new c.left x.survey;
    }

pub committed_whole : (s : Shown) (far new : FarState) (pair : JoiningState) (a b c : SetState)
    (id : ℕ) → FarSound s far → IsCommitted far new pair a b c id → FarSound s new
committed_whole s far new pair a b c id x y =
    record {
      sound = commit_keeps s far new pair a b c id x.sound (x.join pair y.was) y;
      join = no_pair new y.now;
      survey = survey_stays far new y.survey (let d = y.drawn in omega (arith, d)) each x.survey;
    }
  where
    -- both sets of the pair had lost nothing, and the new one has a number that was not drawn
    each : (j : ℕ) → j < far.survey.below
        → StandsAlike far.members new.members (set_in far.sets j) (set_in new.sets j)
    each j l = elim (cases_eq j pair.a) [
      | inl e ↦ stands_gone far.members new.members (set_in far.sets j) (set_in new.sets j) a
          (ap (set_in far.sets) e ∙ y.fresh.a_there) (ap (set_in new.sets) e ∙ y.a_gone)
          (λ p shard at. y.fresh.a_whole p shard
          (ap (λ (l : List Shard). slice_get l p) (sym y.fresh.a_shards) ∙ at))
      | inr not_a ↦ elim (cases_eq j pair.b) [
        | inl e ↦ stands_gone far.members new.members (set_in far.sets j) (set_in new.sets j) b
            (ap (set_in far.sets) e ∙ y.fresh.b_there) (ap (set_in new.sets) e ∙ y.b_gone)
            (λ p shard at. y.fresh.b_whole p shard
            (ap (λ (l : List Shard). slice_get l p) (sym y.fresh.b_shards) ∙ at))
        | inr not_b ↦ stands_still far.members new.members (set_in far.sets j) (set_in new.sets j)
            y.members (y.others j
            (λ e. let d = x.survey.drawn in let f = y.drawn in absurd (omega (arith, l, e, d, f)))
            not_a not_b)
      ]
    ]
