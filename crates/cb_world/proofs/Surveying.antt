-- What changes of the far state leave of its survey.
use Rattle.std.proofs.Common.{◌≡◌, ◌≢◌, ℕ, ◌+◌, ◌-◌, ◌<◌, ◌≤◌, ◌&&◌, Bool, true, false, nat_lt, if◌then◌else◌, List, length, Option, Some, None, refl, sym, ap, ◌∙◌, subst, arith, inl, inr, length-set}
use Rattle.std.proofs.lemmas.Bool.{cases_lt, lt-ltb}
use Rattle.std.proofs.lemmas.Bool.Decides.{nat_tests}
use Rattle.cb_member.specs.declared.names.NodeId.{NodeId}
use Rattle.cb_member.specs.declared.names.Loss.{Loss}
use Rattle.cb_member.specs.Membership.{Membership, with_join}
use Rattle.cb_set.specs.SetState.{PositionState, SetState, is_live, parities, with_position}
use Rattle.cb_set.specs.Lost.{lost}
use Rattle.cb_set.proofs.Laws.{join_keeps_lost, none_whole}
use Rattle.cb_world.specs.declared.survey.Survey.{Survey}
use Rattle.cb_world.specs.Survey.{no_survey, survey_without}
use Rattle.cb_world.specs.LeftOver.{survey_left}
use Rattle.cb_world.specs.Surveyed.{IsSurvey}
use Rattle.cb_world.specs.Join.{NoneLost}
use Rattle.cb_world.specs.Now.{broken_set}
use Rattle.cb_world.specs.Sets.{set_in}
use Rattle.cb_world.specs.SetWord.{IsWeak, is_broken}
use Rattle.cb_world.specs.FarState.{FarState}
use Rattle.cb_world.proofs.Choices.{number}
use Rattle.cb_world.proofs.Counting.{count_below, count_less, count_same}
use Rattle.cb_world.proofs.JoinNow.{whole_not_broken}

-- nothing is known of any far state
pub unsurveyed : (far : FarState) → IsSurvey far no_survey
unsurveyed far = record {
  drawn = omega arith;
  none = λ id set l at. absurd (omega (arith, l));
  counted = refl;
}

-- ---- a set that may be there stands as the one before it
pub record StandsAlike (m n : Membership) (was is : Option SetState) : Type 0 where
  pub weak : (set : SetState) → is ≡ Some set → IsWeak n set → (old : SetState) × (was ≡ Some old)
      × IsWeak m old
  pub broken : broken_set n is ≡ broken_set m was

pub stands_still : (m n : Membership) (was is : Option SetState) → n ≡ m → is ≡ was
    → StandsAlike m n was is
stands_still m n was is members same = record {
  weak = λ set at weak. (set, sym same ∙ at, subst (λ (k : Membership). IsWeak k set) members weak);
  broken = ap (λ (k : Membership). broken_set k is) members ∙ ap (broken_set m) same;
}

none_some : (set : SetState) → None ≡ Some set → ⊥
none_some set e = cc

some_same : (a b : SetState) → Some a ≡ Some b → a ≡ b
some_same a b e = cc

pub whole_not_weak : (m : Membership) (set : SetState) → NoneLost m set.shards → ¬ (IsWeak m set)
whole_not_weak m set none weak =
    let zero = ap (λ l. length l) (none_whole m set.shards none) in
    absurd (let some = weak.some_lost in omega (arith, some, zero))

-- a set that lost nothing is there where none was
pub stands_whole : (m n : Membership) (was is : Option SetState) (set : SetState) → was ≡ None
    → is ≡ Some set → NoneLost n set.shards → StandsAlike m n was is
stands_whole m n was is set before after none = record {
  weak = λ other at weak. absurd (whole_not_weak n set none
      (subst (IsWeak n) (some_same other set (sym at ∙ after)) weak));
  broken = ap (broken_set n) after ∙ whole_not_broken n set none ∙ sym (ap (broken_set m) before);
}

-- and none is where one was that lost nothing
pub stands_gone : (m n : Membership) (was is : Option SetState) (set : SetState) → was ≡ Some set
    → is ≡ None → NoneLost m set.shards → StandsAlike m n was is
stands_gone m n was is set before after none = record {
  weak = λ other at weak. absurd (none_some other (sym after ∙ at));
  broken = ap (broken_set n) after ∙ sym (ap (broken_set m) before ∙ whole_not_broken m set none);
}

-- a position of a set is another one
parities_rest : (set : SetState) (p : ℕ) (left : PositionState)
    → parities (with_position set p left) ≡ parities set
parities_rest set p left = ap (λ (k : ℕ). length set.shards - k) (length-set set.positions p left)

pub rest_broken : (m : Membership) (set : SetState) (p : ℕ) (left : PositionState)
    → is_broken m (with_position set p left) ≡ is_broken m set
rest_broken m set p left =
    ap (λ (k : ℕ). nat_lt k (length (lost m set.shards))) (parities_rest set p left)

pub stands_rest : (m n : Membership) (was is : Option SetState) (set : SetState) (p : ℕ)
    (left : PositionState) → n ≡ m → was ≡ Some set → is ≡ Some (with_position set p left)
    → StandsAlike m n was is
stands_rest m n was is set p left members before after = record {
  weak = λ other at weak. let x = subst (λ (k : Membership). IsWeak k (with_position set p left))
      members (subst (IsWeak n) (some_same other (with_position set p left) (sym at ∙ after)) weak) in
      let f = x.few_lost in let e = parities_rest set p left in
      (set, before, record { some_lost = x.some_lost; few_lost = omega (arith, f, e) });
  broken = ap (broken_set n) after
      ∙ ap (λ (k : Membership). is_broken k (with_position set p left)) members
      ∙ rest_broken m set p left ∙ sym (ap (broken_set m) before);
}

-- the same set, of which as many shards are lost
pub stands_as_many : (m n : Membership) (o : Option SetState)
    → ((set : SetState) → o ≡ Some set → length (lost n set.shards) ≡ length (lost m set.shards))
    → StandsAlike m n o o
stands_as_many m n o many = record {
  weak = λ set at weak. let e = many set at in
      let some = weak.some_lost in let few = weak.few_lost in (
        set,
        at,
        record { some_lost = omega (arith, some, e); few_lost = omega (arith, few, e) },
      );
  broken = by o many;
}
  where
    by : (o : Option SetState) → ((set : SetState) → o ≡ Some set
        → length (lost n set.shards) ≡ length (lost m set.shards)) → broken_set n o ≡ broken_set m o
    by None many = refl
    by (Some set) many = ap (nat_lt (parities set)) (many set refl)

-- the same set after a join of a node
pub stands_joined : (m : Membership) (node : NodeId) (o : Option SetState)
    → node.n < length m.nodes → StandsAlike m (with_join m node) o o
stands_joined m node o within = stands_as_many m (with_join m node) o (λ set at.
    ap (λ (l : List Loss). length l) (join_keeps_lost m node set.shards within))

-- ---- the survey stays where each set that it speaks of stands as before
pub survey_stays : (far new : FarState) → new.survey ≡ far.survey
    → far.counts.sets ≤ new.counts.sets
    → ((id : ℕ) → id < far.survey.below
    → StandsAlike far.members new.members (set_in far.sets id) (set_in new.sets id))
    → IsSurvey far far.survey → IsSurvey new new.survey
survey_stays far new same drawn alike x = subst (IsSurvey new) (sym same) (record {
  drawn = let d = x.drawn in omega (arith, d, drawn);
  none = λ id set l at weak. let y = (alike id l).weak set at weak in x.none id y.0 l y.1 y.2;
  counted = x.counted ∙ sym (count_same (λ id. broken_set new.members (set_in new.sets id))
      (λ id. broken_set far.members (set_in far.sets id)) far.survey.below
      (λ id l. (alike id l).broken));
})

-- nothing of the sets, the nodes or the survey changed
pub survey_same : (far new : FarState) → new.survey ≡ far.survey → new.members ≡ far.members
    → far.counts.sets ≤ new.counts.sets
    → ((id : ℕ) → set_in new.sets id ≡ set_in far.sets id)
    → IsSurvey far far.survey → IsSurvey new new.survey
survey_same far new same members drawn sets x = survey_stays far new same drawn (λ id l.
    stands_still far.members new.members (set_in far.sets id) (set_in new.sets id) members (sets id)) x

-- ---- a set is dropped
-- what is known then, by whether the set was counted
without_past : (survey : Survey) (id : ℕ) (broken : Bool) → survey.below ≤ id
    → survey_without survey id broken ≡ survey
without_past survey id broken past =
    ap (λ (b : Bool). if b && broken then record survey { gone = survey.gone - 1 } else survey)
    (let e : nat_lt id survey.below ≡ false = grind (arith, nat_tests) in e)

without_whole : (survey : Survey) (id : ℕ) → survey_without survey id false ≡ survey
without_whole survey id = by (nat_lt id survey.below)
  where
    by : (b : Bool) → (if b && false then record survey { gone = survey.gone - 1 } else survey) ≡ survey
    by true = refl
    by false = refl

without_gone : (survey : Survey) (id : ℕ) → id < survey.below
    → survey_without survey id true ≡ record survey { gone = survey.gone - 1 }
without_gone survey id below =
    ap (λ (b : Bool). if b && true then record survey { gone = survey.gone - 1 } else survey)
    (lt-ltb id survey.below below)

-- a set that is not broken was not counted
pub left_whole : (far : FarState) (id : ℕ) (set : SetState) (p : ℕ) (left : PositionState)
    → is_broken far.members set ≡ false → survey_left far id (with_position set p left) ≡ far.survey
left_whole far id set p left whole = by (is_live (with_position set p left))
  where
    without : survey_without far.survey id (is_broken far.members (with_position set p left))
        ≡ far.survey
    without = ap (survey_without far.survey id) (rest_broken far.members set p left ∙ whole)
        ∙ without_whole far.survey id

    by : (b : Bool) → (if b then far.survey
        else survey_without far.survey id (is_broken far.members (with_position set p left))) ≡ far.survey
    by true = refl
    by false = without

-- a set of a number is dropped, and each other one stands as before
pub record Drops (far new : FarState) (id : ℕ) (set : SetState) : Type 0 where
  pub survey : new.survey ≡ survey_without far.survey id (is_broken far.members set)
  pub drawn : far.counts.sets ≤ new.counts.sets
  pub was : set_in far.sets id ≡ Some set
  pub gone : set_in new.sets id ≡ None
  pub others : (j : ℕ) → j ≢ id
      → StandsAlike far.members new.members (set_in far.sets j) (set_in new.sets j)

abbrev broken_at : FarState → ℕ → Bool
broken_at far id = broken_set far.members (set_in far.sets id)

others_broken : (far new : FarState) (id : ℕ) (set : SetState) → Drops far new id set → (j : ℕ)
    → j ≢ id → broken_at far j ≡ broken_at new j
others_broken far new id set x j off = sym (x.others j off).broken

-- a survey of as many numbers holds then, where it counts what is left
drop_holds : (far new : FarState) (id : ℕ) (set : SetState) (survey : Survey) → Drops far new id set
    → IsSurvey far far.survey → survey.below ≡ far.survey.below
    → survey.gone ≡ count_below (broken_at new) far.survey.below → IsSurvey new survey
drop_holds far new id set survey x was same counted = record {
  drawn = let d = was.drawn in let e = x.drawn in omega (arith, d, e, same);
  none = λ j other l at weak.
      let off : j ≢ id = λ here.
      none_some other (sym x.gone ∙ ap (set_in new.sets) (sym here) ∙ at) in
      let y = (x.others j off).weak other at weak in
      was.none j y.0 (omega (arith, l, same)) y.1 y.2;
  counted = counted ∙ ap (count_below (broken_at new)) (sym same);
}

pub survey_dropped : (far new : FarState) (id : ℕ) (set : SetState) → Drops far new id set
    → IsSurvey far far.survey → IsSurvey new new.survey
survey_dropped far new id set x was = elim (cases_lt id far.survey.below) [
  | inl below ↦ by below (is_broken far.members set) refl
  | inr past ↦
      let e = x.survey ∙ without_past far.survey id (is_broken far.members set) past in
      holds far.survey e refl (was.counted ∙ count_same (broken_at far) (broken_at new) far.survey.below
      (λ j l. others_broken far new id set x j (λ e. absurd (omega (arith, l, e, past)))))
]
  where
    holds : (survey : Survey) → new.survey ≡ survey → survey.below ≡ far.survey.below
        → survey.gone ≡ count_below (broken_at new) far.survey.below → IsSurvey new new.survey
    holds survey e same counted =
        subst (IsSurvey new) (sym e) (drop_holds far new id set survey x was same counted)

    less : id < far.survey.below → count_below (broken_at far) far.survey.below
        ≡ count_below (broken_at new) far.survey.below + number (is_broken far.members set)
    less below =
        let e : id + 1 + (far.survey.below - (id + 1)) ≡ far.survey.below = omega (arith, below) in
        let y = count_less (broken_at far) (broken_at new) id (far.survey.below - (id + 1))
        (λ j off. others_broken far new id set x j off) (ap (broken_set new.members) x.gone) in
        let a = ap (count_below (broken_at far)) e in let b = ap (count_below (broken_at new)) e in
        let c = ap (λ o. number (broken_set far.members o)) x.was in
        omega (arith, y, a, b, c)

    by : id < far.survey.below → (b : Bool) → is_broken far.members set ≡ b → IsSurvey new new.survey
    by below false e = let c = was.counted in let d = less below in let n = ap number e in
        holds far.survey (x.survey ∙ ap (survey_without far.survey id) e
        ∙ without_whole far.survey id) refl (omega (arith, c, d, n))
    by below true e = let c = was.counted in let d = less below in let n = ap number e in
        holds (record far.survey { gone = far.survey.gone - 1 })
        (x.survey ∙ ap (survey_without far.survey id) e
        ∙ without_gone far.survey id below) refl (omega (arith, c, d, n))
