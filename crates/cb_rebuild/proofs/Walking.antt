-- The walk over the sets.
use Rattle.std.specs.Prelude.{None}
use Rattle.std.proofs.Common.{◌≡◌, ◌≢◌, ℕ, zero, suc, ◌+◌, ◌-◌, ◌<◌, ◌≤◌, Bool, true, false, nat_eq, List, [], Option, Some, None, length, map as mapped, refl, sym, ap, ◌∙◌, subst, arith, inl, inr}
use Rattle.std.specs.FinMap as map
use Rattle.std.proofs.lemmas.Bool.{cases_lt, cases_eq, false≢true, ltb-true, eq-eqb}
use Rattle.std.proofs.lemmas.List.{get_or-map, get_or_past, length-map}
use Rattle.std.proofs.lemmas.List.Folds.{list_any_at}
use Rattle.cb_member.specs.declared.names.Shard.{Shard}
use Rattle.cb_member.specs.Membership.{Membership}
use Rattle.cb_set.specs.SetState.{SetState, parities, position_of}
use Rattle.cb_set.specs.Lost.{NodesAreMembers, lost}
use Rattle.cb_world.specs.declared.homes.Home.{Home}
use Rattle.cb_world.specs.declared.shown.Shown.{Shown}
use Rattle.cb_world.specs.Choices.{numbered, stands_on}
use Rattle.cb_world.specs.Now.{broken_set}
use Rattle.cb_world.specs.Sets.{Kept, set_in, if_committed}
use Rattle.cb_world.specs.SetsFrom.{AreFrom}
use Rattle.cb_world.specs.SetWord.{IsWeak, is_broken}
use Rattle.cb_world.specs.Surveyed.{IsSurvey, gone_below}
use Rattle.cb_world.specs.FarState.{FarState}
use Rattle.cb_world.specs.FarSound.{AwaySound}
use Rattle.cb_world.proofs.Laws.{few_pass, number, count_next, live_names, are_members, IsFirst}
use Rattle.cb_rebuild.specs.declared.finding.Health.{Health}
use Rattle.cb_rebuild.specs.declared.finding.Health.TheVariants as health
use Rattle.cb_rebuild.specs.RebuildStep.{IsFirstWeak, gone_count}
use Rattle.cb_rebuild.specs.Finding.{HasHealth, HealthAt, gone_number}
use Rattle.cb_rebuild.proofs.WeakSets.{weak_not_broken}

none_some : (set : SetState) → None ≡ Some set → ⊥
none_some set e = cc

-- ---- numbers without a set
skip_by : (far : FarState) (a d : ℕ)
    → ((j : ℕ) → a ≤ j → j < a + d → map.get far.sets j ≡ None)
    → gone_below far (a + d) ≡ gone_below far a
skip_by far a zero none = ap (gone_below far) (let e : a + 0 ≡ a = omega arith in e)
skip_by far a (suc d) none =
    let e : a + suc d ≡ a + d + 1 = omega arith in
    let more = count_next (λ id. broken_set far.members (set_in far.sets id)) (a + d) in
    let here : broken_set far.members (set_in far.sets (a + d)) ≡ false =
    ap (λ o. broken_set far.members (if_committed o)) (none (a + d) (omega arith) (omega arith)) in
    let one = ap number here in
    let rest = skip_by far a d (λ j low high. none j low (omega (arith, high))) in
    ap (gone_below far) e ∙ omega (arith, more, one, rest)

-- the sets below a number were looked at: none is weak, and so many are gone
abbrev pub WalkedSets : FarState → ℕ → ℕ → Type 0
WalkedSets far from gone = IsSurvey far (record { below = from; gone = gone; no_pair = None })

pub walked_to : (far : FarState) (from id gone : ℕ) → WalkedSets far from gone → from ≤ id
    → id ≤ far.counts.sets → ((j : ℕ) → from ≤ j → j < id → map.get far.sets j ≡ None)
    → WalkedSets far id gone
walked_to far from id gone w low high none = record {
  drawn = high;
  none = λ j set l there. elim (cases_lt j from) [
    | inl before ↦ w.none j set before there
    | inr after ↦ absurd (none_some set (sym (ap if_committed (none j (omega (arith, after)) l)) ∙
        there))
  ];
  counted = w.counted ∙ sym (to (id - from) (omega (arith, low)));
}
  where
    to : (d : ℕ) → id ≡ from + d → gone_below far id ≡ gone_below far from
    to d e = ap (gone_below far) e ∙ skip_by far from d (λ j l h. none j l (omega (arith, h, e)))

-- ---- one set more
not_weak : (m : Membership) (set : SetState) (x : Health) → HasHealth m set x → x ≢ health.Weak
    → ¬ (IsWeak m set)
not_weak m set health.Whole e off weak = let some = weak.some_lost in absurd
    (omega (arith, some, e))
not_weak m set health.Weak e off weak = absurd (off refl)
not_weak m set health.Gone e off weak = false≢true (sym (weak_not_broken m set weak) ∙ e)

is_counted : (m : Membership) (set : SetState) (x : Health) → HasHealth m set x
    → x ≢ health.Weak → number (is_broken m set) ≡ gone_number x
is_counted m set health.Whole e off = by (is_broken m set) refl
  where
    by : (b : Bool) → is_broken m set ≡ b → number (is_broken m set) ≡ 0
    by false is = ap number is
    by true is = let l = ltb-true (parities set) (length (lost m set.shards)) is in
        absurd (omega (arith, l, e))
is_counted m set health.Weak e off = absurd (off refl)
is_counted m set health.Gone e off = ap number e

here_counted : (m : Membership) (o : Option SetState) (x : Health) → HealthAt m o x
    → x ≢ health.Weak → number (broken_set m o) ≡ gone_number x
here_counted m None x e off = ap gone_number (sym e)
here_counted m (Some set) x e off = is_counted m set x e off

pub walked_over : (far : FarState) (id gone : ℕ) (x : Health) → WalkedSets far id gone
    → id < far.counts.sets → HealthAt far.members (set_in far.sets id) x → x ≢ health.Weak
    → WalkedSets far (id + 1) (gone + gone_number x)
walked_over far id gone x w below has off = record {
  drawn = omega (arith, below);
  none = λ j set l there. elim (cases_eq j id) [
    | inl here ↦ not_weak far.members set x
        (subst (λ (o : Option SetState). HealthAt far.members o x)
        (ap (set_in far.sets) (sym here) ∙ there) has) off
    | inr other ↦ w.none j set (omega (arith, l, other)) there
  ];
  counted = let more = count_next (λ n. broken_set far.members (set_in far.sets n)) id in
      let c = here_counted far.members (set_in far.sets id) x has off in
      let d = w.counted in
      omega (arith, more, c, d);
}

-- ---- what is found
pub found_first : (far : FarState) (id gone : ℕ) → WalkedSets far id gone
    → HealthAt far.members (set_in far.sets id) health.Weak → ((set : SetState)
    × IsFirstWeak far id set) × (gone ≡ gone_below far id)
found_first far id gone w has = (by (set_in far.sets id) refl has, w.counted)
  where
    whole_weak : health.Weak ≡ health.Whole → ⊥
    whole_weak e = cc

    by : (o : Option SetState) → set_in far.sets id ≡ o → HealthAt far.members o health.Weak
        → (set : SetState) × IsFirstWeak far id set
    by None e x = absurd (whole_weak x)
    by (Some set) e x = (
      set,
      record { there = e; weak = x; least = λ j other l there. w.none j other l there },
    )

pub found_none : (s : Shown) (far : FarState) (from gone : ℕ) → AwaySound s far
    → WalkedSets far from gone
    → ((j : ℕ) → from ≤ j → j < far.counts.sets → map.get far.sets j ≡ None)
    → ((id : ℕ) (set : SetState) → set_in far.sets id ≡ Some set → ¬ (IsWeak far.members set))
    × (gone ≡ gone_count far)
found_none s far from gone sound w none =
    let x = walked_to far from far.counts.sets gone w w.drawn (omega arith) none in (
      λ id set there. x.none id set (sound.sets.numbered id set there) there,
      x.counted,
    )

-- ---- the sets, one after another
pub kept_members : (s : Shown) (far : FarState) (id : ℕ) (kept : Kept) → AwaySound s far
    → map.get far.sets id ≡ Some kept → (set : SetState) → if_committed (Some kept) ≡ Some set
    → NodesAreMembers far.members set.shards
kept_members s far id kept sound there set is =
    are_members far.members set (sound.sets.shaped id set (ap if_committed there ∙ is))

-- what the walk knows at the next kept set
module _ (far : FarState) (from id gone : ℕ) (kept : Kept) (rest : List (ℕ × Kept))
    (w : WalkedSets far from gone) (f : IsFirst far.sets from (id, kept) rest) where
  up_to : id < far.counts.sets → WalkedSets far id gone
  up_to below = walked_to far from id gone w f.above (omega (arith, below)) f.none

  health_there : (x : Health) → HealthAt far.members (if_committed (Some kept)) x
      → HealthAt far.members (set_in far.sets id) x
  health_there x has = subst (λ (o : Option Kept). HealthAt far.members (if_committed o) x)
      (sym f.there) has

  pub passed : (x : Health) → id < far.counts.sets → HealthAt far.members
      (if_committed (Some kept)) x
      → x ≢ health.Weak → WalkedSets far (id + 1) (gone + gone_number x)
  passed x below has off = walked_over far id gone x (up_to below) below (health_there x has) off

  pub weak_here : id < far.counts.sets → HealthAt far.members (if_committed (Some kept)) health.Weak
      → ((set : SetState) × IsFirstWeak far id set) × (gone ≡ gone_below far id)
  weak_here below has = found_first far id gone (up_to below) (health_there health.Weak has)

  pub past_drawn : (s : Shown) → AwaySound s far → far.counts.sets ≤ id
      → ((n : ℕ) (set : SetState) → set_in far.sets n ≡ Some set → ¬ (IsWeak far.members set))
      × (gone ≡ gone_count far)
  past_drawn s sound past =
      found_none s far from gone sound w (λ j low below. f.none j low (omega (arith, below, past)))

pub no_more : (s : Shown) (far : FarState) (from gone : ℕ) → AwaySound s far
    → WalkedSets far from gone
    → AreFrom far.sets from []
    → ((id : ℕ) (set : SetState) → set_in far.sets id ≡ Some set → ¬ (IsWeak far.members set))
    × (gone ≡ gone_count far)
no_more s far from gone sound w a = found_none s far from gone sound w (λ j low below. a.each j low)

-- ---- no more sets are gone than there are homes
-- a shard in place of a home, which stands on the node of the set's number
abbrev home_set : Option Home → ℕ
home_set None = 0
home_set (Some home) = home.set

abbrev stand_in : Option Home → Shard
stand_in home = record { node = record { n = home_set home }; incarnation = 0; key = 0 }

no_home : (home : Home) → None ≡ Some home → ⊥
no_home home e = cc

pub few_gone : (s : Shown) (far : FarState) (n : ℕ) → AwaySound s far
    → gone_below far n ≤ length far.homes
few_gone s far n sound =
    let most = few_pass (mapped stand_in far.homes)
    (λ id. broken_set far.members (set_in far.sets id))
    n (λ id l gone. stands id (set_in far.sets id) refl gone) in
    let len = length-map far.homes stand_in in omega (arith, most, len)
  where
    stands : (id : ℕ) (o : Option SetState) → set_in far.sets id ≡ o
        → broken_set far.members o ≡ true
        → stands_on (mapped stand_in far.homes) (numbered id) ≡ true
    stands id None e gone = absurd (false≢true gone)
    stands id (Some set) e gone =
        let kept = sound.sets.kept id set e in
        let x = live_names (position_of set kept.0).slots
        (sym (sound.sets.live id kept.0 set e) ∙ kept.1) in
        let h = x.1 in
        let home = sound.away.named id kept.0 x.0 h set e x.2 in
        elim (cases_lt h (length far.homes)) [
          | inl within ↦
              let len = length-map far.homes stand_in in
              list_any_at (λ (shard : Shard). nat_eq shard.node.n id) (mapped stand_in far.homes) h
              (stand_in None) (omega (arith, within, len))
              (ap (λ (a : Shard). nat_eq a.node.n id)
              (get_or-map stand_in far.homes h None (stand_in None) within
              ∙ ap stand_in home) ∙ eq-eqb id id refl)
          | inr past ↦ absurd (no_home _ (sym (get_or_past far.homes h None past) ∙ home))
        ]
