-- What is noted of a search for two sets to join, over a turn that is counted.
use Rattle.std.proofs.Common.{◌≡◌, ◌≢◌, ℕ, ◌+◌, ◌-◌, ◌<◌, ◌≤◌, Bool, true, false, ◌&&◌, nat_eq, nat_lt, if◌then◌else◌, List, length, Option, None, Some, get_or, set, refl, sym, ap, ◌∙◌, subst, arith, inl, inr}
use Rattle.std.specs.List.{sum_by}
use Rattle.std.proofs.lemmas.Bool.{cases_eq}
use Rattle.std.proofs.lemmas.List.{get_or-set_other, get_or-set_same, length-set}
use Rattle.std.proofs.lemmas.List.Sums.{sum_by-set}
use Rattle.cb_member.specs.Membership.{Membership}
use Rattle.cb_set.specs.SetState.{SetState, is_live}
use Rattle.cb_set.specs.Matched.{IsMatched}
use Rattle.cb_types.specs.declared.config.Config.{Config}
use Rattle.cb_world.specs.Codes.{IsCodeOf}
use Rattle.cb_world.specs.declared.shown.Shown.{Shown}
use Rattle.cb_world.specs.Counts.{CountsState, with_turn}
use Rattle.cb_world.specs.FarState.{FarState}
use Rattle.cb_world.specs.Pairs.{CanJoin, HoldsNoPair, NoneCanJoin, others, with_no_pair}
use Rattle.cb_world.specs.declared.survey.Survey.{Survey}
use Rattle.cb_world.specs.LeftOver.{survey_left}
use Rattle.cb_world.specs.Sets.{SetMap, set_in}
use Rattle.cb_world.specs.SetWord.{is_broken}
use Rattle.cb_world.specs.Survey.{no_survey, survey_after_crash, survey_without}
use Rattle.cb_world.specs.Sound.{Sound}
use Rattle.cb_world.specs.World.{AreCounted, IsConfigured}
use Rattle.cb_world.proofs.Codes.{codes_stay, have_codes}
use Rattle.cb_world.proofs.Alike.{retold_sound}

-- ---- sets and members that stay
join_again : (far new : FarState) (i j : ℕ) (a b : SetState) → new.sets ≡ far.sets
    → new.members ≡ far.members → CanJoin new i j a b → CanJoin far i j a b
join_again far new i j a b sets members x = record {
  a_there = ap (λ (m : SetMap). set_in m i) (sym sets) ∙ x.a_there;
  b_there = ap (λ (m : SetMap). set_in m j) (sym sets) ∙ x.b_there;
  data_count = x.data_count;
  parity_count = x.parity_count;
  matched = subst (λ (m : Membership). IsMatched m a b) members x.matched;
}

pub none_again : (far new : FarState) → new.sets ≡ far.sets → new.members ≡ far.members
    → NoneCanJoin far → NoneCanJoin new
none_again far new sets members none i j a b l can =
    none i j a b l (join_again far new i j a b sets members can)

-- ---- surveys
if_note : (b : Bool) (x y : Survey) (p : Option ℕ) → x.no_pair ≡ p → y.no_pair ≡ p
    → (if b then x else y).no_pair ≡ p
if_note true x y p f g = f
if_note false x y p f g = g

without_same : (survey : Survey) (id : ℕ) (broken : Bool)
    → (survey_without survey id broken).no_pair ≡ survey.no_pair
without_same survey id broken =
    if_note (nat_lt id survey.below && broken) (record survey { gone = survey.gone - 1 }) survey
    survey.no_pair refl refl

-- what is left of a set that loses an object, and a crash
pub left_note : (far : FarState) (id n : ℕ) (rest : SetState)
    → (survey_left far id rest).no_pair ≡ Some n → far.survey.no_pair ≡ Some n
left_note far id n rest e =
    sym (if_note (is_live rest) far.survey (survey_without far.survey id (is_broken far.members rest))
    far.survey.no_pair refl (without_same far.survey id (is_broken far.members rest))) ∙ e

pub crash_note : (survey : Survey) (rows n : ℕ) → (survey_after_crash survey rows).no_pair ≡ Some n
    → survey.no_pair ≡ Some n
crash_note survey rows n e = by (nat_eq rows 0) e
  where
    by : (b : Bool) → (if b then survey else no_survey).no_pair ≡ Some n → survey.no_pair ≡ Some n
    by true f = f
    by false f = absurd (no_note f)
      where
        no_note : None ≡ Some n → ⊥
        no_note f = cc

-- ---- the turns that look for none
pub others_same : (far new : FarState) → new.counts.turns ≡ far.counts.turns
    → new.counts.by_job ≡ far.counts.by_job → others new.counts ≡ others far.counts
others_same far new turns by_job =
    λ i. turns i - (get_or (by_job i) 11 0 + get_or (by_job i) 15 0)

-- no more turns looked than there were
both_counted : (jobs : List ℕ) (turns : ℕ) → length jobs ≡ 24 → sum_by (λ n. n) jobs ≡ turns
    → get_or jobs 11 0 + get_or jobs 15 0 ≤ turns
both_counted jobs turns kinds sum =
    let x = sum_by-set (λ (n : ℕ). n) jobs 11 0 0 (omega (arith, kinds)) in
    let cut = length-set jobs 11 0 in
    let y = sum_by-set (λ (n : ℕ). n) (set jobs 11 0) 15 0 0 (omega (arith, kinds, cut)) in
    let z = get_or-set_other jobs 11 15 0 0 (λ e. omega (arith, e)) in
    omega (arith, x, y, z, sum)

-- a turn that looks, and one that does not
looking : (counts : CountsState) (kind other : ℕ) → length counts.by_job ≡ 24 → kind < 24
    → other ≢ kind
    → counts.turns + 1
    - (get_or (with_turn counts kind).by_job kind 0 + get_or (with_turn counts kind).by_job other 0)
    ≡ counts.turns - (get_or counts.by_job kind 0 + get_or counts.by_job other 0)
looking counts kind other kinds below off =
    let x = get_or-set_same counts.by_job kind (get_or counts.by_job kind 0 + 1) 0
    (omega (arith, kinds, below)) in
    let y = get_or-set_other counts.by_job kind other (get_or counts.by_job kind 0 + 1) 0 off in
    omega (arith, x, y)

looks_pair : (counts : CountsState) → length counts.by_job ≡ 24
    → others (with_turn counts 11) ≡ others counts
looks_pair counts kinds = looking counts 11 15 kinds (omega arith) (λ e. omega (arith, e))

looks_both : (counts : CountsState) → length counts.by_job ≡ 24
    → others (with_turn counts 15) ≡ others counts
looks_both counts kinds =
    let x = get_or-set_same counts.by_job 15 (get_or counts.by_job 15 0 + 1) 0
    (omega (arith, kinds)) in
    let y = get_or-set_other counts.by_job 15 11 (get_or counts.by_job 15 0 + 1) 0
    (λ e. omega (arith, e)) in
    omega (arith, x, y)

another : (counts : CountsState) (kind : ℕ) → length counts.by_job ≡ 24
    → sum_by (λ n. n) counts.by_job ≡ counts.turns → kind ≢ 11 → kind ≢ 15
    → others (with_turn counts kind) ≡ others counts + 1
another counts kind kinds sum off_pair off_both =
    let x = get_or-set_other counts.by_job kind 11 (get_or counts.by_job kind 0 + 1) 0
    (λ e. off_pair (sym e)) in
    let y = get_or-set_other counts.by_job kind 15 (get_or counts.by_job kind 0 + 1) 0
    (λ e. off_both (sym e)) in
    let few = both_counted counts.by_job counts.turns kinds sum in
    omega (arith, x, y, few)

-- ---- what is noted
abbrev turned : FarState → ℕ → FarState
turned far kind = record far { counts = with_turn far.counts kind }

-- a turn that does not look leaves every note behind
pub counted_strictly : (far : FarState) (kind n : ℕ) → AreCounted far → kind ≢ 11 → kind ≢ 15
    → far.survey.no_pair ≡ Some n → n < others (with_turn far.counts kind)
counted_strictly far kind n c off_pair off_both e =
    let more = another far.counts kind c.kinds c.jobs off_pair off_both in
    let l = (c.no_pair n e).0 in omega (arith, more, l)

-- one that looks changes nothing of it
held_by : (far : FarState) (kind : ℕ) → AreCounted far
    → others (with_turn far.counts kind) ≡ others far.counts → HoldsNoPair (turned far kind)
held_by far kind c same n e = let x = c.no_pair n e in let l = x.0 in (
  omega (arith, l, same),
  λ now. none_again far (turned far kind) refl refl (x.1 (now ∙ same)),
)

pub counted_holds : (far : FarState) (kind : ℕ) → AreCounted far → HoldsNoPair (turned far kind)
counted_holds far kind c = elim (cases_eq kind 11) [
  | inl pair ↦ subst (λ (k : ℕ). HoldsNoPair (turned far k)) (sym pair)
      (held_by far 11 c (looks_pair far.counts c.kinds))
  | inr off_pair ↦ elim (cases_eq kind 15) [
    | inl both ↦ subst (λ (k : ℕ). HoldsNoPair (turned far k)) (sym both)
        (held_by far 15 c (looks_both far.counts c.kinds))
    | inr off_both ↦ λ n e. let l = counted_strictly far kind n c off_pair off_both e in
        (omega (arith, l), λ now. absurd (omega (arith, l, now)))
  ]
]

-- none were found, and that is noted
same_number : (a b : ℕ) → Some a ≡ Some b → a ≡ b
same_number a b e = cc

pub noted_holds : (far : FarState) → NoneCanJoin far → HoldsNoPair (with_no_pair far)
noted_holds far none n e = let same = same_number (others far.counts) n e in
    (omega (arith, same), λ now. none_again far (with_no_pair far) refl refl none)

pub no_pair_sound : (s : Shown) (far : FarState) → Sound s far → Sound s (with_no_pair far)
no_pair_sound s far x = let holds = x.away.survey in
    retold_sound s far far.counts.turns far.counts.by_job far.nodes.given
    (record far.survey { no_pair = Some (others far.counts) })
    (record { drawn = holds.drawn; none = holds.none; counted = holds.counted }) x

pub no_pair_configured : (c : Config) (far : FarState) → IsConfigured c far
    → IsConfigured c (with_no_pair far)
no_pair_configured c far is = record {
  frames = is.frames;
  homes = is.homes;
  nodes = is.nodes;
  room = is.room;
  codes = have_codes (IsCodeOf c) far (with_no_pair far)
      (codes_stay far (with_no_pair far) refl refl refl refl) is.codes;
}
