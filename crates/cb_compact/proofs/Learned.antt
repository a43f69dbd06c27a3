-- What the sets keep of a search that has found no pair: the groups of all sets, of which no two
-- match.
use Rattle.std.proofs.Common.{◌≡◌, ◌⊎◌, ℕ, ◌+◌, ◌<◌, ◌≤◌, List, [], Option, None, Some, bit_and, refl, sym, ap, ◌∙◌, subst, arith, inl, inr}
use Rattle.std.specs.List.{slice_get}
use Rattle.std.specs.Option.{option_map}
use Rattle.std.specs.FinMap as sets
use Rattle.std.proofs.lemmas.Bool.{cases_eq, cases_lt}
use Rattle.std.proofs.lemmas.Nat.{and_comm}
use Rattle.std.proofs.lemmas.Option.{none-some, same_Some, slice_get-map}
use Rattle.cb_set.specs.SetState.{SetState}
use Rattle.cb_set.specs.Lost.{IsWhole}
use Rattle.cb_set.proofs.Laws.{apart_from_masks, masks_of_matched}
use Rattle.cb_world.specs.declared.groups.Group.{Group}
use Rattle.cb_world.specs.declared.shown.Shown.{Shown}
use Rattle.cb_world.specs.FarState.{FarState}
use Rattle.cb_world.specs.FarSound.{AwaySound}
use Rattle.cb_world.specs.Groups.{AreGrouped, DoMatch, IsAmong, NoGroupsMatch, NoSetsMatch, group_of}
use Rattle.cb_world.specs.Sets.{if_committed, set_in}
use Rattle.cb_world.specs.SetsFrom.{AreFrom}
use Rattle.cb_compact.specs.declared.candidates.Candidate.{Candidate}
use Rattle.cb_compact.specs.Candidates.{AreAlike, AreFirsts, AreWholeBut, CanMatch, IsCandidate, NoneMatch, group, groups_of}
use Rattle.cb_compact.specs.PairStep.{NoneCanJoin}
use Rattle.cb_compact.proofs.Choosing.{candidate_of, candidate_same, is_candidate, no_set}
use Rattle.cb_compact.proofs.Looked.{set_same}

-- ---- no two sets match
pub none_can_join : (far : FarState) → NoSetsMatch far.sets → NoneCanJoin far
none_can_join far none i j c d l can = none i j c d can.a_there can.b_there (record {
  k = sym can.data_count;
  r = sym can.parity_count;
  pages = sym can.matched.pages;
  apart = masks_of_matched far.members c d can.matched;
})

-- ---- which sets are whole
pub others_to : (far : FarState) (from to : ℕ) (others : List ℕ) → AreWholeBut far from others
    → ((j : ℕ) → from ≤ j → j < to → sets.get far.sets j ≡ None) → AreWholeBut far to others
others_to far from to others whole none j set below at = elim (cases_lt j from) [
  | inl before ↦ whole j set before at
  | inr after ↦ absurd (no_set set (sym (ap if_committed (none j after below)) ∙ at))
]

pub others_whole : (far : FarState) (id : ℕ) (others : List ℕ) (c : Candidate) (set : SetState)
    → AreWholeBut far id others → c.id ≡ id → IsCandidate far c set
    → AreWholeBut far (id + 1) others
others_whole far id others c set whole e is j other below at = elim (cases_eq j id) [
  | inl same ↦ inl (subst (IsWhole far.members) (set_same set other
      (sym is.there ∙ ap (set_in far.sets) (e ∙ sym same) ∙ at)) is.whole)
  | inr off ↦ whole j other (omega (arith, below, off)) at
]

pub others_all : (far : FarState) (from n : ℕ) (others : List ℕ) → AreWholeBut far from others
    → AreFrom far.sets from [] → AreWholeBut far n others
others_all far from n others whole rest j set below at = elim (cases_lt j from) [
  | inl before ↦ whole j set before at
  | inr after ↦ absurd (no_set set (sym (ap if_committed (rest.each j after)) ∙ at))
]

-- ---- the groups of the first sets
abbrev IsGroupOf : List Candidate → Group → Type 0
IsGroupOf found g = (i : ℕ) × (c : Candidate) × (slice_get found i ≡ Some c) × (group c ≡ g)

group_at : (found : List Candidate) (g : Group) → IsAmong g (groups_of found) → IsGroupOf found g
group_at found g (i, at) = by (slice_get found i) refl
  where
    by : (o : Option Candidate) → slice_get found i ≡ o → IsGroupOf found g
    by None e = absurd (none-some g
        (sym (slice_get-map group found i ∙ ap (option_map group) e) ∙ at))
    by (Some c) e = (
      i,
      c,
      e,
      same_Some (group c) g (sym (slice_get-map group found i ∙ ap (option_map group) e) ∙ at),
    )

turned : (c d : Candidate) → CanMatch c d → CanMatch d c
turned c d m = record {
  k = sym m.k;
  r = sym m.r;
  pages = sym m.pages;
  apart = and_comm d.live c.live ∙ m.apart;
}

same_group : (c d : Candidate) → AreAlike c d → group c ≡ group d
same_group c d x = λ i. record { k = x.k i; r = x.r i; pages = x.pages i; live = x.live i }

module _ (s : Shown) (far : FarState) (sound : AwaySound s far) (found : List Candidate)
    (x : AreFirsts far far.counts.sets found) where
  -- no set is live nowhere
  not_itself : (i : ℕ) (c : Candidate) → slice_get found i ≡ Some c → ¬ (CanMatch c c)
  not_itself i c at m =
      let y = x.sets i c at in
      let p = sound.sets.kept c.id y.1 y.2.there in
      apart_from_masks y.1.positions y.1.positions
      (subst (λ (n : ℕ). bit_and n n ≡ 0) y.2.live m.apart) p.0 p.1 p.1

  no_groups_match : NoneMatch found → NoGroupsMatch (groups_of found)
  no_groups_match none g h at_g at_h m =
      let y = group_at found g at_g in let z = group_at found h at_h in
      let p = subst (λ (q : Group). DoMatch q (group z.1)) (sym y.3)
      (subst (λ (q : Group). DoMatch g q) (sym z.3) m) in
      let can : CanMatch y.1 z.1 = record { k = p.k; r = p.r; pages = p.pages; apart = p.apart } in
      elim (cases_lt y.0 z.0) [
        | inl less ↦ none y.0 z.0 y.1 z.1 less y.2 z.2 can
        | inr more ↦ elim (cases_eq y.0 z.0) [
          | inl e ↦ not_itself y.0 y.1 y.2
              (subst (λ (q : Candidate). CanMatch y.1 q) (candidate_same z.1 y.1
              (sym z.2 ∙ ap (slice_get found) (sym e) ∙ y.2)) can)
          | inr off ↦ none z.0 y.0 z.1 y.1 (omega (arith, more, off)) z.2 y.2
              (turned y.1 z.1 can)
        ]
      ]

  pub all_grouped : (others : List ℕ) → NoneMatch found
      → AreWholeBut far far.counts.sets others → AreGrouped far.sets (groups_of found) others
  all_grouped others none whole = record {
    apart = no_groups_match none;
    cover = λ id set at. by id set at (whole id set (sound.sets.numbered id set at) at);
  }
    where
      by : (id : ℕ) (set : SetState) → set_in far.sets id ≡ Some set
          → IsWhole far.members set ⊎ IsAmong id others
          → IsAmong (group_of set) (groups_of found) ⊎ IsAmong id others
      by id set at (inl is_whole) =
          let y = x.cover (candidate_of id set) set (sound.sets.numbered id set at)
          (is_candidate far id set at is_whole) in
          inl (subst (λ (g : Group). IsAmong g (groups_of found))
          (same_group y.1 (candidate_of id set) y.4)
          (y.0, slice_get-map group found y.0 ∙ ap (option_map group) y.2))
      by id set at (inr among) = inr among
