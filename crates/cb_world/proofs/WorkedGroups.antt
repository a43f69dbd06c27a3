-- Worked examples of groups of sets: a value that meets each definition, and for each of its parts
-- one that breaks that part alone.
use Rattle.std.proofs.Common.{◌≡◌, ◌⊎◌, ℕ, zero, suc, [], ◌∷◌, None, Some, refl, sym, ap, ◌∙◌, subst, arith, inl, inr}
use Rattle.std.specs.FinMap as map
use Rattle.std.proofs.lemmas.Bool.{cases_eq}
use Rattle.cb_set.specs.SetState.{SetState}
use Rattle.cb_world.specs.declared.groups.Group.{Group}
use Rattle.cb_world.specs.Groups.{AreGrouped, DoMatch, IsAmong, NoGroupsMatch, NoSetsMatch, group_of}
use Rattle.cb_world.specs.Sets.{SetMap, set_in}
use Rattle.cb_world.proofs.Apart.{some_same}
use Rattle.cb_world.proofs.Grouped.{beside_put}
use Rattle.cb_world.proofs.WorkedSteps.{a, b, five_there, four_there, joining, kept, none_some}

-- ---- two sets of one code and length, live at the first position and at the second
abbrev first : Group
first = record { k = 2; r = 1; pages = 1; live = 1 }

abbrev second : Group
second = record { k = 2; r = 1; pages = 1; live = 2 }

group_a : group_of a ≡ first
group_a = refl

group_b : group_of b ≡ second
group_b = refl

they_match : DoMatch first second
they_match = record { k = refl; r = refl; pages = refl; apart = refl }

not_with_more_data : DoMatch (record first { k = 3 }) second → ⊥
not_with_more_data x = let e : 3 ≡ 2 = x.k in omega (arith, e)

not_with_more_parities : DoMatch (record first { r = 2 }) second → ⊥
not_with_more_parities x = let e : 2 ≡ 1 = x.r in omega (arith, e)

not_with_longer_spans : DoMatch (record first { pages = 2 }) second → ⊥
not_with_longer_spans x = let e : 2 ≡ 1 = x.pages in omega (arith, e)

not_with_a_position_in_both : DoMatch first first → ⊥
not_with_a_position_in_both x = let e : 1 ≡ 0 = x.apart in omega (arith, e)

-- ---- lists
only : {X : Type 0} (x y : X) → IsAmong y (x ∷ []) → x ≡ y
only x y (zero, at) = some_same x y at
only x y (suc i, at) = absurd (none_some y at)

none : {X : Type 0} (x : X) → IsAmong x [] → ⊥
none x (i, at) = none_some x at

stands_second : IsAmong second (first ∷ second ∷ [])
stands_second = (1, refl)

not_another_number : IsAmong {X = ℕ} 5 (4 ∷ []) → ⊥
not_another_number x = let e : 4 ≡ 5 = only 4 5 x in omega (arith, e)

one_group : NoGroupsMatch (first ∷ [])
one_group g h at_g at_h m =
    not_with_a_position_in_both (subst (λ (x : Group). DoMatch x first) (sym (only first g at_g))
    (subst (λ (x : Group). DoMatch g x) (sym (only first h at_h)) m))

no_groups : NoGroupsMatch []
no_groups g h at_g = absurd (none g at_g)

not_two_that_match : NoGroupsMatch (first ∷ second ∷ []) → ⊥
not_two_that_match x = x first second (0, refl) (1, refl) they_match

not_one_that_is_nowhere_live : NoGroupsMatch (record first { live = 0 } ∷ []) → ⊥
not_one_that_is_nowhere_live x =
    x (record first { live = 0 }) (record first { live = 0 }) (0, refl) (0, refl)
    (record { k = refl; r = refl; pages = refl; apart = refl })

-- ---- a set that is alone
abbrev one : SetMap
one = map.insert map.empty 4 (kept a)

four_in_one : set_in one 4 ≡ Some a
four_in_one = grind (arith, map.gets)

none_in : (id : ℕ) → set_in map.empty id ≡ None
none_in id = grind (arith, map.gets)

which : (P : ℕ → SetState → Type 0) → P 4 a → (id : ℕ) (set : SetState)
    → set_in one id ≡ Some set → P id set
which P x id set at = elim (cases_eq id 4) [
  | inl e ↦ subst (λ (n : ℕ). P n set) (sym e)
      (subst (P 4) (some_same a set (sym four_in_one ∙ ap (set_in one) (sym e) ∙ at)) x)
  | inr off ↦ absurd (none_some set (sym (beside_put map.empty one 4 (kept a) refl id off
      ∙ none_in id) ∙ at))
]

in_its_group : AreGrouped one (first ∷ []) []
in_its_group = record {
  apart = one_group;
  cover = which (λ id set. IsAmong (group_of set) (first ∷ []) ⊎ IsAmong id []) (inl (0, refl));
}

or_noted : AreGrouped one [] (4 ∷ [])
or_noted = record {
  apart = no_groups;
  cover = which (λ id set. IsAmong (group_of set) [] ⊎ IsAmong id (4 ∷ [])) (inr (0, refl));
}

not_beside_groups_that_match : AreGrouped one (first ∷ second ∷ []) [] → ⊥
not_beside_groups_that_match x = not_two_that_match x.apart

not_left_out : AreGrouped one (second ∷ []) (5 ∷ []) → ⊥
not_left_out x = by (x.cover 4 a four_in_one)
  where
    by : IsAmong first (second ∷ []) ⊎ IsAmong {X = ℕ} 4 (5 ∷ []) → ⊥
    by (inl y) = let e : 2 ≡ 1 = ap (λ (g : Group). g.live) (only second first y) in
        omega (arith, e)
    by (inr y) = let e : 5 ≡ 4 = only 5 4 y in omega (arith, e)

-- ---- sets that match
alone_it_matches_none : NoSetsMatch one
alone_it_matches_none i j x y at_x at_y m =
    which (λ id set. DoMatch first (group_of set) → ⊥) not_with_a_position_in_both j y at_y
    (which (λ id set. DoMatch (group_of set) (group_of y) → DoMatch first (group_of y)) (λ n. n)
    i x at_x m)

not_beside_its_match : NoSetsMatch joining.sets → ⊥
not_beside_its_match x = x 4 5 a b four_there five_there they_match
