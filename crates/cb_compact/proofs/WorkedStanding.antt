-- Worked examples of how the sets of a pair stand: a value that meets each definition, and for each
-- of its parts one that breaks that part alone.
use Rattle.std.proofs.Common.{◌≡◌, ℕ, List, [], ◌∷◌, None, Some, length, refl, sym, ap, ◌∙◌, subst, arith, inl, inr}
use Rattle.std.proofs.lemmas.Option.{none-some, same_Some}
use Rattle.cb_member.specs.declared.names.Loss.{Loss}
use Rattle.cb_member.specs.declared.names.Shard.{Shard}
use Rattle.cb_member.specs.Membership.{Membership}
use Rattle.cb_set.specs.Lost.{IsWhole}
use Rattle.cb_set.specs.SetState.{SetState}
use Rattle.cb_world.specs.FarState.{FarState}
use Rattle.cb_compact.specs.PartStep.{HasChanged, IsChangedSet, IsFreshPair, SetStands}
use Rattle.cb_compact.proofs.WorkedGround.{all_up, both_down, far, first_of, four_down, ground, none_third, one_down, second_of, two}
use Rattle.cb_compact.proofs.WorkedPair.{begun, on_node, set_a, set_b}

-- the worked pair, with these members
abbrev under : Membership → FarState
under members = far (two set_a set_b) members 2 (Some begun)

pub a_stands : SetStands ground 0 set_a.shards set_a
a_stands = record { there = first_of set_a set_b; same = refl; whole = refl }

b_stands : SetStands ground 1 set_b.shards set_b
b_stands = record { there = second_of set_a set_b; same = refl; whole = refl }

-- one that is gone does not stand
not_once_gone : SetStands ground 2 set_a.shards set_a → ⊥
not_once_gone x = none-some set_a (sym (none_third set_a set_b) ∙ x.there)

-- nor one that was given another shard, as by a rebuild
not_with_another_shard : SetStands ground 0 (on_node 0 ∷ on_node 1 ∷ on_node 5 ∷ []) set_a → ⊥
not_with_another_shard x = let e : 2 ≡ 5 = ap third_node x.same in omega (arith, e)
  where
    third_node : List Shard → ℕ
    third_node (a ∷ b ∷ c ∷ rest) = c.node.n
    third_node rest = 0

-- nor one that lost a shard
lost_one : IsWhole one_down set_a → ⊥
lost_one x = let e : 1 ≡ 0 = ap (λ (l : List Loss). length l) x in omega (arith, e)

not_with_a_lost_shard : SetStands (under one_down) 0 set_a.shards set_a → ⊥
not_with_a_lost_shard x = lost_one x.whole

-- ---- the pair
pub fresh : IsFreshPair ground begun set_a set_b
fresh = record { was = refl; a_stands = a_stands; b_stands = b_stands }

not_where_none_joins : IsFreshPair (far (two set_a set_b) all_up 2 None) begun set_a set_b → ⊥
not_where_none_joins x = none-some begun x.was

not_where_a_lost_one : IsFreshPair (under one_down) begun set_a set_b → ⊥
not_where_a_lost_one x = lost_one x.a_stands.whole

b_lost_one : IsWhole four_down set_b → ⊥
b_lost_one x = let e : 1 ≡ 0 = ap (λ (l : List Loss). length l) x in omega (arith, e)

not_where_b_lost_one : IsFreshPair (under four_down) begun set_a set_b → ⊥
not_where_b_lost_one x = b_lost_one x.b_stands.whole

-- ---- the set that has changed
a_is : (members : Membership) (set : SetState)
    → SetStands (under members) 0 set_a.shards set → IsWhole members set_a
a_is members set x = subst (IsWhole members)
    (same_Some set set_a (sym x.there ∙ first_of set_a set_b)) x.whole

b_is : (members : Membership) (set : SetState)
    → SetStands (under members) 1 set_b.shards set → IsWhole members set_b
b_is members set x = subst (IsWhole members)
    (same_Some set set_b (sym x.there ∙ second_of set_a set_b)) x.whole

a_changed : HasChanged (under one_down) 0 set_a.shards
a_changed set x = lost_one (a_is one_down set x)

not_changed : HasChanged ground 0 set_a.shards → ⊥
not_changed x = x set_a a_stands

changed_first : IsChangedSet (under one_down) begun 0
changed_first = inl (a_changed, refl)

changed_second : IsChangedSet (under four_down) begun 1
changed_second = inr (
  set_a,
  record { there = first_of set_a set_b; same = refl; whole = refl },
  λ set x. b_lost_one (b_is four_down set x),
  refl,
)

-- neither has changed
pub none_changed : (id : ℕ) → IsChangedSet ground begun id → ⊥
none_changed id (inl x) = x.0 set_a a_stands
none_changed id (inr x) = x.2 set_b b_stands

-- the number is that of the one that has
not_of_the_other : IsChangedSet (under one_down) begun 1 → ⊥
not_of_the_other (inl x) = let e : 1 ≡ 0 = x.1 in omega (arith, e)
not_of_the_other (inr x) = a_changed x.0 x.1

not_of_the_first : IsChangedSet (under four_down) begun 0 → ⊥
not_of_the_first (inl x) =
    x.0 set_a (record { there = first_of set_a set_b; same = refl; whole = refl })
not_of_the_first (inr x) = let e : 0 ≡ 1 = x.3 in omega (arith, e)

-- a comes before b where both have
a_before_b : IsChangedSet (under both_down) begun 1 → ⊥
a_before_b (inl x) = let e : 1 ≡ 0 = x.1 in omega (arith, e)
a_before_b (inr x) = let e : 1 ≡ 0 =
    ap (λ (l : List Loss). length l) (a_is both_down x.0 x.1) in omega (arith, e)
