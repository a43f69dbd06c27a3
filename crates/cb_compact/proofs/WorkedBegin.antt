-- Worked examples of which two sets can be joined, and which are the first: a value that meets each
-- definition, and for each of its parts one that breaks that part alone.
use Rattle.std.proofs.Common.{◌≡◌, zero, suc, true, List, [], ◌∷◌, None, length, refl, sym, ap, ◌∙◌, arith}
use Rattle.std.proofs.lemmas.Option.{none-some}
use Rattle.cb_member.specs.declared.names.Loss.{Loss}
use Rattle.cb_set.specs.Matched.{PositionsApart}
use Rattle.cb_set.specs.SetState.{SetState, set_of}
use Rattle.cb_world.specs.FarState.{FarState}
use Rattle.cb_compact.specs.PairStep.{CanJoin, IsFirstPair, NoneCanJoin}
use Rattle.cb_compact.proofs.WorkedGround.{all_up, far, first_of, first_of_four, four, four_down, fourth_of_four, ground, none_third, one_down, second_of, second_of_four, third_of_four, two}
use Rattle.cb_compact.proofs.WorkedPair.{dead, live_with, on_node, set_a, set_b}

-- a is live at position 0, and b at position 1
pub a_or_b : PositionsApart set_a.positions set_b.positions
a_or_b zero on off = absurd (not_live off)
  where
    not_live : dead.live ≡ true → ⊥
    not_live e = cc
a_or_b (suc zero) on off = absurd (not_live on)
  where
    not_live : dead.live ≡ true → ⊥
    not_live e = cc
a_or_b (suc (suc p)) on off = absurd (not_live on)
  where
    not_live : dead.live ≡ true → ⊥
    not_live e = cc

pub can_join : CanJoin ground 0 1 set_a set_b
can_join = record {
  a_there = first_of set_a set_b;
  b_there = second_of set_a set_b;
  data_count = refl;
  parity_count = refl;
  matched = record { whole_a = refl; whole_b = refl; pages = refl; apart = a_or_b };
}

-- neither may be missing
not_without_a : CanJoin ground 2 1 set_a set_b → ⊥
not_without_a x = none-some set_a (sym (none_third set_a set_b) ∙ x.a_there)

not_without_b : CanJoin ground 0 2 set_a set_b → ⊥
not_without_b x = none-some set_b (sym (none_third set_a set_b) ∙ x.b_there)

-- b with one data position and a parity, and with a parity more
abbrev narrow : SetState
narrow = set_of 1 1 (on_node 3 ∷ on_node 4 ∷ []) (dead ∷ [])

abbrev tall : SetState
tall = set_of 1 1 (on_node 3 ∷ on_node 4 ∷ on_node 5 ∷ on_node 0 ∷ []) set_b.positions

not_of_fewer_positions : CanJoin (far (two set_a narrow) all_up 2 None) 0 1 set_a narrow → ⊥
not_of_fewer_positions x = let e : 1 ≡ 2 = x.data_count in omega (arith, e)

not_of_more_parities : CanJoin (far (two set_a tall) all_up 2 None) 0 1 set_a tall → ⊥
not_of_more_parities x = let e : 2 ≡ 1 = x.parity_count in omega (arith, e)

-- of spans of two pages
abbrev longer : SetState
longer = record set_b { pages = 2 }

not_of_another_length : CanJoin (far (two set_a longer) all_up 2 None) 0 1 set_a longer → ⊥
not_of_another_length x = let e : 2 ≡ 1 = x.matched.pages in omega (arith, e)

-- live at position 0 as well
abbrev beside_a : SetState
beside_a = set_of 1 1 set_b.shards (live_with 8 ∷ dead ∷ [])

not_live_in_both : CanJoin (far (two set_a beside_a) all_up 2 None) 0 1 set_a beside_a → ⊥
not_live_in_both x = x.matched.apart 0 refl refl

-- a lost a shard, or b
not_once_a_lost_one : CanJoin (far (two set_a set_b) one_down 2 None) 0 1 set_a set_b → ⊥
not_once_a_lost_one x = let e : 1 ≡ 0 = ap (λ (l : List Loss). length l) x.matched.whole_a in
    omega (arith, e)

not_once_b_lost_one : CanJoin (far (two set_a set_b) four_down 2 None) 0 1 set_a set_b → ⊥
not_once_b_lost_one x = let e : 1 ≡ 0 = ap (λ (l : List Loss). length l) x.matched.whole_b in
    omega (arith, e)

-- ---- the first two
pub first_pair : IsFirstPair ground 0 1 set_a set_b
first_pair = record {
  above = omega arith;
  can = can_join;
  least_a = λ i j c d l x. omega arith;
  least_b = λ j c d l x. omega (arith, l);
}

not_none : NoneCanJoin ground → ⊥
not_none x = x 0 1 set_a set_b (omega arith) can_join

-- the second has the greater number, also where the two match
b_and_a : CanJoin ground 1 0 set_b set_a
b_and_a = record {
  a_there = second_of set_a set_b;
  b_there = first_of set_a set_b;
  data_count = refl;
  parity_count = refl;
  matched = record {
    whole_a = refl;
    whole_b = refl;
    pages = refl;
    apart = λ p on off. a_or_b p off on;
  };
}

not_the_other_way_round : IsFirstPair ground 1 0 set_b set_a → ⊥
not_the_other_way_round x = let l = x.above in omega (arith, l)

not_one_that_is_missing : IsFirstPair ground 0 2 set_a set_b → ⊥
not_one_that_is_missing x = not_without_b x.can

-- of four sets the first and the third are live at position 0, the second and the fourth at 1
abbrev pub set_c : SetState
set_c = set_of 2 1 set_a.shards set_a.positions

abbrev set_d : SetState
set_d = set_of 3 1 set_b.shards set_b.positions

abbrev pub crowd : FarState
crowd = far (four set_a set_b set_c set_d) all_up 2 None

first_of_crowd : CanJoin crowd 0 1 set_a set_b
first_of_crowd = record {
  a_there = first_of_four set_a set_b set_c set_d;
  b_there = second_of_four set_a set_b set_c set_d;
  data_count = refl;
  parity_count = refl;
  matched = record { whole_a = refl; whole_b = refl; pages = refl; apart = a_or_b };
}

-- these two can be joined, and so can the second and the third
last_of_crowd : CanJoin crowd 0 3 set_a set_d
last_of_crowd = record {
  a_there = first_of_four set_a set_b set_c set_d;
  b_there = fourth_of_four set_a set_b set_c set_d;
  data_count = refl;
  parity_count = refl;
  matched = record { whole_a = refl; whole_b = refl; pages = refl; apart = a_or_b };
}

later_of_crowd : CanJoin crowd 1 2 set_b set_c
later_of_crowd = record {
  a_there = second_of_four set_a set_b set_c set_d;
  b_there = third_of_four set_a set_b set_c set_d;
  data_count = refl;
  parity_count = refl;
  matched = record {
    whole_a = refl;
    whole_b = refl;
    pages = refl;
    apart = λ p on off. a_or_b p off on;
  };
}

not_a_greater_first : IsFirstPair crowd 1 2 set_b set_c → ⊥
not_a_greater_first x =
    let l = x.least_a 0 1 set_a set_b (omega arith) first_of_crowd in omega (arith, l)

not_a_greater_second : IsFirstPair crowd 0 3 set_a set_d → ⊥
not_a_greater_second x =
    let l = x.least_b 1 set_a set_b (omega arith) first_of_crowd in omega (arith, l)
