-- Worked span-sets: what meets each definition, and what breaks one of its parts alone.
use Rattle.std.proofs.Common.{◌≡◌, ℕ, zero, suc, true, false, List, [], ◌∷◌, Option, None, Some, length, get_or, lit<, ap, refl, arith}
use Rattle.cb_member.specs.declared.names.NodeId.{NodeId}
use Rattle.cb_member.specs.declared.names.Loss.{Loss}
use Rattle.cb_member.specs.declared.names.Shard.{Shard}
use Rattle.cb_member.specs.Membership.{Membership}
use Rattle.cb_set.specs.SetState.{IsRestOf, IsSet, PositionState, SetState, code_of, dead_position, filled_position, fresh_set, is_live, live_at, parities, slot_at, with_cleared, with_position, with_shard, without_object}
use Rattle.cb_set.specs.Lost.{IsWhole, NodesAreMembers, least_lost, loss_of, lost, lost_at}
use Rattle.cb_set.specs.Surviving.{surviving}
use Rattle.cb_set.specs.Matched.{IsMatched, PositionsApart, live_mask}
use Rattle.cb_set.specs.Nodes.{OnDistinctNodes, names_elsewhere, other_shards}

abbrev node : ℕ → NodeId
node n = record { n = n }

abbrev at : ℕ → ℕ → ℕ → Shard
at n incarnation key = record { node = node n; incarnation = incarnation; key = key }

-- node 1 crashed at epoch 1 and joined again, node 2 crashed at epoch 3
abbrev members : Membership
members = record {
  epoch = 3;
  nodes =
      record { up = true; incarnation = 0; crashes = [] }
      ∷ record { up = true; incarnation = 1; crashes = record { n = 1 } ∷ [] }
      ∷ record { up = false; incarnation = 0; crashes = record { n = 3 } ∷ [] } ∷ [];
}

-- two data positions and a parity
abbrev shards : List Shard
shards = at 0 0 7 ∷ at 1 0 8 ∷ at 2 0 9 ∷ []

abbrev loss : ℕ → ℕ → Loss
loss n epoch = record { node = node n; epoch = record { n = epoch } }

lost_shard : loss_of members (at 1 0 8) ≡ Some (loss 1 1)
lost_shard = refl

-- the same node in its present incarnation
kept_shard : loss_of members (at 1 1 8) ≡ None
kept_shard = refl

lost_list : lost members shards ≡ loss 1 1 ∷ loss 2 3 ∷ []
lost_list = refl

first_is_kept : lost_at members shards 0 ≡ false
first_is_kept = refl

second_is_lost : lost_at members shards 1 ≡ true
second_is_lost = refl

past_the_last : lost_at members shards 3 ≡ false
past_the_last = refl

least : least_lost members shards ≡ Some 1
least = refl

none_lost : least_lost members (at 0 0 7 ∷ at 1 1 8 ∷ []) ≡ None
none_lost = refl

survivors : surviving members (at 1 0 8 ∷ at 0 0 7 ∷ at 2 0 9 ∷ at 1 1 6 ∷ []) ≡ 1 ∷ 3 ∷ []
survivors = refl

among_members : NodesAreMembers members shards
among_members zero d within = omega arith
among_members (suc zero) d within = omega arith
among_members (suc (suc zero)) d within = omega arith
among_members (suc (suc (suc k))) d within = absurd (omega (arith, within))

not_among_members : ¬ (NodesAreMembers members (at 3 0 1 ∷ []))
not_among_members h = absurd (omega (arith, h 0 (at 0 0 0) (lit< tt)))

-- a set of one data position and one parity, that names a handle in slot 1
abbrev table : List (Option ℕ)
table = None ∷ Some 9 ∷ []

abbrev fresh : SetState
fresh = fresh_set 5 1 1 (at 0 0 7 ∷ at 1 1 8 ∷ [])

abbrev filled : SetState
filled = with_position fresh 0 (filled_position table)

all_dead : fresh.positions ≡ dead_position ∷ []
all_dead = refl

one_parity : parities fresh ≡ 1
one_parity = refl

one_and_one : code_of fresh ≡ record { k = 1; r = 1 }
one_and_one = refl

live_where_a_handle_is_named : live_at filled 0 ≡ true
live_where_a_handle_is_named = refl

dead_where_none_is : live_at (with_position fresh 0 (filled_position (None ∷ None ∷ []))) 0 ≡ false
dead_where_none_is = refl

is_live_set : is_live filled ≡ true
is_live_set = refl

is_dead_set : is_live fresh ≡ false
is_dead_set = refl

named : slot_at filled 0 1 ≡ Some 9
named = refl

past_the_table : slot_at filled 0 2 ≡ None
past_the_table = refl

-- an emptied slot leaves the flag
emptied : with_cleared (filled_position table) 1 ≡ record { live = true; slots = None ∷ None ∷ [] }
emptied = refl

other_shard : (with_shard fresh 1 (at 2 0 3)).shards ≡ at 0 0 7 ∷ at 2 0 3 ∷ []
other_shard = refl

is_set : IsSet filled
is_set = record { data_first = omega arith; numbered = lit< tt }

more_positions_than_shards : ¬ (IsSet (record fresh { shards = [] }))
more_positions_than_shards h = absurd (omega (arith, h.data_first))

whole : IsWhole members fresh
whole = refl

-- the parity's shard is lost
abbrev broken : SetState
broken = with_shard fresh 1 (at 1 0 8)

not_whole : ¬ (IsWhole members broken)
not_whole h = absurd (let one : 1 ≡ 0 = ap length h in omega (arith, one))

-- positions 0 and 2 are live, and position 1
abbrev live_position : PositionState
live_position = filled_position (Some 1 ∷ [])

abbrev even_positions : List PositionState
even_positions = live_position ∷ dead_position ∷ live_position ∷ []

mask : live_mask even_positions ≡ 5
mask = refl

apart : PositionsApart even_positions (dead_position ∷ live_position ∷ [])
apart zero p q = absurd (cc)
apart (suc zero) p q = absurd (cc)
apart (suc (suc zero)) p q = absurd (cc)
apart (suc (suc (suc k))) p q = absurd (cc)

not_apart : ¬ (PositionsApart even_positions (dead_position ∷ dead_position ∷ live_position ∷ []))
not_apart h = h 2 refl refl

matched : IsMatched members fresh filled
matched = record {
  whole_a = refl;
  whole_b = refl;
  pages = refl;
  apart = λ k p q. dead k p;
}
  where
    dead : (k : ℕ) → live_at fresh k ≡ true → ⊥
    dead zero p = absurd (cc)
    dead (suc k) p = absurd (cc)

first_is_broken : ¬ (IsMatched members broken fresh)
first_is_broken h = not_whole h.whole_a

second_is_broken : ¬ (IsMatched members fresh broken)
second_is_broken h = not_whole h.whole_b

-- spans of one page do not match spans of two
of_two_lengths : ¬ (IsMatched members fresh (record filled { pages = 2 }))
of_two_lengths h = absurd (omega (arith, h.pages))

both_live : ¬ (IsMatched members filled filled)
both_live h = h.apart 0 refl refl

-- three shards on three nodes, and two on one
distinct : OnDistinctNodes shards
distinct zero zero d before within = absurd (omega (arith, before))
distinct zero (suc zero) d before within = λ same. omega (arith, same)
distinct zero (suc (suc zero)) d before within = λ same. omega (arith, same)
distinct (suc zero) zero d before within = absurd (omega (arith, before))
distinct (suc zero) (suc zero) d before within = absurd (omega (arith, before))
distinct (suc zero) (suc (suc zero)) d before within = λ same. omega (arith, same)
distinct (suc (suc i)) j d before within = absurd (omega (arith, before, within))
distinct i (suc (suc (suc j))) d before within = absurd (omega (arith, within))

shared : ¬ (OnDistinctNodes (at 0 0 7 ∷ at 1 0 8 ∷ at 0 1 9 ∷ []))
shared h = h 0 2 (at 0 0 0) (lit< tt) (lit< tt) refl

others : other_shards shards 1 ≡ at 0 0 7 ∷ at 2 0 9 ∷ []
others = refl

named_there : names_elsewhere shards (node 2) 1 ≡ true
named_there = refl

named_here_alone : names_elsewhere shards (node 1) 1 ≡ false
named_here_alone = refl

-- the object of a slot is taken out: of two one is left, and of one none
abbrev two : PositionState
two = filled_position (Some 4 ∷ Some 9 ∷ [])

one_left : without_object two 0 ≡ record { live = true; slots = None ∷ Some 9 ∷ [] }
one_left = refl

none_left : without_object (filled_position table) 1 ≡ dead_position
none_left = refl

none_some : (h : ℕ) → None ≡ Some h → ⊥
none_some h e = cc

other_name : (h : ℕ) → Some 4 ≡ Some h → h ≡ 4
other_name h e = cc

rest : IsRestOf two (without_object two 0)
rest = record { named = named; sized = λ slot h e. refl; live = refl }
  where
    named : (slot h : ℕ) → get_or (None ∷ Some 9 ∷ []) slot None ≡ Some h
        → get_or (Some 4 ∷ Some 9 ∷ []) slot None ≡ Some h
    named zero h e = absurd (none_some h e)
    named (suc zero) h e = e
    named (suc (suc slot)) h e = absurd (none_some h e)

no_rest : IsRestOf two dead_position
no_rest = record {
  named = λ slot h e. absurd (none_some h e);
  sized = λ slot h e. absurd (none_some h e);
  live = refl;
}

rest_names_another : ¬ (IsRestOf two (filled_position (Some 5 ∷ None ∷ [])))
rest_names_another x = let e : 5 ≡ 4 = other_name 5 (x.named 0 5 refl) in omega (arith, e)

rest_of_fewer_slots : ¬ (IsRestOf two (filled_position (Some 4 ∷ [])))
rest_of_fewer_slots x = let e : 1 ≡ 2 = x.sized 0 4 refl in omega (arith, e)

rest_live_without_a_name : ¬ (IsRestOf two (record { live = true; slots = None ∷ None ∷ [] }))
rest_live_without_a_name x = true_false x.live
  where
    true_false : true ≡ false → ⊥
    true_false e = cc
