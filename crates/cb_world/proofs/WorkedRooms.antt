-- Worked examples of room at the nodes, and of the codes of sets: what meets each definition, and
-- what breaks one part.
use Rattle.std.proofs.Common.{◌≡◌, ℕ, zero, suc, ◌+◌, ◌<◌, ◌≤◌, true, false, List, [], ◌∷◌, Option, None, Some, length, replicate, refl, ap, sym, subst, ◌∙◌, arith, lit<}
use Rattle.std.specs.List.{All, AllPairs, slice_get}
use Rattle.std.specs.FinMap as map
use Rattle.cb_member.specs.declared.names.Code.{Code}
use Rattle.cb_member.specs.declared.names.Shard.{Shard}
use Rattle.cb_node.specs.NodesState.{NodesState, empty_nodes, held, with_row}
use Rattle.cb_set.specs.SetState.{SetState, code_of, set_of}
use Rattle.cb_world.specs.Codes.{HaveCodes, IsPairOfCode}
use Rattle.cb_world.specs.FarSound.{AreShardRows}
use Rattle.cb_world.specs.FarState.{FarState}
use Rattle.cb_world.specs.Joining.{JoiningState}
use Rattle.cb_world.specs.Leaving.{LeavingState}
use Rattle.cb_world.specs.Merged.{takes}
use Rattle.cb_world.specs.Rooms.{HaveRoom}
use Rattle.cb_world.specs.Sets.{set_in}
use Rattle.cb_world.proofs.Codes.{each_put}
use Rattle.cb_world.proofs.WorkedFar.{at, away, committed, filled, node, set, there}

-- ---- room: a row at each of two nodes
abbrev two : ℕ → NodesState
two room = with_row (with_row (empty_nodes 2 room) (node 0) 0 []) (node 1) 1 []

first_holds_one : (room : ℕ) → held (two room) (node 0) ≡ 1
first_holds_one room = grind (arith, map.gets)

second_holds_one : (room : ℕ) → held (two room) (node 1) ≡ 1
second_holds_one room = grind (arith, map.gets)

no_node_holds_none : (room n : ℕ) → held (two room) (node (suc (suc n))) ≡ 0
no_node_holds_none room n = grind (arith, map.gets)

have_room : HaveRoom (two 1)
have_room other = by other.n
  where
    by : (n : ℕ) → held (two 1) (node n) ≤ 1
    by zero = let e = first_holds_one 1 in omega (arith, e)
    by (suc zero) = let e = second_holds_one 1 in omega (arith, e)
    by (suc (suc n)) = let e = no_node_holds_none 1 n in omega (arith, e)

-- the rows of a committed set, at nodes that have room for none
past_its_room : ¬ (AreShardRows (record (away set) { nodes = two 0 }))
past_its_room x = let l = x.room (node 0) in let e = first_holds_one 0 in omega (arith, l, e)

-- ---- codes: a committed set and a batch, each of one data position and one parity
abbrev code : ℕ → ℕ → Code
code k r = record { k = k; r = r }

-- the property: to be this code
abbrev IsCode : ℕ → ℕ → Code → Type 0
IsCode k r code = (code.k ≡ k) × (code.r ≡ r)

abbrev leaving : ℕ → ℕ → LeavingState
leaving frames parities = record {
  set = 5;
  pages = 1;
  frames = replicate frames 0;
  words = [];
  made = true;
  parities = replicate parities [];
  shards = [];
}

abbrev holding : SetState → LeavingState → FarState
holding x b = record (away x) { leaving = Some b }

some_same : (a b : LeavingState) → Some a ≡ Some b → a ≡ b
some_same a b e = cc

no_pair : (x : JoiningState) → None ≡ Some x → ⊥
no_pair x e = cc

none_some : (x : SetState) → None ≡ Some x → ⊥
none_some x e = cc

nothing : (id : ℕ) → set_in map.empty id ≡ None
nothing id = grind (arith, map.gets)

-- the set under the number 5 is the only one
only : (P : ℕ → SetState → Type 0) (x : SetState) → P 5 x
    → (id : ℕ) (y : SetState) → set_in (away x).sets id ≡ Some y → P id y
only P x holds = each_put P map.empty 5 (committed x) (λ e. holds)
    (λ id y e. absurd (none_some y (sym (nothing id) ∙ e)))

have_codes : HaveCodes (IsCode 1 1) (holding set (leaving 1 1))
have_codes = record {
  force = (refl, refl);
  sets = only (λ id x. IsCode 1 1 (code_of x)) set (refl, refl);
  batch = λ b e. let same = some_same (leaving 1 1) b e in (
    ap (λ (l : LeavingState). length l.frames) (sym same),
    ap (λ (l : LeavingState). length l.parities) (sym same),
  );
  pair = λ p e. absurd (no_pair p e);
  own = only (λ id x. x.id ≡ id) set refl;
}

-- Two codes, for a property that both have: a set of one, and a batch and the code in force of the
-- other.
abbrev two_codes : FarState
two_codes = record (holding set (leaving 2 2)) { code = code 2 2 }

have_both : HaveCodes (λ x. x.k ≡ x.r) two_codes
have_both = record {
  force = refl;
  sets = only (λ id x. (code_of x).k ≡ (code_of x).r) set refl;
  batch = λ b e. let same = some_same (leaving 2 2) b e in
      subst (λ (l : LeavingState). length l.frames ≡ length l.parities) same refl;
  pair = λ p e. absurd (no_pair p e);
  own = only (λ id x. x.id ≡ id) set refl;
}

-- which is no property of the first one alone
not_one_alone : ¬ (HaveCodes (IsCode 1 1) two_codes)
not_one_alone x = let e : 2 ≡ 1 = x.force.0 in omega (arith, e)

set_of_another_k : ¬ (HaveCodes (IsCode 1 1)
    (holding (set_of 5 1 (at 0 0 ∷ at 1 1 ∷ at 2 2 ∷ []) (filled ∷ filled ∷ [])) (leaving 1 1)))
set_of_another_k x = let e : 2 ≡ 1 = (x.sets 5 _ (there _)).0 in omega (arith, e)

set_of_another_r : ¬ (HaveCodes (IsCode 1 1)
    (holding (set_of 5 1 (at 0 0 ∷ at 1 1 ∷ at 2 2 ∷ []) (filled ∷ [])) (leaving 1 1)))
set_of_another_r x = let e : 2 ≡ 1 = (x.sets 5 _ (there _)).1 in omega (arith, e)

batch_of_another_k : ¬ (HaveCodes (IsCode 1 1) (holding set (leaving 2 1)))
batch_of_another_k x = let e : 2 ≡ 1 = (x.batch _ refl).0 in omega (arith, e)

batch_of_another_r : ¬ (HaveCodes (IsCode 1 1) (holding set (leaving 1 2)))
batch_of_another_r x = let e : 2 ≡ 1 = (x.batch _ refl).1 in omega (arith, e)

-- a set is kept under the number 5 whose own number is 7
set_of_another_number : ¬ (HaveCodes (IsCode 1 1)
    (holding (set_of 7 1 (at 0 0 ∷ at 1 1 ∷ []) (filled ∷ [])) (leaving 1 1)))
set_of_another_number x = let e : 7 ≡ 5 = x.own 5 _ (there _) in omega (arith, e)

-- ---- a pair of two data positions and one parity: both are taken, and the first is stepped
abbrev joining : List ℕ → List (Option Shard) → JoiningState
joining taken steps = record {
  a = 0;
  b = 1;
  shards_a = [];
  shards_b = [];
  taken = taken;
  steps = steps;
}

abbrev one_step : List (Option Shard)
one_step = Some (at 0 0) ∷ None ∷ None ∷ []

of_its_code : IsPairOfCode 2 1 (joining (0 ∷ 1 ∷ []) one_step)
of_its_code = record { steps = refl; taken = inner; ascend = ascend; done = done }
  where
    inner : All (λ (p : ℕ). p < 2) (0 ∷ 1 ∷ [])
    inner zero d within = omega arith
    inner (suc zero) d within = omega arith
    inner (suc (suc p)) d within = absurd (omega (arith, within))

    ascend : AllPairs (λ (p q : ℕ). p < q) (0 ∷ 1 ∷ [])
    ascend p zero d less within = absurd (omega (arith, less))
    ascend zero (suc zero) d less within = omega arith
    ascend (suc p) (suc zero) d less within = absurd (omega (arith, less))
    ascend p (suc (suc q)) d less within = absurd (omega (arith, within))

    done : (p : ℕ) (shard : Shard) → slice_get one_step p ≡ Some (Some shard) → p < 2
        → takes (0 ∷ 1 ∷ []) p ≡ true
    done zero shard e below = refl
    done (suc zero) shard e below = refl
    done (suc (suc p)) shard e below = absurd (omega (arith, below))

step_too_few : ¬ (IsPairOfCode 2 1 (joining (0 ∷ 1 ∷ []) (Some (at 0 0) ∷ None ∷ [])))
step_too_few x = let e : 2 ≡ 3 = x.steps in omega (arith, e)

parity_taken : ¬ (IsPairOfCode 2 1 (joining (0 ∷ 2 ∷ []) one_step))
parity_taken x = let l : 2 < 2 = x.taken 1 0 (lit< tt) in omega (arith, l)

taken_out_of_order : ¬ (IsPairOfCode 2 1 (joining (1 ∷ 0 ∷ []) one_step))
taken_out_of_order x = let l : 1 < 0 = x.ascend 0 1 0 (lit< tt) (lit< tt) in omega (arith, l)

stepped_untaken : ¬ (IsPairOfCode 2 1 (joining (1 ∷ []) one_step))
stepped_untaken x = let e : false ≡ true = x.done 0 (at 0 0) refl (lit< tt) in cc

-- which no set and no batch has
pair_of_another_code : ¬ (HaveCodes (IsCode 1 1) (record (holding set (leaving 1 1)) {
  joining = Some (joining (0 ∷ 1 ∷ []) one_step);
}))
pair_of_another_code x =
    let of = x.pair _ refl in let steps : 3 ≡ of.0.k + of.0.r = of.2.steps in
    let k = of.1.0 in let r = of.1.1 in omega (arith, steps, k, r)
