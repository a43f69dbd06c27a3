-- What is left of the sets and of the rows where a position gave objects up.
use Rattle.std.proofs.Common.{◌≡◌, ◌≢◌, ◌⊎◌, ℕ, zero, suc, Bool, true, false, cond, if◌then◌else◌, List, [], ◌∷◌, length, Option, Some, None, sym, refl, ap, ◌∙◌, subst, arith, inl, inr, length-set}
use Rattle.std.specs.List.{slice_get}
use Rattle.std.specs.FinMap as map
use Rattle.std.specs.Cmp.{nat_cmp_total}
use Rattle.std.specs.Ordering.{nat_cmp, eq_by_cmp}
use Rattle.std.proofs.lemmas.Bool.{cases_eq, cases_lt}
use Rattle.std.proofs.lemmas.Bool.Decides.{nat_tests}
use Rattle.std.proofs.lemmas.List.{get_or_default, get_or_past}
use Rattle.std.proofs.lemmas.List.Folds.{Any-from_list_any, list_any_at}
use Rattle.cb_member.specs.declared.names.NodeId.{NodeId}
use Rattle.cb_member.specs.declared.names.Shard.{Shard}
use Rattle.cb_node.specs.NodesState.{NodesState, with_dropped, row_under}
use Rattle.cb_node.proofs.Laws.{dropped_row_is_gone, drop_keeps_other_rows}
use Rattle.cb_set.specs.SetState.{PositionState, SetState, dead_position, is_live, live_at}
use Rattle.cb_world.specs.Sets.{Kept, SetMap, set_in, if_committed}
use Rattle.cb_world.specs.Stored.{AreThere, all_dropped}
use Rattle.cb_world.specs.LeftOver.{sets_left, nodes_left, survey_left}
use Rattle.cb_world.specs.SetWord.{is_broken}
use Rattle.cb_world.specs.declared.survey.Survey.{Survey}
use Rattle.cb_world.specs.Survey.{survey_without}
use Rattle.cb_world.specs.Fetched.{with_rows_given}
use Rattle.cb_world.specs.FarState.{FarState}
use Rattle.cb_world.specs.GivenUp.{IsDropped, SetGoesOn}
use Rattle.cb_world.proofs.Storing.{drop_elsewhere}
use Rattle.cb_world.proofs.SetChanging.{set_there}

none_some : (row : List ℕ) → None ≡ Some row → ⊥
none_some row e = cc

-- ---- rows that are dropped
still_there : (nodes : NodesState) (x : Shard) (xs : List Shard) → AreThere nodes (x ∷ xs)
    → AreThere (with_dropped nodes x.node x.key) xs
still_there nodes x xs there p shard at =
    let n : length (with_dropped nodes x.node x.key).nodes ≡ length nodes.nodes =
    length-set nodes.nodes x.node.n _ in omega (arith, n, there (suc p) shard at)

-- a row that is there after drops was there before
pub drop_fewer : (nodes : NodesState) (shards : List Shard) (node : NodeId) (key : ℕ)
    (row : List ℕ) → AreThere nodes shards
    → row_under (all_dropped nodes shards) node key ≡ Some row
    → row_under nodes node key ≡ Some row
drop_fewer nodes [] node key row there at = at
drop_fewer nodes (x ∷ xs) node key row there at =
    let before = drop_fewer (with_dropped nodes x.node x.key) xs node key row
    (still_there nodes x xs there) at in
    elim (cases_eq node.n x.node.n) [
      | inl n ↦ elim (cases_eq key x.key) [
        | inl k ↦ absurd (none_some row (sym (ap (λ (q : ℕ).
            row_under (with_dropped nodes x.node x.key) (record { n = q }) key) n
            ∙ ap (row_under (with_dropped nodes x.node x.key) x.node) k
            ∙ dropped_row_is_gone nodes x.node x.key (there 0 x refl)) ∙ before))
        | inr off ↦ sym (drop_keeps_other_rows nodes x.node node x.key key (there 0 x refl)
            (λ both. off both.1)) ∙ before
      ]
      | inr off ↦ sym (drop_keeps_other_rows nodes x.node node x.key key (there 0 x refl)
          (λ both. off both.0)) ∙ before
    ]

drop_none : (nodes : NodesState) (shards : List Shard) (node : NodeId) (key : ℕ)
    → AreThere nodes shards → row_under nodes node key ≡ None
    → row_under (all_dropped nodes shards) node key ≡ None
drop_none nodes shards node key there none =
    by (row_under (all_dropped nodes shards) node key) refl
  where
    by : (o : Option (List ℕ)) → row_under (all_dropped nodes shards) node key ≡ o
        → row_under (all_dropped nodes shards) node key ≡ None
    by None e = e
    by (Some row) e =
        absurd (none_some row (sym none ∙ drop_fewer nodes shards node key row there e))

-- the rows of the shards are gone
pub drop_there : (nodes : NodesState) (shards : List Shard) (p : ℕ) (shard : Shard)
    → AreThere nodes shards → slice_get shards p ≡ Some shard
    → row_under (all_dropped nodes shards) shard.node shard.key ≡ None
drop_there nodes [] p shard there at = absurd (no_shard p shard at)
  where
    no_shard : (p : ℕ) (shard : Shard) → slice_get [] p ≡ Some shard → ⊥
    no_shard p shard e = cc
drop_there nodes (x ∷ xs) zero shard there at =
    let same : x ≡ shard = shard_same x shard at in
    drop_none (with_dropped nodes x.node x.key) xs shard.node shard.key
    (still_there nodes x xs there)
    (subst (λ (q : Shard). row_under (with_dropped nodes x.node x.key) q.node q.key ≡ None) same
    (dropped_row_is_gone nodes x.node x.key (there 0 x refl)))
  where
    shard_same : (a b : Shard) → Some a ≡ Some b → a ≡ b
    shard_same a b e = cc
drop_there nodes (x ∷ xs) (suc p) shard there at =
    drop_there (with_dropped nodes x.node x.key) xs p shard (still_there nodes x xs there) at

pub drop_count : (nodes : NodesState) (shards : List Shard)
    → length (all_dropped nodes shards).nodes ≡ length nodes.nodes
drop_count nodes [] = refl
drop_count nodes (x ∷ xs) = drop_count (with_dropped nodes x.node x.key) xs
    ∙ length-set nodes.nodes x.node.n _

pub drop_room : (nodes : NodesState) (shards : List Shard)
    → (all_dropped nodes shards).room ≡ nodes.room
drop_room nodes [] = refl
drop_room nodes (x ∷ xs) = drop_room (with_dropped nodes x.node x.key) xs

-- ---- the sets
-- a set with a live position, or with none
some_live : (set : SetState) → is_live set ≡ true → (q : ℕ) × (live_at set q ≡ true)
some_live set live =
    let x = Any-from_list_any (λ c. c.live) set.positions live in (
      x.0,
      ap (λ (c : PositionState). c.live)
          (get_or_default set.positions x.0 dead_position x.1 x.2 ∙ x.3) ∙ x.4,
    )

no_live : (set : SetState) → is_live set ≡ false → (q : ℕ) → live_at set q ≡ false
no_live set none q = by (live_at set q) refl
  where
    true_false : true ≡ false → ⊥
    true_false e = cc

    by : (b : Bool) → live_at set q ≡ b → live_at set q ≡ false
    by false e = e
    by true e = elim (cases_lt q (length set.positions)) [
      | inl within ↦ absurd (true_false (sym (list_any_at (λ c. c.live) set.positions q
          dead_position within e) ∙ none))
      | inr past ↦ ap (λ (c : PositionState). c.live)
          (get_or_past set.positions q dead_position past)
    ]

pub left_others : (sets : SetMap) (id j : ℕ) (rest : SetState) → j ≢ id
    → map.get (sets_left sets id rest) j ≡ map.get sets j
left_others sets id j rest off = by (is_live rest) refl
  where
    other : eq_by_cmp nat_cmp j id ≡ false
    other = grind (arith, nat_tests)

    kept : Kept
    kept = record { set = rest; committed = true }

    by : (b : Bool) → is_live rest ≡ b → map.get (sets_left sets id rest) j ≡ map.get sets j
    by true e = ap (λ (b : Bool).
        map.get (if b then map.insert sets id kept else map.remove sets id) j) e
        ∙ (map.get-insert nat_cmp_total sets id kept j
        ∙ ap (λ (b : Bool). cond b (Some kept) (map.get sets j)) other)
    by false e = ap (λ (b : Bool).
        map.get (if b then map.insert sets id kept else map.remove sets id) j) e
        ∙ (map.get-remove nat_cmp_total sets id j
        ∙ ap (λ (b : Bool). cond b None (map.get sets j)) other)

left_gone : (sets : SetMap) (id : ℕ) → set_in (map.remove sets id) id ≡ None
left_gone sets id = ap if_committed (map.get-remove nat_cmp_total sets id id
    ∙ ap (λ (b : Bool). cond b None (map.get sets id)) same)
  where
    same : eq_by_cmp nat_cmp id id ≡ true
    same = grind (arith, nat_tests)

pub left_count : (nodes : NodesState) (rest : SetState)
    → length (nodes_left nodes rest).nodes ≡ length nodes.nodes
left_count nodes rest = by (is_live rest) refl
  where
    by : (b : Bool) → is_live rest ≡ b → length (nodes_left nodes rest).nodes ≡ length nodes.nodes
    by true e =
        ap (λ (b : Bool). length (if b then nodes else all_dropped nodes rest.shards).nodes) e
    by false e =
        ap (λ (b : Bool). length (if b then nodes else all_dropped nodes rest.shards).nodes) e
        ∙ drop_count nodes rest.shards

pub left_room : (nodes : NodesState) (rest : SetState) → (nodes_left nodes rest).room ≡ nodes.room
left_room nodes rest = by (is_live rest) refl
  where
    by : (b : Bool) → is_live rest ≡ b → (nodes_left nodes rest).room ≡ nodes.room
    by true e = ap (λ (b : Bool). (if b then nodes else all_dropped nodes rest.shards).room) e
    by false e = ap (λ (b : Bool). (if b then nodes else all_dropped nodes rest.shards).room) e
        ∙ drop_room nodes rest.shards

-- no row is given out
drop_given : (nodes : NodesState) (shards : List Shard) → (all_dropped nodes shards).given ≡ nodes.given
drop_given nodes [] = refl
drop_given nodes (x ∷ xs) = drop_given (with_dropped nodes x.node x.key) xs

pub left_given : (nodes : NodesState) (rest : SetState) → (nodes_left nodes rest).given ≡ nodes.given
left_given nodes rest = by (is_live rest) refl
  where
    by : (b : Bool) → is_live rest ≡ b → (nodes_left nodes rest).given ≡ nodes.given
    by true e = ap (λ (b : Bool). (if b then nodes else all_dropped nodes rest.shards).given) e
    by false e = ap (λ (b : Bool). (if b then nodes else all_dropped nodes rest.shards).given) e
        ∙ drop_given nodes rest.shards

-- the set goes on, or is dropped with its rows
pub left_over : (far new : FarState) (id n : ℕ) (rest : SetState)
    → new.sets ≡ sets_left far.sets id rest
    → new.nodes ≡ nodes_left (with_rows_given far.nodes n) rest
    → new.survey ≡ survey_left far id rest
    → AreThere far.nodes rest.shards → SetGoesOn far new id rest ⊎ IsDropped far new id rest
left_over far new id n rest sets nodes survey there = by (is_live rest) refl
  where
    kept : Kept
    kept = record { set = rest; committed = true }

    given : NodesState
    given = with_rows_given far.nodes n

    dropped : Survey
    dropped = survey_without far.survey id (is_broken far.members rest)

    by : (b : Bool) → is_live rest ≡ b → SetGoesOn far new id rest ⊎ IsDropped far new id rest
    by true e =
        let sets_e : new.sets ≡ map.insert far.sets id kept = sets
        ∙ ap (λ (b : Bool). if b then map.insert far.sets id kept else map.remove far.sets id) e in
        let nodes_e : new.nodes ≡ given = nodes
        ∙ ap (λ (b : Bool). if b then given else all_dropped given rest.shards) e in
        inl (record {
          there = ap (λ (m : SetMap). set_in m id) sets_e ∙ set_there far.sets id rest;
          some_live = some_live rest e;
          survey = survey ∙ ap (λ (b : Bool). if b then far.survey else dropped) e;
          rows = λ node key. ap (λ (q : NodesState). row_under q node key) nodes_e;
        })
    by false e =
        let sets_e : new.sets ≡ map.remove far.sets id = sets
        ∙ ap (λ (b : Bool). if b then map.insert far.sets id kept else map.remove far.sets id) e in
        let nodes_e : new.nodes ≡ all_dropped given rest.shards = nodes
        ∙ ap (λ (b : Bool). if b then given else all_dropped given rest.shards) e in
        inr (record {
          gone = ap (λ (m : SetMap). set_in m id) sets_e ∙ left_gone far.sets id;
          no_live = no_live rest e;
          survey = survey ∙ ap (λ (b : Bool). if b then far.survey else dropped) e;
          rows_gone = λ q shard at.
              ap (λ (x : NodesState). row_under x shard.node shard.key) nodes_e
              ∙ drop_there given rest.shards q shard there at;
          rows_stay = λ node key none. ap (λ (x : NodesState). row_under x node key) nodes_e
              ∙ drop_elsewhere given rest.shards node key there none;
          fewer = λ node key row at. drop_fewer given rest.shards node key row there
              (sym (ap (λ (x : NodesState). row_under x node key) nodes_e) ∙ at);
        })
