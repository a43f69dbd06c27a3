-- The row of a position as it stands at its node, and the far state once it was given out.
use Rattle.std.proofs.Common.{◌≡◌, ℕ, ◌+◌, ◌*◌, ◌<◌, Bool, true, false, Bor, List, [], Option, Some, length, unwrap_or, if◌then◌else◌, is_some, refl, sym, ap, ◌∙◌, subst, arith}
use Rattle.std.specs.Prelude.{Result, Ok, Err, OnErr}
use Rattle.std.specs.List.{slice_get}
use Rattle.std.specs.Option.{option_map_or}
use Rattle.cb_gf256.specs.Rows.{row_at}
use Rattle.cb_member.specs.declared.names.Shard.{Shard}
use Rattle.cb_member.specs.Membership.{Membership}
use Rattle.cb_node.specs.NodesState.{NodesState, has, known_row}
use Rattle.cb_set.specs.SetState.{SetState}
use Rattle.cb_set.specs.Lost.{is_lost, lost_at}
use Rattle.cb_world.specs.declared.homes.Home.{Home}
use Rattle.cb_world.specs.FarState.{FarState}
use Rattle.cb_world.specs.Fetched.{rows_needed, with_rows_given}
use Rattle.cb_world.specs.SetWord.{IsWordOf}
use Rattle.cb_swapin.specs.Fetching.{IsAtHand, IsRowOf, far_given, rows_taken}

-- the row at the node of a shard that is not lost is that of each word of the set
pub row_of_word : (nodes : NodesState) (m : Membership) (set : SetState) (p : ℕ) (shard : Shard)
    (rows : List (List ℕ)) → IsWordOf nodes m set rows → slice_get set.shards p ≡ Some shard
    → is_lost m shard ≡ false → known_row nodes shard.node shard.key ≡ row_at rows p
row_of_word nodes m set p shard rows word at kept =
    ap (λ (o : Option (List ℕ)). unwrap_or o []) (word.survive p shard at kept)

-- it is there
pub row_is_there : (nodes : NodesState) (m : Membership) (set : SetState) (p : ℕ) (shard : Shard)
    (rows : List (List ℕ)) → IsWordOf nodes m set rows → slice_get set.shards p ≡ Some shard
    → is_lost m shard ≡ false → has nodes shard.node shard.key ≡ true
row_is_there nodes m set p shard rows word at kept = ap is_some (word.survive p shard at kept)

-- it has the bytes of a span
pub row_is_wide : (nodes : NodesState) (m : Membership) (set : SetState) (p : ℕ) (shard : Shard)
    (rows : List (List ℕ)) → IsWordOf nodes m set rows → slice_get set.shards p ≡ Some shard
    → is_lost m shard ≡ false → p < length set.positions
    → length (known_row nodes shard.node shard.key) ≡ 4096 * set.pages
row_is_wide nodes m set p shard rows word at kept within =
    let n = word.code.is_word.count in
    ap length (row_of_word nodes m set p shard rows word at kept)
    ∙ word.code.is_word.equal_lengths p [] (omega (arith, within, n)) ∙ word.code.wide

-- one row is needed where the position's shard is not lost
pub one_needed : (nodes new : NodesState) (m : Membership) (set : SetState) (p : ℕ) (shard : Shard)
    → slice_get set.shards p ≡ Some shard → is_lost m shard ≡ false
    → new ≡ with_rows_given nodes 1 → new ≡ with_rows_given nodes (rows_needed m set p)
one_needed nodes new m set p shard at kept e =
    let stays : lost_at m set.shards p ≡ false =
    ap (λ (o : Option Shard). option_map_or (is_lost m) o false) at ∙ kept in
    e ∙ ap (λ (b : Bool). with_rows_given nodes (if b then length set.positions else 1)) (sym stays)

-- and k rows where it is
pub all_needed : (nodes new : NodesState) (m : Membership) (set : SetState) (p : ℕ) (shard : Shard)
    → slice_get set.shards p ≡ Some shard → is_lost m shard ≡ true
    → new ≡ with_rows_given nodes (length set.positions)
    → new ≡ with_rows_given nodes (rows_needed m set p)
all_needed nodes new m set p shard at gone e =
    let lacks : lost_at m set.shards p ≡ true =
    ap (λ (o : Option Shard). option_map_or (is_lost m) o false) at ∙ gone in
    e ∙ ap (λ (b : Bool). with_rows_given nodes (if b then length set.positions else 1)) (sym lacks)

-- a word of the set has a row at each position of data, of the bytes of a span
pub word_is_wide : (nodes : NodesState) (m : Membership) (set : SetState) (p : ℕ)
    (rows : List (List ℕ)) → IsWordOf nodes m set rows → p < length set.positions
    → (p < length rows) × (length (row_at rows p) ≡ 4096 * set.pages)
word_is_wide nodes m set p rows word within =
    let n = word.code.is_word.count in
    let inside : p < length rows = omega (arith, within, n) in
    (inside, word.code.is_word.equal_lengths p [] inside ∙ word.code.wide)

-- the far state with the nodes that gave the rows out and with other homes
pub given_at : (q far new : FarState) (homes : List (Option Home)) (nodes : NodesState)
    (x set : SetState) (p : ℕ) → q ≡ far → x ≡ set
    → nodes ≡ with_rows_given q.nodes (rows_needed q.members x p)
    → new ≡ record q { nodes = nodes; homes = homes }
    → new ≡ record (far_given far (rows_needed far.members set p)) { homes = homes }
given_at q far new homes nodes x set p same found given e =
    e ∙ ap (λ (n : NodesState). record q { nodes = n; homes = homes }) given
    ∙ ap (λ (y : SetState). record (far_given q (rows_needed q.members y p)) { homes = homes }) found
    ∙ ap (λ (f : FarState). record (far_given f (rows_needed f.members set p)) { homes = homes }) same

-- ---- a row at hand
-- where it is that of the set's word, and it stands there as it is
pub row_at_hand : (given : Option (Bor (List ℕ))) (row : Bor (List ℕ)) (far : FarState) (id p : ℕ)
    → given ≡ Some row → IsRowOf given far id p → IsRowOf (Some row) far id p
row_at_hand given row far id p e x = subst (λ (o : Option (Bor (List ℕ))). IsRowOf o far id p) e x

pub it_is_at_hand : (given : Option (Bor (List ℕ))) (row : Bor (List ℕ)) → given ≡ Some row
    → IsAtHand given row.now
it_is_at_hand given row e =
    subst (λ (o : Option (Bor (List ℕ))). IsAtHand o row.now) (sym e) refl

-- the far state is as it was where no row is given out
pub none_given : (far : FarState) → far ≡ far_given far 0
none_given far = let e : far.nodes.given ≡ far.nodes.given + 0 = omega arith in
    ap (λ (n : ℕ). record far { nodes = record far.nodes { given = n } }) e

pub at_hand_given : (q far new : FarState) (homes : List (Option Home))
    (given : Option (Bor (List ℕ))) (row : Bor (List ℕ)) (set : SetState) (p : ℕ) → q ≡ far
    → given ≡ Some row → new ≡ record q { homes = homes }
    → new ≡ record (far_given far (rows_taken given far set p)) { homes = homes }
at_hand_given q far new homes given row set p same at e =
    e ∙ ap (λ (f : FarState). record f { homes = homes }) (same ∙ none_given far)
    ∙ ap (λ (o : Option (Bor (List ℕ))). record (far_given far (rows_taken o far set p)) {
      homes = homes;
    }) (sym at)

-- of an error this holds, where it holds anyway
pub any_err : {T : Type 0} {E : Type 0} (P : Type 0) (r : Result T E) → P → OnErr r P
any_err P (Ok t) p = tt
any_err P (Err e) p = p
