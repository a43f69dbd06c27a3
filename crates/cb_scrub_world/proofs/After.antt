-- The rows of a set once one of them is replaced, and that they are right then.
use Rattle.std.proofs.Common.{◌≡◌, ◌≢◌, ℕ, ◌*◌, ◌<◌, List, [], ◌∷◌, length, get_or, set, Option, Some, All, Result, Ok, Err, refl, sym, ap, ◌∙◌, subst, ext_get_or, arith, inl, inr}
use Rattle.std.specs.List.{slice_get}
use Rattle.std.specs.Option.{unwrap_or}
use Rattle.std.proofs.lemmas.Bool.{cases_eq, cases_lt}
use Rattle.std.proofs.lemmas.Option.{get_or_from_slice_get, slice_get-get_or, slice_get_within}
use Rattle.std.proofs.lemmas.List.{get_or-set_same, get_or-set_other, length-map, length-set}
use Rattle.std.specs.Prelude.{IfOk, OnOk}
use Rattle.cb_gf256.specs.InRange.{IsInRange}
use Rattle.cb_gf256.specs.Rows.{row_at, AreRows}
use Rattle.cb_member.specs.declared.names.NodeId.{NodeId}
use Rattle.cb_member.specs.declared.names.Shard.{Shard}
use Rattle.cb_node.specs.NodesState.{NodesState, known_row, with_row, row_under}
use Rattle.cb_node.proofs.Laws.{row_is_put, put_keeps_other_rows}
use Rattle.cb_scrub.specs.declared.found.Found.{Found}
use Rattle.cb_scrub.specs.declared.found.Found.TheVariants.{Clean, One, Many}
use Rattle.cb_scrub.specs.Finds.{IsFinding}
use Rattle.cb_scrub.specs.Mended.{mended, row_of_others}
use Rattle.cb_scrub.specs.Wrong.{HaveParities, IsWord, IsWordBut}
use Rattle.cb_scrub.proofs.Laws.{length-others, mended_row, have_parities, near_word, mended_word, one_word}
use Rattle.cb_types.specs.declared.NoMemory.{NoMemory}
use Rattle.cb_set.specs.Nodes.{OnDistinctNodes}
use Rattle.cb_set.specs.SetState.{SetState, parities}
use Rattle.cb_world.specs.Fetched.{with_rows_given}
use Rattle.cb_scrub_world.specs.Scrub.{IsExamined, LeavesNodes, MakesRight}
use Rattle.cb_scrub_world.specs.Standing.{RowStands, rows_of}
use Rattle.cb_scrub_world.proofs.Given.{row_of_shard, stands_at}

-- shards at two positions stand on two nodes
pub apart : (shards : List Shard) (i j : ℕ) (a b : Shard) → OnDistinctNodes shards → slice_get shards i ≡ Some a → slice_get shards j ≡ Some b → i ≢ j → a.node.n ≢ b.node.n
apart shards i j a b distinct x y other same =
    let at_a = get_or_from_slice_get shards i a a x in
    let at_b = get_or_from_slice_get shards j b a y in
    elim (cases_lt i j) [
      | inl less ↦ distinct i j a less (slice_get_within shards j b y) (ap (λ (s : Shard). s.node.n) at_a ∙ same ∙ sym (ap (λ (s : Shard). s.node.n) at_b))
      | inr more ↦ distinct j i a (omega (arith, more, other)) (slice_get_within shards i a x) (ap (λ (s : Shard). s.node.n) at_b ∙ sym same ∙ sym (ap (λ (s : Shard). s.node.n) at_a))
    ]

pub count_of : (nodes : NodesState) (shards : List Shard) → length (rows_of nodes shards) ≡ length shards
count_of nodes shards = length-map shards (λ (s : Shard). known_row nodes s.node s.key)

known_as : (nodes : NodesState) (node : NodeId) (key : ℕ) (o : Option (List ℕ)) → row_under nodes node key ≡ o → known_row nodes node key ≡ unwrap_or o []
known_as nodes node key o is = ap (λ (x : Option (List ℕ)). unwrap_or x []) is

-- one row is replaced, and the others stay
pub rows_after : (nodes : NodesState) (shards : List Shard) (p : ℕ) (shard : Shard) (row : List ℕ) → OnDistinctNodes shards → shard.node.n < length nodes.nodes → slice_get shards p ≡ Some shard
    → rows_of (with_row nodes shard.node shard.key row) shards ≡ set (rows_of nodes shards) p row
rows_after nodes shards p shard row distinct within at =
    let new : NodesState = with_row nodes shard.node shard.key row in
    let rows : List (List ℕ) = rows_of nodes shards in
    let inside : p < length rows = omega (arith, count_of nodes shards, slice_get_within shards p shard at) in
    ext_get_or [] (rows_of new shards) (set rows p row) (count_of new shards ∙ sym (length-set rows p row ∙ count_of nodes shards)) (λ j l.
    elim (cases_eq j p) [
      | inl same ↦ ap (row_at (rows_of new shards)) same ∙ row_of_shard new shards p shard at ∙ known_as new shard.node shard.key (Some row) (row_is_put nodes shard.node shard.key row within)
          ∙ sym (get_or-set_same rows p row [] inside) ∙ ap (row_at (set rows p row)) (sym same)
      | inr other ↦
          let q : Shard = get_or shards j shard in
          let there : slice_get shards j ≡ Some q = slice_get-get_or shards j shard (omega (arith, l, count_of new shards)) in
          row_of_shard new shards j q there
          ∙ known_as new q.node q.key (row_under nodes q.node q.key) (put_keeps_other_rows nodes shard.node q.node shard.key q.key row within (λ both. apart shards j p q shard distinct there at other both.0))
          ∙ sym (row_of_shard nodes shards j q there) ∙ sym (get_or-set_other rows p j row [] other)
    ])

-- the rows are right afterwards
pub made_right : (old new : NodesState) (set : SetState) (found : Found) → HaveParities (parities set) (rows_of old set.shards) → OnDistinctNodes set.shards → All (RowStands old set.pages) set.shards
    → IsFinding (parities set) (rows_of old set.shards) found → LeavesNodes old set found new → MakesRight (parities set) (rows_of old set.shards) found (rows_of new set.shards)
made_right old new set Clean h distinct standing is leaves =
    let same : rows_of new set.shards ≡ rows_of old set.shards = ap (λ (n : NodesState). rows_of n set.shards) leaves in
    record { right = (subst (IsWord (parities set)) (sym same) is, same); near = λ q word two w. same ∙ sym (near_word (parities set) q (rows_of old set.shards) word h two w Clean is) }
made_right old new set (One p) h distinct standing is leaves =
    let given : NodesState = with_rows_given old (length set.shards) in
    let row : List ℕ = row_of_others (rows_of old set.shards) p in
    let within : leaves.0.node.n < length given.nodes = (stands_at old set.shards p leaves.0 standing leaves.1).node in
    let same : rows_of new set.shards ≡ mended (rows_of old set.shards) p =
    ap (λ (n : NodesState). rows_of n set.shards) leaves.2 ∙ rows_after given set.shards p leaves.0 row distinct within leaves.1 in
    let right : IsWordBut (parities set) (rows_of old set.shards) p (rows_of new set.shards) = mended_word (parities set) p (rows_of old set.shards) (rows_of new set.shards) same h is in
    record { right = right; near = λ q word two w. one_word (parities set) p q (rows_of old set.shards) (rows_of new set.shards) word h two right w }
made_right old new set (Many power column sum) h distinct standing is leaves =
    let same : rows_of new set.shards ≡ rows_of old set.shards = ap (λ (n : NodesState). rows_of n set.shards) leaves in
    record { right = same; near = λ q word two w. absurd (near_word (parities set) q (rows_of old set.shards) word h two w (Many power column sum) is) }

-- ---- what a set's rows are

-- a row that is put in place of another has its length
pub mended_wide : {pages : ℕ} (nodes : NodesState) (shards : List Shard) (p : ℕ) (rows : List (List ℕ)) → rows ≡ rows_of nodes shards → All (RowStands nodes pages) shards → p < length shards
    → length (row_at (mended rows p) p) ≡ 4096 * pages
mended_wide nodes [] p rows is standing within = absurd (omega (arith, within))
mended_wide {pages = pages} nodes (s ∷ shards) p rows is standing within =
    let inside : p < length rows = omega (arith, within, ap length is, count_of nodes (s ∷ shards)) in
    let first : length (row_at rows 0) ≡ 4096 * pages = ap (λ (x : List (List ℕ)). length (row_at x 0)) is ∙ (stands_at nodes (s ∷ shards) 0 s standing refl).wide in
    ap length (mended_row rows p inside) ∙ length-others rows p ∙ first

pub made_right_if_ok : (old new : NodesState) (set : SetState) (result : Result Found NoMemory) → IsInRange (length set.positions) (parities set) → OnDistinctNodes set.shards → All (RowStands old set.pages) set.shards
    → IfOk result (λ found. IsExamined old set found new) → OnOk result (AreRows (rows_of old set.shards)) → IfOk result (λ found. MakesRight (parities set) (rows_of old set.shards) found (rows_of new set.shards))
made_right_if_ok old new set (Ok found) range distinct standing examined are =
    let count = count_of old set.shards in
    made_right old new set found (have_parities (parities set) (rows_of old set.shards) (range.parities_least, range.parities_most) (omega (arith, count, range.data_least, range.parities_least), omega (arith, count, range.data_most, range.parities_most)) are)
    distinct standing examined.is_found examined.leaves
made_right_if_ok old new set (Err e) range distinct standing examined are = tt
