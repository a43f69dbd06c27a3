-- The rows of shards at some positions, given out one after another.
use Rattle.std.proofs.Common.{◌≡◌, ◌≢◌, ℕ, ◌+◌, ◌*◌, ◌<◌, List, [], length, get_or, set, Some, sym, ap, ◌∙◌, arith, inl, inr}
use Rattle.std.specs.List.{slice_get}
use Rattle.std.proofs.lemmas.Bool.{cases_eq}
use Rattle.std.proofs.lemmas.List.{get_or-set_same, get_or-set_other}
use Rattle.cb_gf256.specs.Block.{with_row}
use Rattle.cb_gf256.specs.Rows.{HaveLength, row_at}
use Rattle.cb_gf256.proofs.PublicLaws.{written_count, written_lengths, written_row}
use Rattle.cb_member.specs.declared.names.Shard.{Shard}
use Rattle.cb_node.specs.NodesState.{NodesState, row_under}
use Rattle.cb_world.specs.Fetched.{StandAt, with_rows_given}

-- the rows of the first i positions are those of each word that stands there
pub record AreGiven (old now : NodesState) (shards : List Shard) (positions : List ℕ)
    (first table : List (List ℕ)) (i : ℕ) : Type 0 where
  pub nodes : now ≡ with_rows_given old i
  pub count : length table ≡ length positions
  pub lengths : (len : ℕ) → HaveLength len first → HaveLength len table
  pub rows : (pages : ℕ) (rows : List (List ℕ)) → StandAt pages old shards rows positions
      → (j : ℕ) → j < i → row_at table j ≡ row_at rows (get_or positions j 0)

pub one_given : (old now next : NodesState) (shards : List Shard) (positions : List ℕ)
    (first table : List (List ℕ)) (i pages : ℕ) (row : List ℕ)
    → AreGiven old now shards positions first table i → HaveLength (4096 * pages) first
    → i < length positions → length row ≡ 4096 * pages → next ≡ record now { given = now.given + 1 }
    → ((n : ℕ) (rows : List (List ℕ)) → StandAt n old shards rows positions
    → row ≡ row_at rows (get_or positions i 0))
    → AreGiven old next shards positions first (with_row table i row) (i + 1)
one_given old now next shards positions first table i pages row g sized within wide one is =
    let count = g.count in
    let inside : i < length table = omega (arith, count, within) in
    let all = g.lengths (4096 * pages) sized in
    let lengths : HaveLength (length row) table = λ q d l. all q d l ∙ sym wide in
    let e = written_row table i row lengths inside in
    record {
      nodes = one ∙ ap (λ (n : NodesState). record n { given = n.given + 1 }) g.nodes
          ∙ ap (λ (k : ℕ). record old { given = k }) (omega arith);
      count = written_count table i row ∙ g.count;
      lengths = λ len of. written_lengths len table i row (g.lengths len of)
          (sym (lengths i [] inside) ∙ g.lengths len of i [] inside) inside;
      rows = λ n rows stand j l. ap (λ (t : List (List ℕ)). row_at t j) e
          ∙ elim (cases_eq j i) [
            | inl same ↦ ap (row_at (set table i row)) same ∙ get_or-set_same table i row [] inside
                ∙ is n rows stand ∙ ap (λ (q : ℕ). row_at rows (get_or positions q 0)) (sym same)
            | inr off ↦ get_or-set_other table i j row [] off
                ∙ g.rows n rows stand j (earlier j l off)
          ];
    }
  where
    earlier : (j : ℕ) → j < i + 1 → j ≢ i → j < i
    earlier j l off = omega (arith, l, off)

shard_same : (a b : Shard) → Some a ≡ Some b → a ≡ b
shard_same a b e = cc

-- the row that is given for a position
pub row_stands : (pages : ℕ) (old now : NodesState) (shards : List Shard) (positions : List ℕ)
    (i p : ℕ)
    (shard : Shard) (rows : List (List ℕ)) → now ≡ with_rows_given old i
    → StandAt pages old shards rows positions → i < length positions → p ≡ get_or positions i 0
    → slice_get shards p ≡ Some shard
    → (row_under now shard.node shard.key ≡ Some (row_at rows (get_or positions i 0)))
    × (length (row_at rows (get_or positions i 0)) ≡ 4096 * pages)
row_stands pages old now shards positions i p shard rows is stand within here at =
    let s = stand i within in
    let e : s.shard ≡ shard =
    shard_same s.shard shard (sym s.at ∙ ap (slice_get shards) (sym here) ∙ at) in (
      ap (λ (n : NodesState). row_under n shard.node shard.key) is
          ∙ ap (λ (q : Shard). row_under old q.node q.key) (sym e) ∙ s.row,
      s.wide,
    )
