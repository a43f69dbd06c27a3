-- How the rows at some positions are given out one after another.
use Rattle.std.proofs.Common.{◌≡◌, ℕ, ◌+◌, ◌*◌, ◌<◌, List, [], length, get_or, set, Some, sym, ap, ◌∙◌, arith, inl, inr, get_or-set_same, get_or-set_other}
use Rattle.std.proofs.lemmas.Bool.{cases_eq}
use Rattle.cb_gf256.specs.Block.{with_row}
use Rattle.cb_gf256.specs.Rows.{row_at, HaveLength}
use Rattle.cb_gf256.proofs.PublicLaws.{written_count, written_row, written_lengths}
use Rattle.cb_member.specs.declared.names.Shard.{Shard}
use Rattle.cb_node.specs.NodesState.{NodesState}
use Rattle.cb_world.specs.Fetched.{AreGiven, StandAt}

-- the first i rows of the table are those of the word at the first i positions
pub record InOrder (pages : ℕ) (old now : NodesState) (shards : List Shard) (positions : List ℕ)
    (table given : List (List ℕ)) (i : ℕ) : Type 0 where
  pub nodes : now ≡ record old { given = old.given + i }
  pub count : length given ≡ length table
  pub lengths : HaveLength (4096 * pages) given
  pub rows : (rows : List (List ℕ)) → StandAt pages old shards rows positions → (j : ℕ) → j < i
      → row_at given j ≡ row_at rows (get_or positions j 0)

pub order_more : (pages : ℕ) (old now next : NodesState) (shards : List Shard) (positions : List ℕ)
    (table given : List (List ℕ)) (i : ℕ) (row : List ℕ)
    → InOrder pages old now shards positions table given i → i < length table
    → length row ≡ 4096 * pages → next ≡ record now { given = now.given + 1 }
    → ((rows : List (List ℕ)) → StandAt pages old shards rows positions
    → row ≡ row_at rows (get_or positions i 0))
    → InOrder pages old next shards positions table (with_row given i row) (i + 1)
order_more pages old now next shards positions table given i row g within wide one is =
    let inside : i < length given = omega (arith, g.count, within) in
    let lengths : HaveLength (length row) given = λ q d l. omega (arith, g.lengths q d l, wide) in
    let e = written_row given i row lengths inside in
    record {
      nodes = one ∙ ap (λ (n : NodesState). record n { given = n.given + 1 }) g.nodes
          ∙ ap (λ (k : ℕ). record old { given = k }) (omega arith);
      count = written_count given i row ∙ g.count;
      lengths = written_lengths (4096 * pages) given i row g.lengths wide inside;
      rows = λ rows stand j l. ap (λ (t : List (List ℕ)). row_at t j) e
          ∙ elim (cases_eq j i) [
            | inl same ↦ ap (row_at (set given i row)) same ∙ get_or-set_same given i row [] inside
                ∙ is rows stand ∙ ap (λ (n : ℕ). row_at rows (get_or positions n 0)) (sym same)
            | inr off ↦ get_or-set_other given i j row [] off
                ∙ g.rows rows stand j (omega (arith, l, off))
          ];
    }

-- so the table has the rows that stand at the nodes
pub in_order_given : (pages : ℕ) (old : NodesState) (shards : List Shard) (positions : List ℕ)
    (rows table : List (List ℕ)) → StandAt pages old shards rows positions
    → length table ≡ length positions
    → ((i : ℕ) → i < length positions → row_at table i ≡ row_at rows (get_or positions i 0))
    → AreGiven old shards positions table
in_order_given pages old shards positions rows table stand count same = record {
  count = count;
  given = λ i l. let s = stand i l in
      (s.shard, s.at, s.row ∙ ap (λ (r : List ℕ). Some r) (sym (same i l)));
}
