-- The rows of a set that are given out one after the other.
use Rattle.std.proofs.Common.{◌≡◌, ℕ, zero, suc, ◌+◌, ◌*◌, ◌<◌, true, List, [], ◌∷◌, length, set, Option, None, Some, is_some, All, refl, sym, ap, ◌∙◌, subst, ext_get_or, arith, inl, inr}
use Rattle.std.specs.List.{slice_get}
use Rattle.std.specs.Option.{unwrap_or}
use Rattle.std.proofs.lemmas.Bool.{cases_eq}
use Rattle.std.proofs.lemmas.List.{get_or-set_same, get_or-set_other, length-map}
use Rattle.std.proofs.lemmas.List.Elements.{All-head, All-tail}
use Rattle.cb_gf256.specs.Rows.{row_at, HaveLength}
use Rattle.cb_gf256.specs.Block.{with_row}
use Rattle.cb_gf256.proofs.PublicLaws.{written_count, written_row, written_lengths}
use Rattle.cb_member.specs.declared.names.Shard.{Shard}
use Rattle.cb_node.specs.NodesState.{NodesState, known_row, row_under}
use Rattle.cb_world.specs.Fetched.{with_rows_given}
use Rattle.cb_scrub_world.specs.Standing.{RowStands, rows_of}

-- ---- the shard at a position, and its row

pub stands_at : {pages : ℕ} (nodes : NodesState) (shards : List Shard) (i : ℕ) (shard : Shard) → All (RowStands nodes pages) shards → slice_get shards i ≡ Some shard → RowStands nodes pages shard
stands_at nodes [] i shard all at = absurd cc
stands_at {pages = pages} nodes (s ∷ shards) zero shard all at = let same : s ≡ shard = cc in subst (RowStands nodes pages) same (All-head (RowStands nodes pages) s shards all)
stands_at {pages = pages} nodes (s ∷ shards) (suc i) shard all at = stands_at nodes shards i shard (All-tail (RowStands nodes pages) s shards all) at

pub row_of_shard : (nodes : NodesState) (shards : List Shard) (i : ℕ) (shard : Shard) → slice_get shards i ≡ Some shard → row_at (rows_of nodes shards) i ≡ known_row nodes shard.node shard.key
row_of_shard nodes [] i shard at = absurd cc
row_of_shard nodes (s ∷ shards) zero shard at = let same : s ≡ shard = cc in ap (λ (q : Shard). known_row nodes q.node q.key) same
row_of_shard nodes (s ∷ shards) (suc i) shard at = row_of_shard nodes shards i shard at

some_known : (o : Option (List ℕ)) → is_some o ≡ true → o ≡ Some (unwrap_or o [])
some_known None some = absurd cc
some_known (Some row) some = refl

pub row_is_known : {pages : ℕ} (nodes : NodesState) (shard : Shard) → RowStands nodes pages shard → row_under nodes shard.node shard.key ≡ Some (known_row nodes shard.node shard.key)
row_is_known nodes shard stands = some_known (row_under nodes shard.node shard.key) stands.there

-- ---- the rows so far

-- the rows below a position are given, and the table is as it was in form
pub record Giving (old now : NodesState) (shards : List Shard) (pages : ℕ) (table : List (List ℕ)) (i : ℕ) : Type 0 where
  pub nodes : now ≡ with_rows_given old i
  pub count : length table ≡ length shards
  pub lengths : HaveLength (4096 * pages) table
  pub rows : (j : ℕ) → j < i → row_at table j ≡ row_at (rows_of old shards) j

module _ (old now : NodesState) (shards : List Shard) (pages : ℕ) (table : List (List ℕ)) (i : ℕ) (giving : Giving old now shards pages table i) where
  pub stands_now : (shard : Shard) → RowStands old pages shard → RowStands now pages shard
  stands_now shard stands = subst (λ (n : NodesState). RowStands n pages shard) (sym giving.nodes) (record { node = stands.node; there = stands.there; wide = stands.wide })

  pub giving_more : (next : NodesState) (shard : Shard) (row : List ℕ) → i < length shards → slice_get shards i ≡ Some shard → RowStands old pages shard
      → next ≡ record now { given = now.given + 1 } → row ≡ known_row now shard.node shard.key → Giving old next shards pages (with_row table i row) (i + 1)
  giving_more next shard row within at stands one is =
      let same : row ≡ known_row old shard.node shard.key = is ∙ ap (λ (n : NodesState). known_row n shard.node shard.key) giving.nodes in
      let wide : length row ≡ 4096 * pages = ap length same ∙ stands.wide in
      let inside : i < length table = omega (arith, giving.count, within) in
      let sized : HaveLength (length row) table = λ q d l. giving.lengths q d l ∙ sym wide in
      let write = written_row table i row sized inside in
      record {
        nodes = one ∙ ap (λ (n : NodesState). record n { given = n.given + 1 }) giving.nodes ∙ ap (λ (n : ℕ). record old { given = n }) (omega arith);
        count = written_count table i row ∙ giving.count;
        lengths = written_lengths (4096 * pages) table i row giving.lengths wide inside;
        rows = λ j below. ap (λ (t : List (List ℕ)). row_at t j) write
            ∙ elim (cases_eq j i) [
              | inl here ↦ ap (row_at (set table i row)) here ∙ get_or-set_same table i row [] inside ∙ same ∙ sym (row_of_shard old shards i shard at) ∙ ap (row_at (rows_of old shards)) (sym here)
              | inr apart ↦ get_or-set_other table i j row [] apart ∙ giving.rows j (omega (arith, apart, below))
            ];
      }

  pub all_given : i ≡ length shards → (now ≡ with_rows_given old (length shards)) × (table ≡ rows_of old shards)
  all_given all = (
    giving.nodes ∙ ap (with_rows_given old) all,
    ext_get_or [] table (rows_of old shards) (giving.count ∙ sym (length-map shards (λ (s : Shard). known_row old s.node s.key))) (λ j l. giving.rows j (omega (arith, l, giving.count, all))),
  )
