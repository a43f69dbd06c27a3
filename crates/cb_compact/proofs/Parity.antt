-- A parity of the merged word is made beside a's own.
use Rattle.std.proofs.Common.{◌≡◌, ℕ, zero, suc, ◌+◌, ◌*◌, ◌<◌, true, List, [], ◌∷◌, length, get_or, All, Some, ap, ◌∙◌, arith, length-set}
use Rattle.std.specs.List.{slice_get}
use Rattle.std.proofs.lemmas.Option.{slice_get-get_or}
use Rattle.cb_gf256.specs.Rows.{row_at}
use Rattle.cb_code.specs.Coefficients.{AreCoefficients}
use Rattle.cb_member.specs.declared.names.Shard.{Shard}
use Rattle.cb_node.specs.NodesState.{NodesState, has, row_under, with_row}
use Rattle.cb_node.proofs.Laws.{later_row_stays, put_keeps_other_rows, row_is_put}
use Rattle.cb_world.specs.Fetched.{StandAt}
use Rattle.cb_world.specs.Joining.{JoiningState}
use Rattle.cb_world.specs.Merged.{AreTaken, IsMergedWord, patched}
use Rattle.cb_world.specs.SetWord.{IsSpanWord}
use Rattle.cb_world.specs.Stored.{AreThere}
use Rattle.cb_world.proofs.Laws.{merged_parity}
use Rattle.cb_compact.specs.Deltas.{CanPatch, HaveAllRows, IsOfCode, NoneNames, StandTogether}
use Rattle.cb_compact.proofs.Adding.{has_row}

-- each taken position is a data position
pub all_taken : (k : ℕ) (taken : List ℕ) → AreTaken k taken → All (λ i. i < k) taken
all_taken k [] x i d l = absurd (omega (arith, l))
all_taken k (q ∷ taken) x zero d l = x.0
all_taken k (q ∷ taken) x (suc i) d l = all_taken k taken x.2 i d (omega (arith, l))

-- each row of a word of spans is as wide as a span
pub row_wide : (pages k r : ℕ) (rows : List (List ℕ)) (p : ℕ) → IsSpanWord pages k r rows
    → p < k + r → length (row_at rows p) ≡ 4096 * pages
row_wide pages k r rows p x l =
    x.is_word.equal_lengths p [] (let n = x.is_word.count in omega (arith, n, l)) ∙ x.wide

module _ (nodes : NodesState) (pair : JoiningState) (k r e : ℕ) (to : Shard)
    (code : IsOfCode nodes pair k r) (below : e < r) (within : to.node.n < length nodes.nodes)
    (a_other : NoneNames pair.shards_a to.node to.key)
    (b_other : NoneNames pair.shards_b to.node to.key) where
  pub taken_in_a : All (λ i. i < length pair.shards_a) pair.taken
  taken_in_a i d l = let t = all_taken k pair.taken code.taken i d l in let n = code.a_count in
      omega (arith, t, n)

  pub taken_in_b : All (λ i. i < length pair.shards_b) pair.taken
  taken_in_b i d l = let t = all_taken k pair.taken code.taken i d l in let n = code.b_count in
      omega (arith, t, n)

  pub taken_in_row : (table : List (List ℕ)) → AreCoefficients k r table
      → All (λ i. i < length (row_at table e)) pair.taken
  taken_in_row table x i d l =
      let t = all_taken k pair.taken code.taken i d l in
      let w = x.positions e [] (let n = x.parities in omega (arith, n, below)) in
      omega (arith, t, w)

  pub own_at : (d : Shard) → slice_get pair.shards_a (k + e) ≡ Some (get_or pair.shards_a (k + e)
      d)
  own_at d = slice_get-get_or pair.shards_a (k + e) d (let n = code.a_count in omega (
    arith,
    n,
    below,
  ))

  -- the rows of a word stand beside the one that is put
  beside : (pages : ℕ) (new : NodesState) (row : List ℕ) (shards : List Shard)
      (w : List (List ℕ))
      → new ≡ with_row nodes to.node to.key row → NoneNames shards to.node to.key
      → AreThere nodes shards → HaveAllRows nodes shards w → length shards ≡ k + r
      → IsSpanWord pages k r w → StandAt pages new shards w pair.taken
  beside pages new row shards w put other there rows count word i l =
      let p = get_or pair.taken i 0 in
      let t : p < k = all_taken k pair.taken code.taken i 0 l in
      let d : Shard = record { node = record { n = 0 }; incarnation = 0; key = 0 } in
      let shard = get_or shards p d in
      let at = slice_get-get_or shards p d (omega (arith, t, count)) in
      record {
        shard = shard;
        at = at;
        node = let n = there p shard at in
            let c = ap (λ (n : NodesState). length n.nodes) put in
            let s : length (with_row nodes to.node to.key row).nodes ≡ length nodes.nodes =
            length-set nodes.nodes to.node.n _ in omega (arith, n, c, s);
        row = ap (λ (n : NodesState). row_under n shard.node shard.key) put
            ∙ put_keeps_other_rows nodes to.node shard.node to.key shard.key row within
            (other p shard at)
            ∙ rows p shard at;
        wide = row_wide pages k r w p word (omega (arith, t));
      }

  pub can_patch : (pages : ℕ) (wa wb : List (List ℕ)) (new : NodesState)
      → StandTogether nodes pair pages k r wa wb
      → new ≡ with_row nodes to.node to.key (row_at wa (k + e))
      → CanPatch new to.node to.key pair.shards_a pair.shards_b pair.taken wa wb (row_at wa (k +
      e))
  can_patch pages wa wb new x put = record {
    pages = pages;
    target = ap (λ (n : NodesState). row_under n to.node to.key) put
        ∙ row_is_put nodes to.node to.key (row_at wa (k + e)) within;
    wide = row_wide pages k r wa (k + e) x.a_word (omega (arith, below));
    a_rows = beside pages new (row_at wa (k + e)) pair.shards_a wa put a_other code.a_nodes x.a_rows
        code.a_count x.a_word;
    b_rows = beside pages new (row_at wa (k + e)) pair.shards_b wb put b_other code.b_nodes x.b_rows
        code.b_count x.b_word;
  }

  pub parity_put : (pages : ℕ) (table wa wb m : List (List ℕ)) (new last : NodesState)
      → AreCoefficients k r table → StandTogether nodes pair pages k r wa wb
      → IsMergedWord pages k r pair.taken wa wb m
      → new ≡ with_row nodes to.node to.key (row_at wa (k + e))
      → last ≡ with_row new to.node to.key
      (patched (row_at table e) wa wb (row_at wa (k + e)) pair.taken)
      → last ≡ with_row nodes to.node to.key (row_at m (k + e))
  parity_put pages table wa wb m new last coeffs x merged put done = done
      ∙ ap (λ (n : NodesState). with_row n to.node to.key
      (patched (row_at table e) wa wb (row_at wa (k + e)) pair.taken)) put
      ∙ later_row_stays nodes to.node to.key (row_at wa (k + e))
      (patched (row_at table e) wa wb (row_at wa (k + e)) pair.taken) within
      ∙ ap (with_row nodes to.node to.key)
      (merged_parity pages k r table wa wb m pair.taken (record {
        range = code.range;
        coefficients = coeffs;
        a_word = x.a_word;
        b_word = x.b_word;
      }) code.taken merged e below)

-- a row of a word that stands is there
pub row_there : (nodes : NodesState) (shards : List Shard) (w : List (List ℕ)) (p : ℕ) (shard :
    Shard)
    → HaveAllRows nodes shards w → slice_get shards p ≡ Some shard
    → has nodes shard.node shard.key ≡ true
row_there nodes shards w p shard rows at = has_row nodes shard.node shard.key (row_at w p) (rows
    p shard at)
