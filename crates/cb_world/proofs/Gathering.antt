-- How the surviving positions are found, and their rows given out.
use Rattle.std.proofs.Common.{◌≡◌, ◌≢◌, ℕ, suc, ◌+◌, ◌*◌, ◌<◌, ◌≤◌, List, [], ◌∷◌, length, take, get_or, set, Some, sym, refl, ap, ◌∙◌, subst, arith, inl, inr, get_or-set_same, get_or-set_other}
use Rattle.std.specs.List.{slice_get}
use Rattle.std.proofs.lemmas.Bool.{cases_eq}
use Rattle.std.proofs.lemmas.List.{take-take}
use Rattle.cb_gf256.specs.Rows.{row_at, HaveLength}
use Rattle.cb_gf256.specs.Block.{with_row}
use Rattle.cb_gf256.proofs.PublicLaws.{written_count, written_row, written_lengths}
use Rattle.cb_member.specs.declared.names.Shard.{Shard}
use Rattle.cb_member.specs.Membership.{Membership}
use Rattle.cb_node.specs.NodesState.{NodesState, row_under}
use Rattle.cb_set.specs.SetState.{SetState}
use Rattle.cb_set.specs.Lost.{lost}
use Rattle.cb_gf256.specs.Rows.{rows_at}
use Rattle.cb_erase.specs.Weights.{IsSolution}
use Rattle.cb_world.specs.SetWord.{IsShaped, IsWordOf}
use Rattle.cb_set.specs.Surviving.{surviving}
use Rattle.cb_set.specs.SetState.{parities}
use Rattle.cb_set.proofs.Laws.{lost_and_surviving}
use Rattle.cb_world.proofs.Surviving.{counted, taken_survives}
use Rattle.std.proofs.lemmas.Option.{slice_get_within}
use Rattle.cb_world.specs.Fetched.{StandAt, StandsAt}

-- the rows of the first i positions are those of the word
pub record Given (pages : ℕ) (old now : NodesState) (shards : List Shard) (positions : List ℕ)
    (table given : List (List ℕ)) (i : ℕ) : Type 0 where
  pub nodes : now ≡ record old { given = old.given + i }
  pub count : length given ≡ length table
  pub lengths : HaveLength (4096 * pages) given
  pub rows : (rows : List (List ℕ)) → StandAt pages old shards rows positions → (j : ℕ) → j < i
      → row_at given (get_or positions j 0) ≡ row_at rows (get_or positions j 0)

pub given_more : (pages : ℕ) (old now next : NodesState) (shards : List Shard) (positions : List ℕ)
    (table given : List (List ℕ)) (i p : ℕ) (row : List ℕ)
    → Given pages old now shards positions table given i → i < length positions → p ≡ get_or positions i 0
    → p < length table
    → length row ≡ 4096 * pages → next ≡ record now { given = now.given + 1 }
    → ((rows : List (List ℕ)) → StandAt pages old shards rows positions → row ≡ row_at rows p)
    → Given pages old next shards positions table (with_row given p row) (i + 1)
given_more pages old now next shards positions table given i p row g within here below wide one is =
    let inside : p < length given = omega (arith, g.count, below) in
    let lengths : HaveLength (length row) given = λ q d l. omega (arith, g.lengths q d l, wide) in
    let e = written_row given p row lengths inside in
    record {
      nodes = one ∙ ap (λ (n : NodesState). record n { given = n.given + 1 }) g.nodes
          ∙ ap (λ (k : ℕ). record old { given = k }) (omega arith);
      count = written_count given p row ∙ g.count;
      lengths = written_lengths (4096 * pages) given p row g.lengths wide inside;
      rows = λ rows stand j l. ap (λ (t : List (List ℕ)). row_at t (get_or positions j 0)) e
          ∙ elim (cases_eq (get_or positions j 0) p) [
            | inl same ↦ ap (row_at (set given p row)) same ∙ get_or-set_same given p row [] inside
                ∙ is rows stand ∙ ap (row_at rows) (sym same)
            | inr off ↦ get_or-set_other given p (get_or positions j 0) row [] off
                ∙ g.rows rows stand j (earlier j l (λ at.
                off (ap (λ (n : ℕ). get_or positions n 0) at ∙ sym here)))
          ];
    }
  where
    earlier : (j : ℕ) → j < i + 1 → j ≢ i → j < i
    earlier j l off = omega (arith, l, off)

shard_same : (a b : Shard) → Some a ≡ Some b → a ≡ b
shard_same a b e = cc

pub stand_row : (pages : ℕ) (old now : NodesState) (shards : List Shard) (positions : List ℕ) (i p : ℕ)
    (shard : Shard) (rows : List (List ℕ)) → now ≡ record old { given = old.given + i }
    → StandAt pages old shards rows positions → i < length positions → p ≡ get_or positions i 0
    → slice_get shards p ≡ Some shard → (row_under now shard.node shard.key ≡ Some (row_at rows p))
    × (length (row_at rows p) ≡ 4096 * pages)
stand_row pages old now shards positions i p shard rows is stand within here at =
    let s = stand i within in
    let e : s.shard ≡ shard =
    shard_same s.shard shard (sym s.at ∙ ap (slice_get shards) (sym here) ∙ at) in (
      ap (λ (n : NodesState). row_under n shard.node shard.key) is
          ∙ ap (λ (q : Shard). row_under old q.node q.key) (sym e) ∙ s.row
          ∙ ap (λ (n : ℕ). Some (row_at rows n)) (sym here),
      ap (λ (n : ℕ). length (row_at rows n)) here ∙ s.wide,
    )

-- the first k of them
pub first_survivors : (m : Membership) (set : SetState) (present : List ℕ) → IsShaped m set
    → length (lost m set.shards) ≤ parities set
    → take (length (surviving m set.shards)) present ≡ surviving m set.shards
    → take (length set.positions) present ≡ take (length set.positions) (surviving m set.shards)
first_survivors m set present shaped few listed =
    let enough : length set.positions ≤ length (surviving m set.shards) =
    omega (arith, lost_and_surviving m set.shards, counted m set shaped, few) in
    sym (take-take (length set.positions) (length (surviving m set.shards)) present enough)
    ∙ ap (take (length set.positions)) listed

-- their rows stand at their nodes
pub survivors_stand : (nodes : NodesState) (m : Membership) (set : SetState) (rows : List (List ℕ))
    (k : ℕ) → IsShaped m set → length nodes.nodes ≡ length m.nodes → IsWordOf nodes m set rows
    → StandAt set.pages nodes set.shards rows (take k (surviving m set.shards))
survivors_stand nodes m set rows k shaped count word i within =
    let s = taken_survives m set.shards k i within in
    let q : get_or (take k (surviving m set.shards)) i 0 ≡ s.at = s.place ∙ omega arith in
    let c = shaped.current s.at s.shard s.there in
    let inside : s.at < length rows =
    omega (
      arith,
      slice_get_within set.shards s.at s.shard s.there,
      word.code.is_word.count,
      counted m set shaped,
    ) in
    let wide : length (row_at rows s.at) ≡ 4096 * set.pages = word.code.is_word.equal_lengths s.at [] inside
    ∙ word.code.wide in
    subst (StandsAt set.pages nodes set.shards rows) (sym q) (record {
      shard = s.shard;
      at = s.there;
      node =
          omega (arith, c.0, count);
      row = word.survive s.at s.shard s.there s.kept;
      wide = wide;
    })

-- the word of a set is what is solved from these rows
pub word_is_solution : (nodes : NodesState) (m : Membership) (set : SetState)
    (rows table : List (List ℕ)) (positions : List ℕ) → IsWordOf nodes m set rows
    → ((i : ℕ) → i < length positions
    → row_at table (get_or positions i 0) ≡ row_at rows (get_or positions i 0))
    → IsSolution (length set.positions) (parities set) positions (rows_at table positions) rows
word_is_solution nodes m set rows table positions word same = record {
  is_word = word.code.is_word;
  agrees = alike positions same;
}
  where
    alike : (ps : List ℕ)
        → ((i : ℕ) → i < length ps → row_at table (get_or ps i 0) ≡ row_at rows (get_or ps i 0))
        → rows_at rows ps ≡ rows_at table ps
    alike [] h = refl
    alike (p ∷ ps) h =
        ap (λ (l : List (List ℕ)).
        row_at rows p ∷ l) (alike ps (λ i l. h (suc i) (omega (arith, l))))
        ∙ ap (λ (r : List ℕ). r ∷ rows_at table ps) (sym (h 0 (omega arith)))
