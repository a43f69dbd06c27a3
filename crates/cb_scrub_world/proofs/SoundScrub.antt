-- A sound world may be scrubbed, and so may one with a byte of a row spoilt.
use Rattle.std.proofs.Common.{◌≡◌, ℕ, ◌*◌, ◌^◌, ◌<◌, List, [], length, get_or, set, Option, Some, is_some, sym, ap, ◌∙◌, arith, inl, inr}
use Rattle.std.specs.List.{slice_get}
use Rattle.std.specs.Option.{unwrap_or}
use Rattle.std.specs.FinMap as map
use Rattle.std.proofs.lemmas.Bool.{cases_eq}
use Rattle.std.proofs.lemmas.List.{length-set}
use Rattle.std.proofs.lemmas.Option.{slice_get-get_or}
use Rattle.cb_gf256.specs.Rows.{row_at}
use Rattle.cb_gf256.specs.Sum.{◌⊕◌}
use Rattle.cb_member.specs.declared.names.NodeId.{NodeId}
use Rattle.cb_member.specs.declared.names.Shard.{Shard}
use Rattle.cb_node.specs.NodesState.{NodesState, known_row, with_row, with_spoiled, row_under}
use Rattle.cb_node.proofs.Laws.{row_is_put, put_keeps_other_rows}
use Rattle.cb_set.specs.SetState.{SetState}
use Rattle.cb_world.specs.FarSound.{AwaySound}
use Rattle.cb_world.specs.FarState.{FarState}
use Rattle.cb_world.specs.SetWord.{IsShaped, IsWordOf}
use Rattle.cb_world.specs.declared.shown.Shown.{Shown}
use Rattle.cb_scrub_world.specs.Scrub.{MayScrub, MayScrubSet, with_nodes}
use Rattle.cb_scrub_world.specs.Standing.{RowStands}

-- a row that is known stands
row_stands : (nodes : NodesState) (pages : ℕ) (shard : Shard) (row : List ℕ) → shard.node.n < length nodes.nodes → row_under nodes shard.node shard.key ≡ Some row → length row ≡ 4096 * pages → RowStands nodes pages shard
row_stands nodes pages shard row within is wide = record { node = within; there = ap is_some is; wide = ap (λ (o : Option (List ℕ)). length (unwrap_or o [])) is ∙ wide }

pub sound_set : (nodes : NodesState) (far : FarState) (set : SetState) (rows : List (List ℕ)) → length far.nodes.nodes ≡ length far.members.nodes → IsShaped far.members set → IsWordOf far.nodes far.members set rows → MayScrubSet far.nodes far.members set
sound_set nodes far set rows counted shaped word = record {
  range = shaped.range;
  members = λ k d l. (shaped.current k (get_or set.shards k d) (slice_get-get_or set.shards k d l)).0;
  distinct = shaped.distinct;
  standing = λ k d l kept.
      let shard : Shard = get_or set.shards k d in
      let at : slice_get set.shards k ≡ Some shard = slice_get-get_or set.shards k d l in
      let inside : k < length rows = omega (arith, l, word.code.is_word.count, shaped.data_first) in
      row_stands far.nodes set.pages shard (row_at rows k) (omega (arith, counted, (shaped.current k shard at).0)) (word.survive k shard at kept) (word.code.is_word.equal_lengths k [] inside ∙ word.code.wide);
}

-- a sound world may be scrubbed
pub sound_may_scrub : (s : Shown) (far : FarState) → AwaySound s far → far.nodes.given < 2 ^ 62 → MayScrub far
sound_may_scrub s far sound given = record {
  sets = λ id set at. let worded = sound.sets.worded id set at in sound_set far.nodes far set worded.0 sound.rows.counted (sound.sets.shaped id set at) worded.1.word;
  given = given;
}

-- ---- a byte that is spoilt

-- a row that is replaced by one of its length, and each other row, stands
pub stands_with : {pages : ℕ} (nodes : NodesState) (node : NodeId) (key : ℕ) (row : List ℕ) (shard : Shard) → node.n < length nodes.nodes → length row ≡ length (known_row nodes node key) → RowStands nodes pages shard → RowStands (with_row nodes node key row) pages shard
stands_with {pages = pages} nodes node key row shard within long stands =
    let count : length (with_row nodes node key row).nodes ≡ length nodes.nodes = length-set nodes.nodes node.n (map.insert (get_or nodes.nodes node.n map.empty) key row) in
    let inside : shard.node.n < length (with_row nodes node key row).nodes = omega (arith, count, stands.node) in
    elim (cases_eq shard.node.n node.n) [
      | inl here ↦ elim (cases_eq shard.key key) [
        | inl same ↦
            let is : row_under (with_row nodes node key row) shard.node shard.key ≡ Some row =
            ap (λ (n : ℕ). row_under (with_row nodes node key row) (record { n = n }) shard.key) here ∙ ap (λ (k : ℕ). row_under (with_row nodes node key row) node k) same ∙ row_is_put nodes node key row within in
            let known : known_row nodes shard.node shard.key ≡ known_row nodes node key =
            ap (λ (n : ℕ). known_row nodes (record { n = n }) shard.key) here ∙ ap (λ (k : ℕ). known_row nodes node k) same in
            row_stands (with_row nodes node key row) pages shard row inside is (long ∙ sym (ap length known) ∙ stands.wide)
        | inr other ↦ kept (λ both. other both.1) inside
      ]
      | inr other ↦ kept (λ both. other both.0) inside
    ]
  where
    kept : ((shard.node.n ≡ node.n) × (shard.key ≡ key) → ⊥) → shard.node.n < length (with_row nodes node key row).nodes → RowStands (with_row nodes node key row) pages shard
    kept apart inside =
        let is = put_keeps_other_rows nodes node shard.node key shard.key row within apart in
        record { node = inside; there = ap is_some is ∙ stands.there; wide = ap (λ (o : Option (List ℕ)). length (unwrap_or o [])) is ∙ stands.wide }

-- a world with a byte of a row spoilt may be scrubbed, where it might be before
pub spoilt_may_scrub : (far : FarState) (node : NodeId) (key at with : ℕ) → node.n < length far.nodes.nodes → MayScrub far → MayScrub (with_nodes far (with_spoiled far.nodes node key at with))
spoilt_may_scrub far node key at with within may =
    let row : List ℕ = known_row far.nodes node key in
    let spoilt : List ℕ = set row at (get_or row at 0 ⊕ with) in
    let long : length spoilt ≡ length row = length-set row at (get_or row at 0 ⊕ with) in
    record {
      sets = λ id set there.
          let was = may.sets id set there in
          record {
            range = was.range;
            members = was.members;
            distinct = was.distinct;
            standing = λ k d l kept. stands_with far.nodes node key spoilt (get_or set.shards k d) within long (was.standing k d l kept);
          };
      given = may.given;
    }
