-- Each step of a pair whose sets stand has a row, and one only.
use Rattle.std.proofs.Common.{◌≡◌, ℕ, ◌+◌, List, length, get_or, sym, ap, ◌∙◌, subst, arith}
use Rattle.std.proofs.lemmas.Option.{same_Some, slice_get-get_or}
use Rattle.cb_gf256.specs.InRange.{IsInRange}
use Rattle.cb_gf256.specs.Rows.{row_at}
use Rattle.cb_member.specs.declared.names.Shard.{Shard}
use Rattle.cb_node.specs.NodesState.{NodesState}
use Rattle.cb_set.specs.SetState.{SetState, parities}
use Rattle.cb_world.specs.declared.shown.Shown.{Shown}
use Rattle.cb_world.specs.FarState.{FarState}
use Rattle.cb_world.specs.Joining.{JoiningState}
use Rattle.cb_world.specs.Merged.{IsMergedWord}
use Rattle.cb_world.specs.SetWord.{IsSpanWord}
use Rattle.cb_world.specs.Sound.{Sound}
use Rattle.cb_world.proofs.Laws.{same_data}
use Rattle.cb_compact.specs.Deltas.{HaveAllRows}
use Rattle.cb_compact.specs.PartStep.{IsFreshPair}
use Rattle.cb_compact.specs.PatchStep.{IsMergedRow}
use Rattle.cb_compact.proofs.Laws.{fresh_code, fresh_together, has_merged}

-- all rows of two words stand at the same shards
word_same : (nodes : NodesState) (shards : List Shard) (pages k r : ℕ) (w v : List (List ℕ))
    → IsInRange k r → length shards ≡ k + r → IsSpanWord pages k r w → IsSpanWord pages k r v
    → HaveAllRows nodes shards w → HaveAllRows nodes shards v → w ≡ v
word_same nodes shards pages k r w v range count x y w_rows v_rows =
    same_data k r w v range x.is_word x.bytes y.is_word y.bytes (λ i l.
    let d : Shard = record { node = record { n = 0 }; incarnation = 0; key = 0 } in
    let shard = get_or shards i d in
    let at = slice_get-get_or shards i d (omega (arith, l, count)) in
    same_Some (row_at w i) (row_at v i) (sym (w_rows i shard at) ∙ v_rows i shard at))

merged_same : (pages k r : ℕ) (taken : List ℕ) (wa wb m n : List (List ℕ)) → IsInRange k r
    → IsMergedWord pages k r taken wa wb m → IsMergedWord pages k r taken wa wb n → m ≡ n
merged_same pages k r taken wa wb m n range x y =
    same_data k r m n range x.word.is_word x.word.bytes y.word.is_word y.word.bytes
    (λ i l. x.chosen i l ∙ sym (y.chosen i l))

pub row_exists : (s : Shown) (far : FarState) (pair : JoiningState) (a b : SetState) (p : ℕ)
    → Sound s far → IsFreshPair far pair a b → (row : List ℕ) × IsMergedRow far pair a b p row
row_exists s far pair a b p sound fresh =
    let k = length a.positions in let r = parities a in
    let h = has_merged s far pair a b sound fresh in
    let c = fresh_code s far pair a b sound.away fresh in
    let t = fresh_together s far pair a b sound.away fresh h.wa h.wb h.a_word h.b_word in (
      row_at h.m p,
      λ wa wb m xa xb merged.
          let u = fresh_together s far pair a b sound.away fresh wa wb xa xb in
          let ea = word_same far.nodes pair.shards_a a.pages k r h.wa wa c.range c.a_count
          t.a_word u.a_word t.a_rows u.a_rows in
          let eb = word_same far.nodes pair.shards_b a.pages k r h.wb wb c.range c.b_count
          t.b_word u.b_word t.b_rows u.b_rows in
          ap (λ (l : List (List ℕ)). row_at l p)
          (merged_same a.pages k r pair.taken h.wa h.wb h.m m c.range h.merged
          (subst (λ (w : List (List ℕ)). IsMergedWord a.pages k r pair.taken w h.wb m) (sym ea)
          (subst (λ (w : List (List ℕ)). IsMergedWord a.pages k r pair.taken wa w m) (sym eb)
          merged))),
    )
