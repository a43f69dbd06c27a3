-- The rows of a new set are those of the frames that it left.
use Rattle.std.proofs.Common.{◌≡◌, ℕ, suc, ◌+◌, ◌*◌, ◌≤◌, cond, List, [], ◌∷◌, length, get_or, Option, None, Some, count_by, is_some, refl, sym, ap, ◌∙◌, arith}
use Rattle.std.specs.List.{Contains, slice_get}
use Rattle.std.proofs.lemmas.List.Sums.{sum_by-cons}
use Rattle.std.proofs.lemmas.Option.{slice_get-get_or, slice_get_within, get_or_from_slice_get}
use Rattle.cb_gf256.specs.Rows.{row_at}
use Rattle.cb_member.specs.declared.names.Shard.{Shard}
use Rattle.cb_node.specs.NodesState.{row_under}
use Rattle.cb_span.specs.Contents.{Contents}
use Rattle.cb_world.specs.declared.access.Access.{Access}
use Rattle.cb_world.specs.declared.shown.Shown.{Shown}
use Rattle.cb_world.specs.FarState.{FarState, handle_in, span_in}
use Rattle.cb_world.specs.LocalSound.{LocalSound}
use Rattle.cb_world.specs.Memory.{window}
use Rattle.cb_world.specs.RowWords.{row_of}
use Rattle.cb_world.specs.Sets.{set_in}
use Rattle.cb_world.proofs.Laws.{some_same, put_there}
use Rattle.cb_evict.specs.BeginRule.{blank_shard}
use Rattle.cb_evict.specs.Candidates.{SpanNames}
use Rattle.cb_evict.specs.EvictEffect.{HaveFrameRows}
use Rattle.cb_evict.specs.EvictRule.{HasEvicted}
use Rattle.cb_evict.specs.Storing.{set_for}
use Rattle.cb_evict.proofs.Gone.{closed_in}
use Rattle.cb_evict.proofs.NewSet.{keys_apart, set_added_in, shards_within}

-- ---- a span has an object
some_object : (slots : List (Option ℕ)) → 1 ≤ count_by is_some slots
    → (slot : ℕ) × (h : ℕ) × (get_or slots slot None ≡ Some h)
some_object [] l = absurd (omega (arith, l))
some_object (Some h ∷ slots) l = (0, h, refl)
some_object (None ∷ slots) l =
    let e = sum_by-cons (λ (o : Option ℕ). cond (is_some o) 1 0) None slots in
    let x = some_object slots (omega (arith, e, l)) in (suc x.0, x.1, x.2)

pub names_one : (far : FarState) (s : Shown) (f : ℕ) (span : Contents) → LocalSound s far
    → span_in far.spans f ≡ Some span → (h : ℕ) × SpanNames far.spans f h
names_one far s f span sound there =
    let x = some_object span.slots (sound.frames.taken f span there) in
    (x.1, (x.0, ap (λ (o : Option Contents). handle_in o x.0) there ∙ x.2))

-- ---- so its position has its frame's row
module _ (far new : FarState) (s : Shown) (frames : List ℕ) (es : List Access)
    (memory : List ℕ) (sound : LocalSound s far) (e : HasEvicted far new frames es)
    (rows : HaveFrameRows far new memory)
    (holds : (f : ℕ) → Contains frames f → (span : Contents) × (span_in far.spans f ≡ Some span))
    (few : length frames ≤ far.code.k + far.code.r) where
  stored : (p : ℕ) (shard : Shard) → slice_get e.shards p ≡ Some shard
      → row_under new.nodes shard.node shard.key ≡ Some (row_at e.rows p)
  stored p shard at = ap (λ (q : FarState). row_under q.nodes shard.node shard.key) e.state
      ∙ put_there far.nodes e.shards e.rows p shard (shards_within far (far.code.k + far.code.r) e.shards e.chosen)
      (keys_apart far (far.code.k + far.code.r) e.shards e.chosen) (e.word.is_word.count ∙ sym e.chosen.count) at

  pub rows_of_frames : (p f : ℕ) → slice_get frames p ≡ Some f
      → row_at e.rows p ≡ row_of (window memory (512 * f) (512 * e.pages))
  rows_of_frames p f at =
      let within = slice_get_within frames p f at in
      let among : Contains frames f = (p, within, get_or_from_slice_get frames p f f at) in
      let span = holds f among in
      let one = names_one far s f span.0 sound span.1 in
      let shard = get_or e.shards p blank_shard in
      let there : slice_get e.shards p ≡ Some shard =
      slice_get-get_or e.shards p blank_shard (let n = e.chosen.count in omega (arith, within, few, n)) in
      some_same (row_at e.rows p) (row_of (window memory (512 * f) (512 * e.pages)))
      (sym (stored p shard there)
      ∙ rows one.0 f (record { set = far.counts.sets; position = p; slot = one.1.0 })
      (set_for far e.pages e.shards frames) shard one.1
      (ap (λ (q : FarState). span_in q.spans f) e.state ∙ closed_in far.spans frames f among)
      (e.homes.here p f one.1.0 one.0 at one.1.1)
      (ap (λ (q : FarState). set_in q.sets far.counts.sets) e.state
      ∙ set_added_in far.sets far.counts.sets (set_for far e.pages e.shards frames)) there)
