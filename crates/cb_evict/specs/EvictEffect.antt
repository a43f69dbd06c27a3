-- What an eviction does.
use Rattle.std.specs.Prelude.{◌≡◌, ℕ, ◌*◌, false, List, [], None, Some, length, slice_get}
use Rattle.cb_member.specs.declared.names.Shard.{Shard}
use Rattle.cb_node.specs.NodesState.{row_under}
use Rattle.cb_ptr.specs.Word.{len_of}
use Rattle.cb_set.specs.SetState.{SetState}
use Rattle.cb_types.specs.declared.handle.SetId.{SetId}
use Rattle.cb_types.specs.declared.reply.Reply.{Reply}
use Rattle.cb_types.specs.declared.reply.Reply.TheVariants as answer
use Rattle.cb_world.specs.declared.object.Object.TheVariants as is
use Rattle.cb_world.specs.declared.access.Access.{Access}
use Rattle.cb_world.specs.declared.homes.Home.{Home}
use Rattle.cb_world.specs.declared.shown.Shown.{Shown}
use Rattle.cb_world.specs.Shown.{object_at, hot_at}
use Rattle.cb_world.specs.Looks.{IsFound, IsTaken, told_by}
use Rattle.cb_world.specs.Written.{Writes}
use Rattle.cb_world.specs.Still.{IsStill}
use Rattle.cb_world.specs.FarState.{FarState, span_in}
use Rattle.cb_world.specs.Homes.{home_at}
use Rattle.cb_world.specs.Memory.{window}
use Rattle.cb_world.specs.RowWords.{row_of}
use Rattle.cb_world.specs.Sets.{set_in}
use Rattle.cb_world.specs.Now.{now}
use Rattle.cb_evict.specs.Candidates.{SpanNames}

-- the object was in a span that is gone
abbrev pub HasLeft : FarState → FarState → ℕ → Type 0
HasLeft far new h = (f : ℕ) × SpanNames far.spans f h × (span_in new.spans f ≡ None)

-- the object is away, cold, with the version and the words that its claim told
pub record IsAway (es : List Access) (t : Shown) (h : ℕ) : Type 0 where
  pub word : ℕ
  pub version : ℕ
  pub words : List ℕ
  pub found : IsFound h word es
  pub told : IsTaken h version words es
  pub object : object_at t h ≡ is.Far (len_of word) version words
  pub cold : hot_at t h ≡ false

-- the row of the position where an object that left has its home is that of its span, whose words
-- are as in this memory
abbrev pub HaveFrameRows : FarState → FarState → List ℕ → Type 0
HaveFrameRows far new memory = (h f : ℕ) (home : Home) (set : SetState) (shard : Shard)
    → SpanNames far.spans f h → span_in new.spans f ≡ None → home_at new.homes h ≡ Some home
    → set_in new.sets home.set ≡ Some set → slice_get set.shards home.position ≡ Some shard
    → row_under new.nodes shard.node shard.key ≡ Some (row_of
    (window memory (512 * f) (512 * set.pages)))

-- The objects of the spans that are gone are away, and their rows are those of their frames; every
-- other object is as it was, words are as the events told of them, and no version is written. So
-- the last complete contents of every object stay.
pub record IsEvicted (far new : FarState) (es : List Access) (s t : Shown) : Type 0 where
  pub away : (h : ℕ) → HasLeft far new h → IsAway es t h
  pub others : (h : ℕ) → ¬ (HasLeft far new h) → object_at t h ≡ object_at s h
  pub hots : (h : ℕ) → ¬ (HasLeft far new h) → hot_at t h ≡ hot_at (told_by es s) h
  pub first : t.first ≡ s.first
  pub objects : length t.objects ≡ length s.objects
  pub versions : t.versions ≡ (told_by es s).versions
  pub memory : t.memory ≡ (told_by es s).memory
  pub rows : HaveFrameRows far new t.memory
  pub nothing : Writes es s []
  pub same_now : (h : ℕ) → now t new h ≡ now (told_by es s) far h

-- by the reply; a refusal changes nothing
pub record EvictEffect (far new : FarState) (r : Reply) (es : List Access) (s t : Shown) : Type 0 where
  pub evicted : (id : SetId) → r ≡ answer.Set id → IsEvicted far new es s t
  pub left : ((id : SetId) → r ≡ answer.Set id → ⊥) → IsStill es s t
