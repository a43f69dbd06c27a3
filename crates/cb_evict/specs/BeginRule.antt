-- The rule of a begin, and of a gather, which is a begin whose parities are made later.
use Rattle.std.specs.Prelude.{◌≡◌, ◌⊎◌, ℕ, ◌+◌, ◌≤◌, ◌++◌, Bool, true, false, List, [], None, Some, All, length, replicate, take}
use Rattle.std.specs.FinMap as map
use Rattle.cb_member.specs.declared.names.Shard.{Shard}
use Rattle.cb_types.specs.declared.reply.Reply.{Reply}
use Rattle.cb_types.specs.declared.reply.Reply.TheVariants as answer
use Rattle.cb_world.specs.declared.access.Access.{Access}
use Rattle.cb_world.specs.declared.leaving.Former.{Former}
use Rattle.cb_world.specs.Choices.{room_count}
use Rattle.cb_world.specs.FarState.{FarState}
use Rattle.cb_world.specs.Leaving.{LeavingState}
use Rattle.cb_world.specs.Looks.{IsFound}
use Rattle.cb_world.specs.Reserved.{set_from}
use Rattle.cb_world.specs.SetWord.{IsSpanWord}
use Rattle.cb_evict.specs.Candidates.{candidates, AreLoose}
use Rattle.cb_evict.specs.Claims.{AreApart}
use Rattle.cb_evict.specs.Claiming.{AreOf}
use Rattle.cb_evict.specs.Events.{TouchesOnly}
use Rattle.cb_evict.specs.Looking.{IsIn}
use Rattle.cb_evict.specs.Order.{noted_of, objects_of}
use Rattle.cb_evict.specs.Lengths.{batch_pages, loose_of}
use Rattle.cb_evict.specs.Loading.{AreOfLength, LiesInOne}
use Rattle.cb_evict.specs.EvictRule.{AreInRows, HasFewSpans, HasFewNodes}

-- the name of a row that was not put yet
abbrev pub blank_shard : Shard
blank_shard = record { node = record { n = 0 }; incarnation = 0; key = 0 }

-- as many of them
abbrev pub blank_shards : ℕ → List Shard
blank_shards n = replicate n blank_shard

-- r parities that are not made yet
abbrev pub no_parities : ℕ → List (List ℕ)
no_parities r = replicate r []

-- the batch of the spans in some frames, of so many pages each, of which no row was put yet
abbrev pub new_batch : FarState → ℕ → List ℕ → List Former → Bool → List (List ℕ) → LeavingState
new_batch far pages frames words made parities = record {
  set = far.counts.sets;
  pages = pages;
  frames = frames;
  words = words;
  made = made;
  parities = parities;
  shards = replicate (far.code.k + far.code.r) None;
}

-- the far state with that batch: its number is drawn, and the set that it will be is kept under it
abbrev pub with_batch : FarState → ℕ → List ℕ → List Former → Bool → List (List ℕ) → FarState
with_batch far pages frames words made parities = record far {
  sets = map.insert far.sets far.counts.sets (record {
    set =
        set_from far.counts.sets pages (blank_shards (far.code.k + far.code.r)) far.spans frames;
    committed = false;
  });
  leaving = Some (new_batch far pages frames words made parities);
  counts = record far.counts { sets = far.counts.sets + 1 };
}

-- The spans in these frames, of one length, are leaving from here: the words that the claims of
-- their objects found are noted, each once, in order of frame and slot. The parities, where they
-- are made, are those of the rows with the words of their objects. Nothing else of the far state
-- changed.
pub record HasBegun (far new : FarState) (made : Bool) (frames : List ℕ) (es : List Access)
    : Type 0 where
  pub pages : ℕ
  pub long : AreOfLength far.spans pages frames
  pub words : List Former
  pub rows : List (List ℕ)
  pub parities : List (List ℕ)
  pub of : AreOf (IsIn far.spans frames) words
  pub order : noted_of words ≡ objects_of far.spans frames
  pub each_once : AreApart words
  pub found : All (λ former. IsFound former.handle former.word es) words
  pub contents : AreInRows es far frames rows
  pub counts : (length rows ≡ far.code.k) × (length parities ≡ far.code.r)
  pub word : made ≡ true → IsSpanWord pages far.code.k far.code.r (rows ++ parities)
  pub bare : made ≡ false → parities ≡ no_parities far.code.r
  pub state : new ≡ with_batch far pages frames words made parities

-- a batch is leaving: nothing is looked at, and nothing changes
pub record IsLeavingAlready (far new : FarState) (r : Reply) (es : List Access) : Type 0 where
  pub batch : LeavingState
  pub there : far.leaving ≡ Some batch
  pub reply : r ≡ answer.Leaving (record { n = batch.set })
  pub state : new ≡ far
  pub nothing : es ≡ []

-- enough spans of a length are loose and enough nodes have room: of the greatest such length the
-- first k loose spans are leaving, and so much is so of the rows that were read of them
pub record HasBatch (far new : FarState) (made : Bool) (so : List (List ℕ) → Type 0) (r : Reply)
    (loose : List ℕ) (es : List Access) : Type 0 where
  pub pages : ℕ
  pub longest : batch_pages far.code.k far.spans loose ≡ Some pages
  pub room : far.code.k + far.code.r ≤ room_count far.nodes far.members
  pub reply : r ≡ answer.Batch (record { n = far.counts.sets })
  pub begun : HasBegun far new made (take far.code.k (loose_of far.spans pages loose)) es
  pub given : so begun.rows

-- No batch is leaving: the reply and the far state after it, by which spans are loose by the last
-- looks. Only objects and words of spans that may leave are touched.
pub record HasLooked (far new : FarState) (made : Bool) (so : List (List ℕ) → Type 0) (r : Reply)
    (es : List Access) : Type 0 where
  pub none : far.leaving ≡ None
  pub loose : List ℕ
  pub found : AreLoose es far.spans (candidates far) loose
  pub answered : HasFewSpans far new r loose ⊎ (HasFewNodes far new r loose
      ⊎ HasBatch far new made so r loose es)
  pub touches : TouchesOnly (IsIn far.spans (candidates far))
      (LiesInOne far.spans (candidates far)) es

-- The reply and the far state after it, where the parities of a batch that begins are made or not,
-- and so much is so of the rows that were read.
abbrev pub BeginsBy : FarState → FarState → Bool → (List (List ℕ) → Type 0) → Reply → List Access
    → Type 0
BeginsBy far new made so r es = IsLeavingAlready far new r es ⊎ HasLooked far new made so r es

-- the reply of a begin and the far state after it: the parities are made
abbrev pub BeginRule : FarState → FarState → Reply → List Access → Type 0
BeginRule far new r es = BeginsBy far new true (λ rows. Unit {0}) r es
