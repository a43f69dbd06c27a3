-- The parts of a begin.
use Rattle.std.specs.Prelude.{◌≡◌, ℕ, ◌+◌, ◌*◌, ◌++◌, Bool, true, false, List, length}
use Rattle.std.specs.FinMap as map
use Rattle.cb_gf256.specs.CodeWord.{IsCodeWord}
use Rattle.cb_gf256.specs.Rows.{HaveLength, HoldBytes}
use Rattle.cb_member.specs.declared.names.Shard.{Shard}
use Rattle.cb_world.specs.declared.access.Access.{Access}
use Rattle.cb_world.specs.declared.leaving.Former.{Former}
use Rattle.cb_world.specs.declared.shown.Shown.{Shown}
use Rattle.cb_types.specs.declared.order.EncodeOrder.{EncodeOrder}
use Rattle.cb_world.specs.FarState.{FarState}
use Rattle.cb_world.specs.Leaving.{AreRoomy, ParitiesState}
use Rattle.cb_world.specs.Orders.{IsEncodeKept}
use Rattle.cb_world.specs.Reserved.{set_from}
use Rattle.cb_evict.specs.Loading.{LoadsRuns}
use Rattle.cb_evict.specs.Evicting.{EndsClaimed}
use Rattle.cb_evict.specs.BeginRule.{HasBegun, blank_shards}
use Rattle.cb_evict.specs.BeginEffect.{IsBatchBegun}
use Rattle.cb_evict.specs.Gathering.{order_for}

-- the far state where the set is kept that a batch of spans of so many pages will be
abbrev pub with_reserved : FarState → ℕ → List Shard → List ℕ → FarState
with_reserved far pages blank frames = record far {
  sets = map.insert far.sets far.counts.sets (record {
    set = set_from far.counts.sets pages blank far.spans frames;
    committed = false;
  });
}

-- the parities of some data rows
pub record AreParities (k n : ℕ) (rows parities : List (List ℕ)) : Type 0 where
  pub count : k + length parities ≡ n
  pub word : IsCodeWord k (length parities) (rows ++ parities)
  pub bytes : HoldBytes (rows ++ parities)

-- Parities that are made of these data rows, or the room for them: r rows that are as long as the
-- data rows and, where these parities are not made, as many rows for data as there are.
pub record AreReady (made : Bool) (r : ℕ) (rows : List (List ℕ)) (p : ParitiesState) : Type 0
  where
    pub mark : p.made ≡ made
    pub count : length p.rows ≡ r
    pub coded : made ≡ true → AreParities (length rows) (length rows + r) rows p.rows
    pub long : (pages : ℕ) → HaveLength (4096 * pages) rows → AreRoomy pages (length rows) p

-- the frames are read, these are the parities of their rows or the room for them, and the set is
-- kept that they will be
pub record ReservesFrames (runs : List Access → Type 0) (shows : Shown → Type 0)
    (far new : FarState) (pages : ℕ) (frames : List ℕ) (made : Bool) (rows : List (List ℕ))
    (p : ParitiesState) : Type 0 where
  pub loads : LoadsRuns runs shows pages frames rows
  pub count : length rows ≡ length frames
  pub ready : AreReady made far.code.r rows p
  pub roomy : AreRoomy pages (length frames) p
  pub state : new ≡ with_reserved far pages (blank_shards (far.code.k + far.code.r)) frames

-- spans are leaving from here, and this is the order of the rows that were read
pub record HasOrdered (far new : FarState) (made : Bool) (o : EncodeOrder) (frames : List ℕ)
    (es : List Access) : Type 0 where
  pub begun : HasBegun far new made frames es
  pub order : o ≡ order_for far begun.rows

-- the batch is begun, and the order is kept
pub record IsOrdered (far new : FarState) (o : EncodeOrder) (es : List Access) (s t : Shown)
    : Type 0 where
  pub begun : IsBatchBegun far new es s t
  pub kept : IsEncodeKept t new o

-- claimed spans are leaving from here
abbrev pub BeginsClaimed : (List Access → Type 0) → (Shown → Type 0) → FarState → FarState
    → Bool → EncodeOrder → List ℕ → List Former → Type 0
BeginsClaimed runs shows far new made o frames formers =
    EndsClaimed runs shows far new frames formers (HasOrdered far new made o frames)
    (IsOrdered far new o)
