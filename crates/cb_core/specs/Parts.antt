-- The parts of a turn, one after another.
use Rattle.std.specs.Prelude.{◌≡◌, ℕ, suc, Option, None, Some}
use Rattle.cb_types.specs.declared.handle.SetId.{SetId}
use Rattle.cb_types.specs.declared.reply.Reply.{Reply}
use Rattle.cb_types.specs.declared.reply.Reply.TheVariants as answer
use Rattle.cb_world.specs.FarState.{FarState}
use Rattle.cb_evict.specs.declared.eviction.Eviction.{Eviction}
use Rattle.cb_evict.specs.declared.eviction.Eviction.TheVariants.{Refused, Set}
use Rattle.cb_evict.specs.declared.eviction.Lack.{Lack}

-- what the holder of the far lock works at: a desk, and the far state beside it
pub record Holding (D : Type 0) : Type 0 where
  pub desk : D
  pub far : FarState

-- The most evictions of one job. Each frees a frame, and there are at most so many.
abbrev pub most_evictions : ℕ
most_evictions = 4096

-- An operation for which room is won by evictions one after another, so many at the most: where it
-- finds no frame, an eviction makes some and the whole begins again, with one fewer left; where the
-- eviction is refused, there is no room, with the frames that there are and what that last eviction
-- found lacking: so many loose spans, and so many nodes with room. The number that is left, where
-- it begins and where it ends are told by each case.
pub data WithRoom {D : Type 0} (frames : ℕ) (operation : Holding D → Reply → Holding D → Type 0)
    (eviction : Holding D → Eviction → Holding D → Type 0) : ℕ → Holding D → Reply → Holding D
    → Type 0 where
  at_once : {left : ℕ} {a b : Holding D} {r : Reply} → operation a r b
      → (r ≡ answer.NoFrame → ⊥) → WithRoom frames operation eviction left a r b
  no_room : {left : ℕ} {a b : Holding D} {r : Reply} (m : Holding D) (why : Lack)
      (loose nodes : ℕ) → operation a answer.NoFrame m → eviction m (Refused why loose nodes) b
      → r ≡ answer.NoRoom frames loose nodes → WithRoom frames operation eviction left a r b
  won : {fewer : ℕ} {a b : Holding D} {r : Reply} (m n : Holding D) (id : SetId)
      → operation a answer.NoFrame m → eviction m (Set id) n
      → WithRoom frames operation eviction fewer n r b
      → WithRoom frames operation eviction (suc fewer) a r b

-- The answer, by an eviction, to an operation for which room is won: that there is no room, where
-- the eviction was refused; and none yet, where spans left as a set.
abbrev pub refusal_by : ℕ → Eviction → Option Reply
refusal_by frames (Set id) = None
refusal_by frames (Refused why loose nodes) = Some (answer.NoRoom frames loose nodes)

-- A call on an object wherever it is. One that is far is first looked at, which may decline the
-- call; then it is brought in, and the call is made once more. Where it can't be brought in the
-- call is answered as its bringing in was.
pub data WhereItIs {D : Type 0} (call : Holding D → Reply → Holding D → Type 0)
    (look : Holding D → Option Reply → Holding D → Type 0)
    (bringing : Holding D → Reply → Holding D → Type 0) (a : Holding D) (r : Reply) (b : Holding D)
    : Type 0 where
  near : call a r b → (r ≡ answer.NotHere → ⊥) → WhereItIs call look bringing a r b
  declined : (m : Holding D) → call a answer.NotHere m → look m (Some r) b
      → WhereItIs call look bringing a r b
  stays_far : (m n : Holding D) → call a answer.NotHere m → look m None n → bringing n r b
      → ((f : ℕ) → r ≡ answer.Swapped f → ⊥) → WhereItIs call look bringing a r b
  brought : (m n o : Holding D) (f : ℕ) → call a answer.NotHere m → look m None n
      → bringing n (answer.Swapped f) o → call o r b → WhereItIs call look bringing a r b

-- a call that is never declined
abbrev pub NeverDeclined : {D : Type 0} → Holding D → Option Reply → Holding D → Type 0
NeverDeclined a refusal b = (refusal ≡ None) × (b ≡ a)

-- An object that is far is brought in; of one that is not the reply tells where it is.
pub data BringsIn {D : Type 0} (call bringing : Holding D → Reply → Holding D → Type 0)
    (a : Holding D) (r : Reply) (b : Holding D) : Type 0 where
  not_far : call a r b → (r ≡ answer.NotHere → ⊥) → BringsIn call bringing a r b
  was_far : (m : Holding D) → call a answer.NotHere m → bringing m r b
      → BringsIn call bringing a r b

-- An operation for which room is won, and which found no memory at one of its parts: at the
-- operation, or at an eviction. The evictions before it stay.
pub data RoomStops {D : Type 0} (operation : Holding D → Reply → Holding D → Type 0)
    (lacks : Holding D → Holding D → Type 0) (eviction : Holding D → Eviction → Holding D → Type 0)
    (eviction_lacks : Holding D → Holding D → Type 0) : ℕ → Holding D → Holding D → Type 0 where
  at_once : {left : ℕ} {a b : Holding D} → lacks a b
      → RoomStops operation lacks eviction eviction_lacks left a b
  evicting : {left : ℕ} {a b : Holding D} (m : Holding D) → operation a answer.NoFrame m
      → eviction_lacks m b → RoomStops operation lacks eviction eviction_lacks left a b
  after : {fewer : ℕ} {a b : Holding D} (m n : Holding D) (id : SetId)
      → operation a answer.NoFrame m → eviction m (Set id) n
      → RoomStops operation lacks eviction eviction_lacks fewer n b
      → RoomStops operation lacks eviction eviction_lacks (suc fewer) a b

-- A call on an object wherever it is that found no memory: itself, where the object is brought in,
-- or once it is here. What was done before stays.
pub data CallStops {D : Type 0} (call : Holding D → Reply → Holding D → Type 0)
    (lacks : Holding D → Holding D → Type 0)
    (look : Holding D → Option Reply → Holding D → Type 0)
    (bringing : Holding D → Reply → Holding D → Type 0)
    (bringing_lacks : Holding D → Holding D → Type 0) (a b : Holding D) : Type 0 where
  near : lacks a b → CallStops call lacks look bringing bringing_lacks a b
  far : (m n : Holding D) → call a answer.NotHere m → look m None n → bringing_lacks n b
      → CallStops call lacks look bringing bringing_lacks a b
  after : (m n o : Holding D) (f : ℕ) → call a answer.NotHere m → look m None n
      → bringing n (answer.Swapped f) o → lacks o b
      → CallStops call lacks look bringing bringing_lacks a b

-- an operation that always finds memory
abbrev pub NeverLacks : {D : Type 0} → Holding D → Holding D → Type 0
NeverLacks a b = ⊥
