-- The jobs that hand an order out or take one, one table over their parts: over any desk, and over
-- the still desk.
use Rattle.std.specs.Prelude.{◌≡◌, ◌⊎◌, ℕ, Option, None, Some}
use Rattle.cb_types.specs.declared.job.Job.{Job}
use Rattle.cb_types.specs.declared.job.Job.TheVariants.{Gather, Install, Fetch, Land}
use Rattle.cb_types.specs.declared.order.DecodeOrder.{DecodeOrder}
use Rattle.cb_types.specs.declared.order.EncodeOrder.{EncodeOrder}
use Rattle.cb_types.specs.declared.order.Kept.{Kept}
use Rattle.cb_types.specs.declared.order.Kept.TheVariants.{Encode, Decode}
use Rattle.cb_types.specs.declared.reply.Reply.{Reply}
use Rattle.cb_types.specs.declared.reply.Reply.TheVariants as answer
use Rattle.cb_evict.specs.declared.eviction.Eviction.{Eviction}
use Rattle.cb_evict.specs.declared.gathering.Gathered.{Gathered}
use Rattle.cb_evict.specs.Gathering.{gathered_order, gathered_reply}
use Rattle.cb_swapin.specs.declared.fetching.Fetching.{Fetching}
use Rattle.cb_swapin.specs.FetchStep.{fetching_order, fetching_reply}
use Rattle.cb_core.specs.Parts.{Holding, WithRoom, RoomStops, most_evictions}

-- The single calls, each as it leads from one holding to another. An install and a landing are of
-- what a seat keeps.
pub record OrderParts (D : Type 0) : Type 1 where
  pub frames : Holding D → ℕ
  pub gathers : Holding D → Gathered → Holding D → Type 0
  pub installs : Option Kept → Holding D → Reply → Option Kept → Holding D → Type 0
  pub finds : ℕ → Holding D → Reply → Holding D → Type 0
  pub fetches : ℕ → Holding D → Fetching → Holding D → Type 0
  pub lands : Option Kept → Holding D → Reply → Holding D → Type 0
  pub wins : Holding D → Eviction → Holding D → Type 0

-- An object is looked at. Of one that is not far the reply tells where it is, and the seat keeps
-- what it kept; the rows of one that is far are handed out.
pub data FetchesBy {D : Type 0} (p : OrderParts D) (h : ℕ) (order : Option Kept) (a : Holding D)
    (r : Reply) (keeps : Option Kept) (b : Holding D) : Type 0 where
  not_far : p.finds h a r b → (r ≡ answer.NotHere → ⊥) → keeps ≡ order
      → FetchesBy p h order a r keeps b
  was_far : (m : Holding D) (g : Fetching) → p.finds h a answer.NotHere m → p.fetches h m g b
      → r ≡ fetching_reply g → keeps ≡ fetching_order order g → FetchesBy p h order a r keeps b

-- What a seat keeps after a landing with this reply: the order is taken where its position was
-- brought in.
abbrev pub landed_order : Option Kept → Reply → Option Kept
landed_order order (answer.Swapped f) = None
landed_order order r = order

-- of what a seat keeps an install sees orders to encode alone, and a landing orders to decode
abbrev pub encode_in : Option Kept → Option Kept
encode_in (Some (Encode o)) = Some (Encode o)
encode_in (Some (Decode o)) = None
encode_in None = None

abbrev pub decode_in : Option Kept → Option Kept
decode_in (Some (Decode o)) = Some (Decode o)
decode_in (Some (Encode o)) = None
decode_in None = None

-- What such a job does by these parts, once the turn is counted: what the seat kept before it, and
-- what it keeps after it. No other job is one.
abbrev pub DoesWithBy : {D : Type 0} → OrderParts D → Job → Option Kept → Holding D → Reply
    → Option Kept → Holding D → Type 0
DoesWithBy p Gather order a r keeps b = (g : Gathered) × p.gathers a g b × (r ≡ gathered_reply g)
    × (keeps ≡ gathered_order order g)
DoesWithBy p Install order a r keeps b = p.installs order a r keeps b
DoesWithBy p (Fetch handle) order a r keeps b = FetchesBy p handle.n order a r keeps b
DoesWithBy p Land order a r keeps b =
    WithRoom (p.frames a) (p.lands order) p.wins most_evictions a r b
    × (keeps ≡ landed_order order r)
DoesWithBy p job order a r keeps b = ⊥

-- what the parts leave that find no memory; an install takes none
pub record OrderLacks (D : Type 0) : Type 1 where
  pub gathers : Holding D → Holding D → Type 0
  pub fetches : ℕ → Holding D → Holding D → Type 0
  pub lands : Option Kept → Holding D → Holding D → Type 0
  pub evicts : Holding D → Holding D → Type 0

-- Where such a job stopped that found no memory. The seat keeps what it kept.
abbrev pub StopsWithBy : {D : Type 0} → OrderParts D → OrderLacks D → Job → Option Kept → Holding D
    → Holding D → Type 0
StopsWithBy p l Gather order a b = l.gathers a b
StopsWithBy {D = D} p l (Fetch handle) order a b =
    (m : Holding D) × p.finds handle.n a answer.NotHere m × l.fetches handle.n m b
StopsWithBy p l Land order a b =
    RoomStops (p.lands order) (l.lands order) p.wins l.evicts most_evictions a b
StopsWithBy p l job order a b = ⊥

-- The job runs the order that the seat keeps before it does anything: an install runs one to
-- encode, and a landing one to decode.
abbrev pub RunsOrder : Job → Option Kept → Type 0
RunsOrder job order = ((o : EncodeOrder) × (job ≡ Install) × (order ≡ Some (Encode o)))
    ⊎ ((o : DecodeOrder) × (job ≡ Land) × (order ≡ Some (Decode o)))
