-- Rows of a set are given out, of which the row of a position is to be made elsewhere.
use Rattle.std.specs.Prelude.{◌≡◌, ℕ, Bool, true, false, not, ◌&&◌, if◌then◌else◌, Option, Some, length, take}
use Rattle.cb_set.specs.SetState.{SetState, parities}
use Rattle.cb_set.specs.Lost.{lost, lost_at}
use Rattle.cb_set.specs.Surviving.{surviving}
use Rattle.cb_swapin.specs.declared.fetching.Fetching.{Fetching}
use Rattle.cb_swapin.specs.declared.fetching.Fetching.TheVariants.{Order, Answer}
use Rattle.cb_types.specs.declared.order.DecodeOrder.{DecodeOrder}
use Rattle.cb_types.specs.declared.order.Kept.{Kept}
use Rattle.cb_types.specs.declared.order.Kept.TheVariants.{Decode}
use Rattle.cb_types.specs.declared.reply.Reply.{Reply}
use Rattle.cb_types.specs.declared.reply.Reply.TheVariants as answer
use Rattle.cb_world.specs.FarState.{FarState}
use Rattle.cb_world.specs.Fetched.{AreGiven}
use Rattle.cb_world.specs.Sets.{set_in}
use Rattle.cb_world.specs.SetWord.{is_broken}
use Rattle.cb_swapin.specs.Fetching.{far_given}

-- the reply: an order tells its set and the position whose row it is to make
abbrev pub fetching_reply : Fetching → Reply
fetching_reply (Order o) = answer.Fetched (record { n = o.set }) o.position
fetching_reply (Answer r) = r

-- what a seat keeps after it: a new order, or what it kept before
abbrev pub fetching_order : Option Kept → Fetching → Option Kept
fetching_order before (Order o) = Some (Decode o)
fetching_order before (Answer r) = before

-- whether an order is handed out
abbrev pub hands_out : Fetching → Bool
hands_out (Order o) = true
hands_out (Answer r) = false

-- the row of a position has to be made, and can be: its own shard is lost, and its set has lost no
-- more shards than it has parities
abbrev pub is_to_make : FarState → SetState → ℕ → Bool
is_to_make far set p = not (is_broken far.members set) && lost_at far.members set.shards p

-- what is answered where no order is handed out: unavailable where the set has lost more shards than
-- it has parities, with all that it lost; else the position can be brought in as it is
abbrev pub unfetched_answer : FarState → ℕ → SetState → Reply
unfetched_answer far id set =
    if is_broken far.members set
    then answer.Unavailable (record { n = id }) (lost far.members set.shards)
    else answer.Direct

-- The order is to make the row of position p of the set, of its code, from the rows at its k least
-- positions whose shards are not lost, as they stand at their nodes. These k rows were given out, and
-- nothing else changed.
pub record IsOrderFetched (far new : FarState) (id p : ℕ) (set : SetState) (o : DecodeOrder) : Type 0
  where
    pub set_is : o.set ≡ id
    pub wanted : o.position ≡ p
    pub code : (o.k ≡ length set.positions) × (o.r ≡ parities set)
    pub least : o.present ≡ take (length set.positions) (surviving far.members set.shards)
    pub given : AreGiven far.nodes set.shards o.present o.rows
    pub state : new ≡ far_given far (length set.positions)

-- the far state after a fetch; an answer without an order changes nothing
abbrev pub FetchFar : FarState → FarState → ℕ → ℕ → SetState → Fetching → Type 0
FetchFar far new id p set (Order o) = IsOrderFetched far new id p set o
FetchFar far new id p set (Answer r) = (r ≡ unfetched_answer far id set) × (new ≡ far)

-- A fetch of position p of the set of this number leads from a far state to another, and hands this
-- out: an order exactly where the position's row has to be made and can be.
pub record FetchStep (id p : ℕ) (far new : FarState) (g : Fetching) : Type 0 where
  pub set : SetState
  pub there : set_in far.sets id ≡ Some set
  pub ordered : hands_out g ≡ is_to_make far set p
  pub state : FetchFar far new id p set g
