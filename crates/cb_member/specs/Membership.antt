-- Which nodes are up, how often each has joined, and when each of its incarnations crashed.
use Rattle.std.specs.Prelude.{◌≡◌, ◌≢◌, ℕ, ◌+◌, ◌^◌, ◌<◌, ◌≤◌, Bool, true, false, if◌then◌else◌, List, [], ◌∷◌, ◌++◌, length, slice_get, slice_index_or, slice_set, Option, Some, All, replicate, sum_by}
use Rattle.cb_member.specs.declared.names.NodeId.{NodeId}
use Rattle.cb_member.specs.declared.names.Epoch.{Epoch}

-- One node: whether it is up, how often it has joined, and the epoch of the crash that ended each
-- of its incarnations, from incarnation 0 on.
pub record NodeState : Type 0 where
  pub up : Bool
  pub incarnation : ℕ
  pub crashes : List Epoch

-- The epoch, and the nodes in order of their numbers.
pub record Membership : Type 0 where
  pub epoch : ℕ
  pub nodes : List NodeState

-- a node that is up in incarnation 0
abbrev pub fresh_node : NodeState
fresh_node = record { up = true; incarnation = 0; crashes = [] }

-- so many nodes, each up in incarnation 0, before any crash or join
abbrev pub fresh_members : ℕ → Membership
fresh_members count = record { epoch = 0; nodes = replicate count fresh_node }

-- the node of that number
abbrev pub node_state : Membership → NodeId → NodeState
node_state m node = slice_index_or m.nodes node.n fresh_node

-- whether the node is up
abbrev pub alive : Membership → NodeId → Bool
alive m node = (node_state m node).up

-- how often the node has joined
abbrev pub incarnation : Membership → NodeId → ℕ
incarnation m node = (node_state m node).incarnation

-- the epoch of the crash that ended that incarnation of the node, if one did
abbrev pub crashed_at : Membership → NodeId → ℕ → Option Epoch
crashed_at m node which = slice_get (node_state m node).crashes which

-- the epoch of the next crash or join
abbrev pub next_epoch : Membership → Epoch
next_epoch m = record { n = m.epoch + 1 }

-- the next epoch, with that state for one node and every other node as it was
abbrev pub with_state : Membership → NodeId → NodeState → Membership
with_state m node state = record { epoch = m.epoch + 1; nodes = slice_set m.nodes node.n state }

-- a crash of a node that is up: it is down, and the epoch stands under the incarnation that ended
abbrev pub with_crash : Membership → NodeId → Membership
with_crash m node =
    let s = node_state m node in
    with_state m node (record {
      up = false;
      incarnation = s.incarnation;
      crashes = s.crashes ++ next_epoch m ∷ [];
    })

-- a join of a node that is down: it is up, in the next incarnation
abbrev pub with_join : Membership → NodeId → Membership
with_join m node =
    let s = node_state m node in
    with_state m node (record {
      up = true;
      incarnation = s.incarnation + 1;
      crashes = s.crashes;
    })

-- how many crashes and joins a node has had
abbrev pub events_of : NodeState → ℕ
events_of s = s.incarnation + length s.crashes

-- how many of a node's incarnations are over: all but the last, and the last where the node is down
abbrev pub ended_incarnations : NodeState → ℕ
ended_incarnations s = if s.up then s.incarnation else s.incarnation + 1

-- What holds at every moment.
pub record IsMembership (m : Membership) : Type 0 where
  -- a u32 counts the nodes
  pub numbered : length m.nodes < 2 ^ 32
  -- the epoch is the number of crashes and joins
  pub counted : m.epoch ≡ sum_by events_of m.nodes
  -- each incarnation that is over ended by one crash
  pub ended : All (λ s. length s.crashes ≡ ended_incarnations s) m.nodes
  -- the epochs of crashes lie from 1 to the epoch
  pub in_range : (node : NodeId) (which : ℕ) (e : Epoch) → crashed_at m node which ≡ Some e
      → (1 ≤ e.n) × (e.n ≤ m.epoch)
  -- a node's later incarnation ended at a later epoch
  pub rising : (node : NodeId) (earlier later : ℕ) (d e : Epoch) → earlier < later
      → crashed_at m node earlier ≡ Some d → crashed_at m node later ≡ Some e → d.n < e.n
  -- no two nodes crashed at one epoch
  pub apart : (a b : NodeId) (i j : ℕ) (d e : Epoch) → a.n ≢ b.n
      → crashed_at m a i ≡ Some d → crashed_at m b j ≡ Some e → d.n ≢ e.n
