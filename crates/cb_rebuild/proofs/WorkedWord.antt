-- The worked set: of six nodes two have crashed, and the set's parity is lost. The worked word is its
-- word, and the only one.
use Rattle.std.proofs.Common.{◌≡◌, ℕ, true, false, List, [], ◌∷◌, Some, refl, ap, lit≤}
use Rattle.cb_gf256.specs.Rows.{row_at}
use Rattle.cb_member.specs.Membership.{Membership, NodeState}
use Rattle.cb_node.specs.NodesState.{NodesState, empty_nodes}
use Rattle.cb_set.specs.SetState.{PositionState, SetState, filled_position, set_of}
use Rattle.cb_world.specs.SetWord.{IsWordOf}
use Rattle.cb_world.proofs.Laws.{at, only_word, rows, with_two_rows, is_word as is_worked_word}

abbrev pub up : NodeState
up = record { up = true; incarnation = 0; crashes = [] }

abbrev pub crashed : ℕ → NodeState
crashed epoch = record { up = false; incarnation = 0; crashes = record { n = epoch } ∷ [] }

-- six nodes: node 1 crashed at epoch 1 and node 2 at epoch 2
abbrev pub members : Membership
members = record {
  epoch = 2;
  nodes = up ∷ crashed 1 ∷ crashed 2 ∷ up ∷ up ∷ up ∷ [];
}

-- two data positions with an object each
abbrev first : PositionState
first = filled_position (Some 0 ∷ [])

abbrev second : PositionState
second = filled_position (Some 1 ∷ [])

-- and a parity, by the nodes of their shards
abbrev pub on : ℕ → ℕ → ℕ → SetState
on a b c = set_of 1 1 (at a 7 ∷ at b 8 ∷ at c 9 ∷ []) (first ∷ second ∷ [])

-- the parity is lost
abbrev pub set : SetState
set = on 0 3 1

abbrev pub nodes : NodesState
nodes = with_two_rows (empty_nodes 6 2)

pub is_word : IsWordOf nodes members set rows
is_word = is_worked_word (empty_nodes 6 2) members 1 first second (lit≤ tt) refl

-- each word of the set has these rows
pub one_row : (others : List (List ℕ)) → IsWordOf nodes members set others
    → row_at others 2 ≡ row_at rows 2
one_row others word = ap (λ (l : List (List ℕ)). row_at l 2)
    (only_word (empty_nodes 6 2) members 1 first second (lit≤ tt) refl (lit≤ tt) (lit≤ tt) others word)
