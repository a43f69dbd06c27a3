-- The worked word is the word of the worked set, and the only one.
use Rattle.std.proofs.Common.{◌≡◌, ℕ, List, refl, ap, lit≤}
use Rattle.cb_gf256.specs.Rows.{row_at}
use Rattle.cb_node.specs.NodesState.{NodesState, empty_nodes}
use Rattle.cb_world.specs.SetWord.{IsWordOf}
use Rattle.cb_world.proofs.Laws.{only_word, rows, with_two_rows, is_word as is_worked_word}
use Rattle.cb_swapin.proofs.WorkedSwap.{first, members, second, set}

abbrev pub nodes : NodesState
nodes = with_two_rows (empty_nodes 4 1)

pub is_word : IsWordOf nodes members set rows
is_word = is_worked_word (empty_nodes 4 1) members 5 first second (lit≤ tt) refl

-- each word of the set has these rows
pub one_row : (others : List (List ℕ)) → IsWordOf nodes members set others
    → row_at others 0 ≡ row_at rows 0
one_row others word = ap (λ (l : List (List ℕ)). row_at l 0)
    (only_word (empty_nodes 4 1) members 5 first second (lit≤ tt) refl (lit≤ tt) (lit≤ tt) others word)
