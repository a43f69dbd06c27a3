-- A row that is lent by the nodes.
use Rattle.std.specs.Prelude.{◌≡◌, ◌+◌, ⊤}
use Rattle.std.specs.Borrow.{Fml, MutBor, follows_so}
use mathlib.Core.Option.{none}
use Rattle.cb_node.specs.NodesState.{NodesState}
use Rattle.cb_node.specs.contracts.nodes.Nodes.{the_row}

-- once the row is given back, one row more was given out, and nothing else has changed
abbrev pub GivesOne : MutBor NodesState → Fml
GivesOne nodes =
    follows_so the_row the_row nodes.ghost_name none (λ _ _. ⊤)
    (λ after. after ≡ record nodes.now { given = nodes.now.given + 1 })
