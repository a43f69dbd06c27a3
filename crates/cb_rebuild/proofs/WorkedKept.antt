-- A worked example of words that do not stay: the state has a set of that number, and its rows are
-- gone.
use Rattle.std.proofs.Common.{◌≡◌, None, refl, sym, ◌∙◌, subst, arith}
use Rattle.std.specs.FinMap as map
use Rattle.std.proofs.lemmas.Option.{none-some, same_Some}
use Rattle.cb_gf256.specs.Rows.{row_at}
use Rattle.cb_node.specs.NodesState.{empty_nodes, row_under}
use Rattle.cb_set.specs.SetState.{SetState}
use Rattle.cb_world.specs.FarState.{FarState}
use Rattle.cb_world.specs.SetWord.{IsWordOf}
use Rattle.cb_world.proofs.Laws.{at, node, rows}
use Rattle.cb_rebuild.specs.RebuildStep.{KeepWords}
use Rattle.cb_rebuild.proofs.WorkedRebuilt.{old}
use Rattle.cb_rebuild.proofs.WorkedWeak.{only_of}
use Rattle.cb_rebuild.proofs.WorkedWord.{is_word, members, set}

-- the set's rows are gone from the nodes
abbrev without_rows : FarState
without_rows = record old { nodes = empty_nodes 6 2 }

loses_the_rows : KeepWords old without_rows → ⊥
loses_the_rows x = let y = x 0 set rows (only_of set) is_word in
    let same : set ≡ y.0 = same_Some set y.0 (sym (only_of set) ∙ y.1) in
    let word : IsWordOf without_rows.nodes members set rows =
    subst (λ (s : SetState). IsWordOf without_rows.nodes members s rows) (sym same) y.2 in
    none-some (row_at rows 0) (sym no_row ∙ word.survive 0 (at 0 7) refl refl)
  where
    no_row : row_under without_rows.nodes (node 0) 7 ≡ None
    no_row = grind (arith, map.gets)
