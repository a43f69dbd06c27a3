-- The laws of nodes that other crates cite, and those of a tree map seen as a finite map.
pub use Rattle.cb_node.proofs.Put.{row_at-with_row_here as row_is_put, row_at-with_row_other as put_keeps_other_rows, with_row-with_row as later_row_stays, with_row-known_row as same_row_changes_nothing, rows_at-with_rows_here as change_is_at_its_node, rows_at-with_rows_other as change_keeps_other_nodes}
pub use Rattle.cb_node.proofs.Dropped.{row_at-with_dropped_here as dropped_row_is_gone, row_at-with_dropped_other as drop_keeps_other_rows, with_dropped-with_row as put_then_dropped, held-with_rows_other as other_nodes_hold_as_many}
pub use Rattle.cb_node.proofs.Views.{view, get-view, view-insert, view-remove}
