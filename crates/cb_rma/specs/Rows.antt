-- What orders do to rows. No network is spoken of here.
use Rattle.std.specs.Prelude.{ℕ, ◌==◌, if◌then◌else◌, List, length, Option, Some, None}
use Rattle.std.specs.List.{fold}
use Rattle.std.specs.FinMap as map
use Rattle.cb_gf256.specs.Row.{row_sum, scaled_row}
use Rattle.cb_node.specs.Rows.{RowsByKey}
use Rattle.cb_rma.specs.declared.order.Order.{Order}
use Rattle.cb_rma.specs.declared.order.Order.TheVariants.{Put, Add, Drop}

-- the row and c times another one, where they have one length; else the row
abbrev pub sum_where_alike : List ℕ → ℕ → List ℕ → List ℕ
sum_where_alike old c row =
    if length old == length row then row_sum old (scaled_row c row) else old

-- such a sum in place of the row at the key, where one is there
abbrev pub with_sum : RowsByKey → ℕ → ℕ → List ℕ → Option (List ℕ) → RowsByKey
with_sum rows key c row None = rows
with_sum rows key c row (Some old) = map.insert rows key (sum_where_alike old c row)

abbrev pub with_added : RowsByKey → ℕ → ℕ → List ℕ → RowsByKey
with_added rows key c row = with_sum rows key c row (map.get rows key)

-- Put replaces the row at its key. Add adds c times its row to the row at the key where one of that
-- length is there, and else changes nothing. Drop takes the key away.
abbrev pub with_order : RowsByKey → Order → RowsByKey
with_order rows (Put key row) = map.insert rows key row
with_order rows (Add key c row) = with_added rows key c row
with_order rows (Drop key) = map.remove rows key

-- the rows after these orders, one after another, where there was none before
abbrev pub rows_after : List Order → RowsByKey
rows_after orders = fold with_order map.empty orders
