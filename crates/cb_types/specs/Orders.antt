-- Which orders can be run.
use Rattle.std.specs.Prelude.{◌≡◌, ◌+◌, ◌<◌, length}
use Rattle.cb_gf256.specs.InRange.{IsInRange}
use Rattle.cb_gf256.specs.Positions.{ArePositions}
use Rattle.cb_gf256.specs.Rows.{row_at, HaveLength}
use Rattle.cb_types.specs.declared.order.DecodeOrder.{DecodeOrder}
use Rattle.cb_types.specs.declared.order.EncodeOrder.{EncodeOrder}

-- its code is one of those that are built, and it has the code's k data rows, all of one length
pub record IsEncodable (o : EncodeOrder) : Type 0 where
  pub range : IsInRange o.k o.r
  pub count : length o.rows ≡ o.k
  pub lengths : HaveLength (length (row_at o.rows 0)) o.rows

-- its code is one of those that are built, it has the rows at k different positions of the code, in
-- ascending order and all of one length, and wants the row at a position of the code
pub record IsDecodable (o : DecodeOrder) : Type 0 where
  pub range : IsInRange o.k o.r
  pub positions : ArePositions (o.k + o.r) o.k o.present
  pub wanted : o.position < o.k + o.r
  pub count : length o.rows ≡ o.k
  pub lengths : HaveLength (length (row_at o.rows 0)) o.rows
