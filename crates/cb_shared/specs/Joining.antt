-- A seat that may be taken in.
use Rattle.std.specs.Prelude.{◌≡◌, ◌≤◌, [], false}
use Rattle.atomic_table.specs.Seated.{TableId}
use Rattle.cb_rule.specs.declared.view.View.{View}
use Rattle.cb_shared.specs.Seats.{SeatAt, record_at}

-- with no pins
abbrev pub unpinned_all : View → View
unpinned_all v = record v { pins = [] }

-- the seat is of this table, has a share, and has no pins and no claims, nor the far lock or a slot
pub record IsSpare (z : TableId) (p : SeatAt) : Type 0 where
  pub table : p.table_id ≡ z
  pub carries : p.me.1 ≡ []
  pub live : 1 ≤ (record_at p).share
  pub no_pins : (record_at p).pins ≡ []
  pub no_claims : (record_at p).claims ≡ []
  pub free : (record_at p).holds ≡ false
