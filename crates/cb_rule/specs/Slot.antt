-- What a slot of the table holds: the far state, while no seat has it in hand.
use Rattle.std.specs.Prelude.{Option}
use Rattle.atomic_table.specs.Table.{Me, State}
use Rattle.cb_world.specs.FarState.{FarState}
use Rattle.cb_rule.specs.declared.view.View.{View}

abbrev pub LockSlot : Type 0
LockSlot = Option FarState

-- the table as plain data
abbrev pub Table : Type 0
Table = State LockSlot View

-- a seat's view, and the slots in its hand
abbrev pub Sat : Type 0
Sat = Me LockSlot View
