-- A load of a word of a pinned object that adds nothing to the record.
use Rattle.std.specs.Prelude.{◌≡◌, ℕ, ◌+◌, ◌<◌, slice_index}
use Rattle.atomic_table.specs.Table.{Step}
use Rattle.cb_world.specs.Memory.{words_for}
use Rattle.cb_rule.specs.declared.view.Stand.{Stand}
use Rattle.cb_rule.specs.Lists.{Has}
use Rattle.cb_rule.specs.Slot.{LockSlot, Sat}
use Rattle.cb_rule.specs.Words.{base}

-- it is the word of the pin's version
abbrev pub read_pin : Step LockSlot → Sat → ℕ → Sat → Type 0
read_pin st m n m' = (m' ≡ m) × ((p : Stand) (j : ℕ) → Has p m.0.pins → j < words_for p.len
    → st.word ≡ base m.0.config + p.place + j → n ≡ slice_index p.words j)
