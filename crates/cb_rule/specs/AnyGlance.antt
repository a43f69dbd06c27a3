-- A look at the pointer word of an object that the record may or may not know.
use Rattle.std.specs.Prelude.{◌≡◌, ℕ, ◌+◌}
use Rattle.atomic_table.specs.Table.{Step}
use Rattle.cb_ptr.specs.declared.word.State.TheVariants as word
use Rattle.cb_ptr.specs.Word.{state_of}
use Rattle.cb_rule.specs.Slot.{LockSlot, Sat}
use Rattle.cb_rule.specs.Steps.{IsNewest, Knows, with_freed_seen, with_look}

-- a load of the pointer word of any object: where it is freed and the record knows it, that entry
-- is read
abbrev pub glanced_any : Step LockSlot → Sat → ℕ → Sat → Type 0
glanced_any st m n m' = (h : ℕ) → st.word ≡ 1 + h
    → (state_of n ≡ word.Empty → Knows h m.0
    → (v : ℕ) × (m' ≡ (with_freed_seen h v n m.0, m.1)) × IsNewest h v m.0)
    × ((state_of n ≡ word.Empty → Knows h m.0 → ⊥) → m' ≡ (with_look h n m.0, m.1))
