use Rattle.std.specs.Prelude.{◌≡◌, ℕ, List, Option, None, Some, count_by, is_none, is_some, length, position, replicate, slice_index_or, slice_set}
use Rattle.cb_class.specs.declared.class.Class.{Class}
use Rattle.cb_class.specs.Class.{IsClass, slots_of}
use Rattle.cb_span.specs.declared.temp.Temp.{Temp}

-- a span: its class, its temperature and, slot by slot, the handle of the object there, if there is
-- one
pub record Contents : Type 0 where
  pub class : Class
  pub temp : Temp
  pub slots : List (Option ℕ)

-- a span has the slots of its class
pub record IsSpan (span : Contents) : Type 0 where
  pub in_table : IsClass span.class
  pub sized : length span.slots ≡ slots_of span.class

-- the span of a class and a temperature whose slots hold this
abbrev pub span_of : Class → Temp → List (Option ℕ) → Contents
span_of class temp slots = record { class = class; temp = temp; slots = slots }

-- a span without objects
abbrev pub new_span : Class → Temp → Contents
new_span class temp = span_of class temp (replicate (slots_of class) None)

-- the handle in a slot, if it is taken
abbrev pub handle_at : Contents → ℕ → Option ℕ
handle_at span slot = slice_index_or span.slots slot None

-- the span where this slot has the handle, and every other slot is as it was
abbrev pub with_placed : Contents → ℕ → ℕ → Contents
with_placed span slot handle = record span { slots = slice_set span.slots slot (Some handle) }

-- the span where this slot is empty, and every other slot is as it was
abbrev pub with_cleared : Contents → ℕ → Contents
with_cleared span slot = record span { slots = slice_set span.slots slot None }

-- the least slot that is empty, if there is one
abbrev pub least_empty : Contents → Option ℕ
least_empty span = position is_none span.slots

-- the count of slots that are taken
abbrev pub live_count : Contents → ℕ
live_count span = count_by is_some span.slots
