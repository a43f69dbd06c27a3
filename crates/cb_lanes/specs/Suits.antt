-- What an answer says of the handle of its name, and of what was read.
use Rattle.std.specs.Prelude.{ℕ, List, length, Option, Some, None}
use Rattle.std.specs.List.{AllByRecursion}
use Rattle.cb_rule.specs.declared.view.Seen.{Seen}
use Rattle.cb_model.specs.Event.{Event, event_of}
use Rattle.cb_model.specs.Event.Subject.{NewObject, Nothing}
use Rattle.cb_model.specs.Event.Event.{Shows, FindsFull, FindsUnmade, Refused, Wrong}
use Rattle.cb_record.specs.Lists.{HasOne}
use Rattle.cb_record.specs.Told.{Told}
use Rattle.cb_record.specs.Upheld.{IsSeenLong}

-- Unmade is told exactly where the name has no handle, and of such a name nothing else; what is
-- shown is as long as what was read of that version; and no reply is one that such a line never
-- has.
abbrev pub Suits : List Seen → Option ℕ → Event → Type 0
Suits seen handle (FindsFull number) = Unit {0}
Suits seen handle (Refused NewObject) = Unit {0}
Suits seen handle (Refused Nothing) = Unit {0}
Suits seen None FindsUnmade = Unit {0}
Suits seen None event = ⊥
Suits seen (Some h) (Shows version bytes) = HasOne (IsSeenLong h version (length bytes)) seen
Suits seen (Some h) FindsUnmade = ⊥
Suits seen (Some h) Wrong = ⊥
Suits seen (Some h) event = Unit {0}

-- so of an answered line
abbrev pub IsSuited : List Seen → Told → Type 0
IsSuited seen t = Suits seen t.handle (event_of t.request t.reply)

-- and of all of them
abbrev pub AreSuited : List Seen → List Told → Type 0
AreSuited seen ts = AllByRecursion (IsSuited seen) ts
