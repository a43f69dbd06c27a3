-- The map's reply to each call.
use Rattle.std.specs.Prelude.{◌≡◌, ℕ, ◌+◌, ◌<◌, ◌≤◌, length, Option, Some, None}
use Rattle.cb_model.specs.declared.object.Object.TheVariants.{Held, Freed}
use Rattle.cb_model.specs.Now.{MapNow}
use Rattle.cb_model.specs.Event.{Event}
use Rattle.cb_model.specs.Event.Subject.{NewObject, Other, Nothing}
use Rattle.cb_model.specs.Event.Event.{Makes, Shows, Pins, Writes, Frees, FindsFull, FindsUnmade, FindsFreed, FindsEnd, Refused}

-- What a call on an object is answered where the map has this. Each write and free is one version
-- higher; a write lies within the bytes, and past their end it is told their number; what was
-- freed answers so for good.
abbrev pub ObjectReplies : MapNow → Event → Type 0
ObjectReplies None FindsUnmade = Unit {0}
ObjectReplies (Some (Held version bytes)) (Shows shown contents) =
    (shown ≡ version) × (contents ≡ bytes)
ObjectReplies (Some (Held version bytes)) (Pins pinned) = pinned ≡ version
ObjectReplies (Some (Held version bytes)) (Writes at new next) =
    (at + length new ≤ length bytes) × (next ≡ version + 1)
ObjectReplies (Some (Held version bytes)) (Frees next) = next ≡ version + 1
ObjectReplies (Some (Held version bytes)) (FindsEnd at new len) =
    (length bytes < at + length new) × (len ≡ length bytes)
ObjectReplies (Some (Held version bytes)) (Refused subject) = Unit {0}
ObjectReplies (Some (Freed version)) FindsFreed = Unit {0}
ObjectReplies (Some (Freed version)) (Refused Other) = Unit {0}
ObjectReplies now event = ⊥

-- What a call is answered where so many of the handles were made, and the map has `now` at the handle
-- that the call is about. A make gets the next handle, at the first version, where there is one more.
abbrev pub MapReplies : (first handles made : ℕ) → Option ℕ → MapNow → Event → Type 0
MapReplies first handles made handle now (Makes bytes version) =
    (handle ≡ Some made) × (made < handles) × (version ≡ first)
MapReplies first handles made handle now (FindsFull number) = (made ≡ handles) × (number ≡ handles)
MapReplies first handles made handle now (Refused NewObject) = made < handles
MapReplies first handles made handle now (Refused Nothing) = Unit {0}
MapReplies first handles made handle now event = ObjectReplies now event
