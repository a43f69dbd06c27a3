-- A read shows the object that the map has, and leaves the map.
use Rattle.std.proofs.Common.{◌≡◌, ℕ, ◌<◌, List, length, get_or, set, Some, Result, Ok, Err, sym, ap, ◌∙◌}
use Rattle.std.specs.Prelude.{IfOk, slice_get}
use Rattle.std.proofs.lemmas.List.{set-get_or}
use Rattle.std.proofs.lemmas.Option.{slice_get-get_or}
use Rattle.cb_types.specs.declared.handle.Handle.{Handle}
use Rattle.cb_model.specs.declared.object.Object.{Object}
use Rattle.cb_model.specs.declared.call.Call.TheVariants.{Read}
use Rattle.cb_model.specs.declared.call.MapReply.{MapReply}
use Rattle.cb_model.specs.declared.call.MapReply.TheVariants.{Made, Bytes, Version, Freed, Range, Unmade, Full}
use Rattle.cb_model.specs.Replies.{ObjectReplies}
use Rattle.cb_model.specs.Event.{Event}
use Rattle.cb_model.specs.Map.{Map, Replies, read_event, objects_after, object_after}

-- an object put where it stands
put_back : (objects : List Object) (h : ℕ) (object : Object) → object ≡ get_or objects h object
    → set objects h object ≡ objects
put_back objects h object at = ap (λ (o : Object). set objects h o) at ∙ set-get_or objects h object

-- the map with its own objects
same_map : (old : Map) (objects : List Object) → old.objects ≡ objects
    → old ≡ record { handles = old.handles; objects = objects }
same_map old objects same = λ i. record { handles = old.handles; objects = same i }

-- what a reply makes of the objects, where it leaves the object that it is about
unchanged : (objects : List Object) (h : ℕ) (object : Object) (event : Event)
    → slice_get objects h ≡ Some object → set objects h object ≡ objects
    → object_after object event ≡ object → objects ≡ set objects h (object_after object event)
unchanged objects h object event at same stays = rw stays (sym same)

shown : (old : Map) (h : Handle) (object : Object) (reply : MapReply)
    → slice_get old.objects h.n ≡ Some object → set old.objects h.n object ≡ old.objects
    → ObjectReplies (Some object) (read_event reply)
    → object_after object (read_event reply) ≡ object → Replies old (Read h) reply old
shown old h object (Bytes version bytes) at same is stays =
    let objects : old.objects ≡ objects_after old.objects h.n (slice_get old.objects h.n) (read_event (Bytes version bytes)) = rw at (unchanged old.objects h.n object (read_event (Bytes version bytes)) at same stays) in
    record { answer = rw at is; effect = same_map old (objects_after old.objects h.n (slice_get old.objects h.n) (read_event (Bytes version bytes))) objects }
shown old h object Freed at same is stays =
    let objects : old.objects ≡ objects_after old.objects h.n (slice_get old.objects h.n) (read_event Freed) = rw at (unchanged old.objects h.n object (read_event Freed) at same stays) in
    record { answer = rw at is; effect = same_map old (objects_after old.objects h.n (slice_get old.objects h.n) (read_event Freed)) objects }
shown old h object Unmade at same is stays =
    let objects : old.objects ≡ objects_after old.objects h.n (slice_get old.objects h.n) (read_event Unmade) = rw at (unchanged old.objects h.n object (read_event Unmade) at same stays) in
    record { answer = rw at is; effect = same_map old (objects_after old.objects h.n (slice_get old.objects h.n) (read_event Unmade)) objects }
shown old h object (Made handle version) at same is stays =
    let objects : old.objects ≡ objects_after old.objects h.n (slice_get old.objects h.n) (read_event (Made handle version)) = rw at (unchanged old.objects h.n object (read_event (Made handle version)) at same stays) in
    record { answer = rw at is; effect = same_map old (objects_after old.objects h.n (slice_get old.objects h.n) (read_event (Made handle version))) objects }
shown old h object (Version version) at same is stays =
    let objects : old.objects ≡ objects_after old.objects h.n (slice_get old.objects h.n) (read_event (Version version)) = rw at (unchanged old.objects h.n object (read_event (Version version)) at same stays) in
    record { answer = rw at is; effect = same_map old (objects_after old.objects h.n (slice_get old.objects h.n) (read_event (Version version))) objects }
shown old h object (Range len) at same is stays =
    let objects : old.objects ≡ objects_after old.objects h.n (slice_get old.objects h.n) (read_event (Range len)) = rw at (unchanged old.objects h.n object (read_event (Range len)) at same stays) in
    record { answer = rw at is; effect = same_map old (objects_after old.objects h.n (slice_get old.objects h.n) (read_event (Range len))) objects }
shown old h object (Full handles) at same is stays =
    let objects : old.objects ≡ objects_after old.objects h.n (slice_get old.objects h.n) (read_event (Full handles)) = rw at (unchanged old.objects h.n object (read_event (Full handles)) at same stays) in
    record { answer = rw at is; effect = same_map old (objects_after old.objects h.n (slice_get old.objects h.n) (read_event (Full handles))) objects }

pub shows : {E : Type 0} (old : Map) (h : Handle) (object : Object) (result : Result MapReply E)
    → h.n < length old.objects → object ≡ get_or old.objects h.n object
    → IfOk result (λ reply. ObjectReplies (Some object) (read_event reply))
    → IfOk result (λ reply. object_after object (read_event reply) ≡ object)
    → IfOk result (λ reply. Replies old (Read h) reply old)
shows {E} old h object (Ok reply) lt at is stays =
    shown old h object reply (slice_get-get_or old.objects h.n object lt ∙ ap (λ (o : Object). Some o) (sym at)) (put_back old.objects h.n object at) is stays
shows {E} old h object (Err e) lt at is stays = tt
