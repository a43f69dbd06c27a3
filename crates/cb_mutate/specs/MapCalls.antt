-- Calls on objects as the plain map answers them.
use Rattle.std.specs.Prelude.{◌≡◌, ◌≢◌, ◌⊎◌, ℕ, ◌+◌, fold, [], Option, Some, None}
use Rattle.cb_types.specs.declared.request.Request.{Request}
use Rattle.cb_types.specs.declared.handle.Handle.{Handle}
use Rattle.cb_types.specs.declared.reply.Reply.{Reply}
use Rattle.cb_types.specs.declared.reply.Reply.TheVariants as answer
use Rattle.cb_model.specs.declared.object.Object.TheVariants.{Held, Freed}
use Rattle.cb_model.specs.Now.{MapNow, changed}
use Rattle.cb_model.specs.Event.{Event, event_of, change_of}
use Rattle.cb_model.specs.Replies.{MapReplies}
use Rattle.cb_model.specs.Called.{made_by}
use Rattle.cb_world.specs.declared.shown.Shown.{Shown}
use Rattle.cb_world.specs.FarState.{FarState}
use Rattle.cb_world.specs.Now.{Now, now}
use Rattle.cb_world.specs.Now.Now.{never, freed, held, gone}

-- what the map has at a handle is what the object holds; of one whose set is broken the version
-- alone is known
abbrev pub IsValue : MapNow → Now → Type 0
IsValue None never = Unit {0}
IsValue (Some (Freed version)) (freed v) = v ≡ version
IsValue (Some (Held version bytes)) (held v contents) = (v ≡ version) × (contents ≡ bytes)
IsValue (Some (Held version bytes)) (gone v) = v ≡ version
IsValue m n = ⊥

-- what the map has after an answered call
abbrev pub value_after : MapNow → Event → MapNow
value_after m event = fold changed m (change_of event)

-- Where the map has what the object held before, the reply is one that the map gives, or another
-- refusal, and the object holds afterwards what the map has then.
pub record IsMapCall (first handles made : ℕ) (handle : Option ℕ) (request : Request) (r : Reply)
    (before after : Now) : Type 0 where
  pub reply : (m : MapNow) → IsValue m before
      → MapReplies first handles made handle m (event_of request r)
  pub value : (m : MapNow) → IsValue m before → IsValue (value_after m (event_of request r)) after

-- A call on the object h, where so many of the handles were made before it and so many after, and
-- each object held the one before and holds the other after.
pub record IsCallBetween (first handles count more : ℕ) (old new : ℕ → Now) (h : ℕ)
    (request : Request) (r : Reply) : Type 0 where
  pub own : IsMapCall first handles count (Some h) request r (old h) (new h)
  pub others : (k : ℕ) → k ≢ h → new k ≡ old k
  pub counted : more ≡ count + made_by (event_of request r)

-- a call on the object h in a world of so many handles
abbrev pub IsCallOn : ℕ → Shown → Shown → FarState → FarState → ℕ → Request → Reply → Type 0
IsCallOn handles s t far new h request r = IsCallBetween far.first handles far.made new.made
    (λ k. now s far k) (λ k. now t new k) h request r

-- A make that made no object: the reply is one that the map gives, or another refusal, and each
-- object holds what it held.
pub record IsRefusedBetween (first handles count more : ℕ) (old new : ℕ → Now) (request : Request)
    (r : Reply) : Type 0 where
  pub reply : (m : MapNow) → MapReplies first handles count None m (event_of request r)
  pub silent : change_of (event_of request r) ≡ []
  pub others : (k : ℕ) → new k ≡ old k
  pub counted : more ≡ count + made_by (event_of request r)

-- one in a world of so many handles
abbrev pub IsRefusedMake : ℕ → Shown → Shown → FarState → FarState → Request → Reply → Type 0
IsRefusedMake handles s t far new request r = IsRefusedBetween far.first handles far.made new.made
    (λ k. now s far k) (λ k. now t new k) request r

-- A make in a world of so many handles: a call on the handle that it was answered, or refused.
abbrev pub IsMakeCall : ℕ → Shown → Shown → FarState → FarState → Request → Reply → Type 0
IsMakeCall handles s t far new request r =
    ((h : Handle) × (v : ℕ) × (r ≡ answer.Made h v) × IsCallOn handles s t far new h.n request r)
    ⊎ IsRefusedMake handles s t far new request r
