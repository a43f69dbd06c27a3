-- The scope of a lane: its pins, as the answers tell them.
use Rattle.std.specs.Prelude.{◌≡◌, ◌↔◌, ℕ, ◌≤◌, List, [], ◌∷◌, ◌++◌, length, nat_eq, Option, None}
use Rattle.std.specs.Prelude.{Some, if◌then◌else◌}
use Rattle.std.specs.List.{fold, sum_by}
use Rattle.std.specs.Str.{bytes_eq}
use Rattle.cb_types.specs.declared.answer.Answer.{Answer}
use Rattle.cb_types.specs.declared.request.Request.{Request}
use Rattle.cb_types.specs.declared.request.Request.TheVariants.{Write, Free, Pin, Peek, Unpin}
use Rattle.cb_types.specs.declared.request.Request.TheVariants.{Filter, Leave}
use Rattle.cb_types.specs.declared.reply.Reply.{Reply}
use Rattle.cb_types.specs.declared.reply.Reply.TheVariants as answer
use Rattle.cb_types.specs.Requests.{name_of}
use Rattle.cb_model.specs.Called.{handle_named}

-- a pin of a lane: the name of the object, and the version that the pin was answered
pub record NamedPin : Type 0 where
  pub name : List ℕ
  pub version : ℕ

-- the pins of a lane, the newest one first
abbrev pub Scope : Type 0
Scope = List NamedPin

-- the version of the newest pin on the name
abbrev pub newest_on : List ℕ → Scope → Option ℕ
newest_on name [] = None
newest_on name (pin ∷ older) =
    if bytes_eq pin.name name then Some pin.version else newest_on name older

-- the scope without its newest pin on the name
abbrev pub without_newest : List ℕ → Scope → Scope
without_newest name [] = []
without_newest name (pin ∷ older) =
    if bytes_eq pin.name name then older else pin ∷ without_newest name older

-- how many of its pins are on the name
abbrev pub named_on : List ℕ → Scope → ℕ
named_on name scope = sum_by (λ pin. if bytes_eq pin.name name then 1 else 0) scope

-- the scope after an answer of its lane: a pin comes to it, and an unpin takes the newest one on
-- its name and a leave all out
abbrev pub scope_after : Scope → Request → Reply → Scope
scope_after scope (Pin name) (answer.Version version) =
    record { name = name; version = version } ∷ scope
scope_after scope (Unpin name) answer.Done = without_newest name scope
scope_after scope Leave (answer.Left pins) = []
scope_after scope request reply = scope

-- a lane's scope after one more answer
abbrev pub scope_more : ℕ → Scope → Answer → Scope
scope_more lane scope a =
    if nat_eq a.lane.n lane then scope_after scope a.request a.reply else scope

-- a lane's scope after these answers
abbrev pub scope_of : ℕ → List Answer → Scope
scope_of lane answers = fold (scope_more lane) [] answers

-- a peek: without a pin on the name it is refused, else it shows bytes at the newest pin's version
abbrev pub PeekSays : Option ℕ → Reply → Type 0
PeekSays None r = r ≡ answer.NotPinned
PeekSays (Some version) r = (bytes : List ℕ) × (r ≡ answer.Bytes version bytes)

-- an unpin: without a pin on the name it is refused, else it is done
abbrev pub UnpinSays : Option ℕ → Reply → Type 0
UnpinSays None r = r ≡ answer.NotPinned
UnpinSays (Some version) r = r ≡ answer.Done

-- a change or a move of an object that is answered pinned: so many pins are those of all lanes, and
-- so at least one and at least the lane's own
abbrev pub PinnedSays : ℕ → Reply → Type 0
PinnedSays own r = (count : ℕ) → r ≡ answer.Pinned count → (1 ≤ count) × (own ≤ count)

-- what a line on a name that has a handle is answered, by its lane's scope
abbrev pub CallSays : Scope → Request → Reply → Type 0
CallSays scope (Write name at bytes) r = PinnedSays (named_on name scope) r
CallSays scope (Free name) r = PinnedSays (named_on name scope) r
CallSays scope (Filter name) r = PinnedSays (named_on name scope) r
CallSays scope (Pin name) r = (r ≡ answer.ScopeFull) ↔ (length scope ≡ 16)
CallSays scope (Peek name) r = PeekSays (newest_on name scope) r
CallSays scope (Unpin name) r = UnpinSays (newest_on name scope) r
CallSays scope request r = Unit {0}

-- and on one that has none, where the line is about pins
abbrev pub UnmadeSays : Request → Reply → Type 0
UnmadeSays (Pin name) r = r ≡ answer.Unmade
UnmadeSays (Peek name) r = r ≡ answer.Unmade
UnmadeSays (Unpin name) r = r ≡ answer.Unmade
UnmadeSays request r = Unit {0}

-- What a line is answered by its lane's scope, and by whether its name has a handle. A leave is
-- told how many pins it gave back.
abbrev pub ScopeSays : Option ℕ → Scope → Request → Reply → Type 0
ScopeSays handle scope Leave r = r ≡ answer.Left (length scope)
ScopeSays None scope request r = UnmadeSays request r
ScopeSays (Some h) scope request r = CallSays scope request r

-- each answer is as the scope says that its lane has after the answers before it
abbrev pub KeepScopes : List Answer → List Answer → Type 0
KeepScopes before [] = Unit {0}
KeepScopes before (a ∷ after) = ScopeSays (handle_named before (name_of a.request))
    (scope_of a.lane.n before) a.request a.reply
    × KeepScopes (before ++ a ∷ []) after
