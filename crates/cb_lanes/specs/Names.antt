-- The names that were made, and their handles.
use Rattle.std.specs.Prelude.{◌≡◌, ℕ, ◌<◌, List, Option, Some, None, if◌then◌else◌}
use Rattle.std.specs.HashMap.{HashMap, get_by}
use Rattle.std.specs.Option.{option_map}
use Rattle.std.specs.Borrow.{Bor}
use Rattle.std.specs.Str.{bytes_eq}
use Rattle.std.specs.declared.hash.BuildHasherDefault.{BuildHasherDefault}
use Rattle.std.specs.declared.hash.FoldHasher.{FoldHasher}
use Rattle.cb_types.specs.declared.handle.Handle.{Handle}
use Rattle.cb_types.specs.declared.request.Request.{Request}
use Rattle.cb_types.specs.declared.request.Request.TheVariants.{Make, Read, Write, Free, Pin, Peek}
use Rattle.cb_types.specs.declared.request.Request.TheVariants.{Unpin, Filter}
use Rattle.cb_types.specs.declared.reply.Reply.{Reply}
use Rattle.cb_types.specs.declared.reply.Reply.TheVariants.{Made}
use Rattle.cb_types.specs.Requests.{name_of}

-- names and their handles, as they are kept
abbrev pub KeptNames : Type 0
KeptNames = HashMap (Bor (List ℕ)) Handle (BuildHasherDefault FoldHasher)

-- the handle that is kept for a name
abbrev pub kept_handle : KeptNames → List ℕ → Option Handle
kept_handle names name = get_by (λ k. bytes_eq name k.now) names

-- its number
abbrev pub kept_number : KeptNames → List ℕ → Option ℕ
kept_number names name = option_map (λ handle. handle.n) (kept_handle names name)

-- the handle that is kept for a request's name
abbrev pub kept_for : KeptNames → Option (List ℕ) → Option ℕ
kept_for names None = None
kept_for names (Some name) = kept_number names name

abbrev pub request_handle : KeptNames → Request → Option ℕ
request_handle names request = kept_for names (name_of request)

-- the names after an answer: a make that was given a handle has it kept under its name
abbrev pub number_after : KeptNames → Request → Reply → List ℕ → Option ℕ
number_after names (Make name bytes) (Made handle version) other =
    if bytes_eq name other then Some handle.n else kept_number names other
number_after names request reply other = kept_number names other

-- the names after an answer
abbrev pub AreKept : KeptNames → Request → Reply → KeptNames → Type 0
AreKept names request reply kept =
    (name : List ℕ) → kept_number kept name ≡ number_after names request reply name

-- the handle of each name may be named
abbrev pub AreNamed : (ℕ → Type 0) → KeptNames → Type 0
AreNamed named names = (name : List ℕ) (h : ℕ) → kept_number names name ≡ Some h → named h

-- each name's handle is one of so many
abbrev pub AreReady : ℕ → KeptNames → Type 0
AreReady handles names = AreNamed (λ h. h < handles) names

-- the request is about an object that was to be made before
abbrev pub IsOnObject : Request → Type 0
IsOnObject (Read name) = Unit {0}
IsOnObject (Write name at bytes) = Unit {0}
IsOnObject (Free name) = Unit {0}
IsOnObject (Pin name) = Unit {0}
IsOnObject (Peek name) = Unit {0}
IsOnObject (Unpin name) = Unit {0}
IsOnObject (Filter name) = Unit {0}
IsOnObject request = ⊥
