-- What a request is about.
use Rattle.std.specs.Prelude.{ℕ, List, Option, Some, None, IsNone}
use Rattle.cb_types.specs.declared.request.Request.{Request}
use Rattle.cb_types.specs.declared.request.Request.TheVariants.{Make, Read, Write, Free, Pin, Peek, Unpin, Filter}

-- the name that a request is about, where it has one
abbrev pub name_of : Request → Option (List ℕ)
name_of (Make name bytes) = Some name
name_of (Read name) = Some name
name_of (Write name at bytes) = Some name
name_of (Free name) = Some name
name_of (Pin name) = Some name
name_of (Peek name) = Some name
name_of (Unpin name) = Some name
name_of (Filter name) = Some name
name_of request = None

-- the request is about no name
abbrev pub HasNoName : Request → Type 0
HasNoName request = IsNone (name_of request)
