-- Far states whose spans and sets have one page each, and the makes that bring more.
use Rattle.std.specs.Prelude.{◌≡◌, ℕ, ◌<◌, List, Option, None, Some, length}
use Rattle.cb_class.specs.Class.{pages_of}
use Rattle.cb_set.specs.SetState.{SetState}
use Rattle.cb_span.specs.Contents.{Contents}
use Rattle.cb_types.specs.declared.job.Job.{Job}
use Rattle.cb_types.specs.declared.job.Job.TheVariants.{Make}
use Rattle.cb_types.specs.declared.reply.Reply.{Reply}
use Rattle.cb_types.specs.declared.reply.Reply.TheVariants as answer
use Rattle.cb_world.specs.FarState.{FarState, span_in}
use Rattle.cb_world.specs.Leaving.{LeavingState}
use Rattle.cb_world.specs.Sets.{set_in}

-- each span has one page, and so has each span of a committed set and of the batch that is leaving
pub record IsNarrow (far : FarState) : Type 0 where
  pub spans : (f : ℕ) (span : Contents) → span_in far.spans f ≡ Some span → pages_of span.class ≡ 1
  pub sets : (id : ℕ) (set : SetState) → set_in far.sets id ≡ Some set → set.pages ≡ 1
  pub leaving : (batch : LeavingState) → far.leaving ≡ Some batch → batch.pages ≡ 1

-- the bytes are more than a slot of a span of one page has
abbrev pub IsLong : List ℕ → Type 0
IsLong bytes = 1024 < length bytes

-- an object was made
abbrev pub IsMade : Reply → Type 0
IsMade (answer.Made handle version) = Unit {0}
IsMade r = ⊥

-- the job is a make of so many bytes, and an object was made
abbrev pub IsLongMade : Job → Reply → Type 0
IsLongMade (Make bytes) r = IsLong bytes × IsMade r
IsLongMade job r = ⊥

-- so of a turn that may have found no memory
abbrev pub IsLongMadeIf : Job → Option Reply → Type 0
IsLongMadeIf job None = ⊥
IsLongMadeIf job (Some r) = IsLongMade job r
