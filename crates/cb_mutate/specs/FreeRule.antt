-- The rule of a free, and what it does.
use Rattle.std.specs.Prelude.{◌≡◌, ◌⊎◌, ℕ, false, ◌+◌, ◌≤◌, List, [], ◌∷◌, Some, slice_set}
use Rattle.cb_ptr.specs.declared.word.State.{State}
use Rattle.cb_ptr.specs.declared.word.State.TheVariants as word
use Rattle.cb_ptr.specs.Word.{state_of, pins_of}
use Rattle.cb_set.specs.SetState.{SetState}
use Rattle.cb_span.specs.Contents.{Contents, handle_at}
use Rattle.cb_types.specs.declared.reply.Reply.{Reply}
use Rattle.cb_types.specs.declared.reply.Reply.TheVariants as answer
use Rattle.cb_world.specs.declared.object.Object.TheVariants as is
use Rattle.cb_world.specs.declared.access.Access.{Access}
use Rattle.cb_world.specs.declared.shown.Shown.{Shown}
use Rattle.cb_world.specs.declared.homes.Home.{Home}
use Rattle.cb_world.specs.Shown.{object_at}
use Rattle.cb_world.specs.Looks.{IsTaken, IsTold, told_by}
use Rattle.cb_world.specs.Written.{Writes, gone}
use Rattle.cb_world.specs.Still.{IsStill}
use Rattle.cb_world.specs.FarState.{FarState, span_in}
use Rattle.cb_world.specs.Released.{with_released}
use Rattle.cb_world.specs.LeftOver.{LiesIn, without_far}
use Rattle.cb_mutate.specs.Answered.{AnsweredAs, AnsweredByLook}
use Rattle.cb_mutate.specs.WriteRule.{NextVersion}

-- an object that is here: pinned, or claimed and freed
abbrev pub FreeHere : ℕ → List Access → Reply → ℕ → Type 0
FreeHere h es r w = ((1 ≤ pins_of w) × (r ≡ answer.Pinned (pins_of w)))
    ⊎ ((pins_of w ≡ 0)
    × ((v : ℕ) × (words : List ℕ) × IsTaken h v words es × NextVersion v r))

-- an object that is far has a next version, or none
abbrev pub FreeAway : ℕ → List Access → Reply → Type 0
FreeAway h es r = (v : ℕ) × IsTold h v es × NextVersion v r

-- by the state of the word: an object in local memory and a far one are freed
abbrev pub FreeAs : State → ℕ → ℕ → List Access → Reply → Type 0
FreeAs word.Far w h es r = FreeAway h es r
FreeAs state w h es r = AnsweredAs state (FreeHere h es r) w h es r

-- the slot that named the object is empty
pub record IsReleased (far new : FarState) (h : ℕ) : Type 0 where
  pub frame : ℕ
  pub slot : ℕ
  pub span : Contents
  pub there : span_in far.spans frame ≡ Some span
  pub named : handle_at span slot ≡ Some h
  pub left : new ≡ with_released far frame slot span

-- the far object has no home, and its set does not name it: a set with no live position is dropped
-- with its rows
pub record IsRemoved (far new : FarState) (h : ℕ) : Type 0 where
  pub home : Home
  pub set : SetState
  pub lies : LiesIn far h home set
  pub left : new ≡ without_far far h home set

-- an object in local memory leaves its slot, and a far one its set
abbrev pub LeavesPlace : State → FarState → FarState → ℕ → Type 0
LeavesPlace word.Here far new h = IsReleased far new h
LeavesPlace word.Far far new h = IsRemoved far new h
LeavesPlace state far new h = ⊥

-- the far state after a free with this reply, where this word was found
abbrev pub FreeFar : ℕ → ℕ → Reply → FarState → FarState → Type 0
FreeFar w h (answer.Version n) far new = LeavesPlace (state_of w) far new h
FreeFar w h _ far new = new ≡ far

-- the reply of a free, and the far state after it
pub record FreeRule (h : ℕ) (far new : FarState) (r : Reply) (es : List Access) : Type 0 where
  pub reply : AnsweredByLook (λ w. FreeAs (state_of w) w h es r) h es
  pub state : FreeFar reply.word h r far new

-- the last complete version and words of an object: a claim told them, or it is far
abbrev pub WasLast : ℕ → ℕ → List ℕ → List Access → Shown → Type 0
WasLast h v words es s =
    IsTaken h v words es ⊎ ((len : ℕ) × (object_at s h ≡ is.Far len v words))

-- the object is empty with its next version, and the version that was written has no words
pub record IsGone (h n : ℕ) (es : List Access) (s t : Shown) : Type 0 where
  pub version : ℕ
  pub words : List ℕ
  pub last : WasLast h version words es s
  pub next : n ≡ version + 1
  pub objects : t.objects ≡ slice_set s.objects h (is.Empty n)
  pub hots : t.hots ≡ slice_set (told_by es s).hots h false
  pub versions : t.versions ≡ slice_set (told_by es s).versions h n
  pub memory : t.memory ≡ (told_by es s).memory
  pub one : Writes es s (gone h n words ∷ [])

-- what a free with this reply does; a refusal changes nothing
abbrev pub FreeEffect : ℕ → Reply → List Access → Shown → Shown → Type 0
FreeEffect h (answer.Version n) es s t = IsGone h n es s t
FreeEffect h _ es s t = IsStill es s t
