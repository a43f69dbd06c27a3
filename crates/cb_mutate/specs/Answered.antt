-- The answer of a call on an object, by the word that was found last.
use Rattle.std.specs.Prelude.{◌≡◌, ℕ, zero, suc, List}
use Rattle.cb_ptr.specs.declared.word.State.{State}
use Rattle.cb_ptr.specs.declared.word.State.TheVariants as word
use Rattle.cb_ptr.specs.Word.{state_of, len_of, place_of}
use Rattle.cb_types.specs.declared.reply.Reply.{Reply}
use Rattle.cb_types.specs.declared.reply.Reply.TheVariants as answer
use Rattle.cb_world.specs.declared.access.Access.{Access}
use Rattle.cb_world.specs.Looks.{IsFound, IsTold}
use Rattle.cb_world.specs.Touches.{Touches, SettlesLast}

-- an object with an empty word: never made at version 0, and else freed
abbrev pub EmptyAnswer : ℕ → Reply → Type 0
EmptyAnswer zero r = r ≡ answer.Unmade
EmptyAnswer (suc v) r = r ≡ answer.Freed

-- an object that is not here, by the state of its word
abbrev pub AbsentAs : State → ℕ → List Access → Reply → Type 0
AbsentAs word.Empty h es r = (v : ℕ) × IsTold h v es × EmptyAnswer v r
AbsentAs word.Far h es r = r ≡ answer.NotHere
AbsentAs word.Here h es r = ⊥
AbsentAs word.Moving h es r = r ≡ answer.Moving

-- by the state of the word; `here` says what is answered of an object that is here
abbrev pub AnsweredAs : State → (ℕ → Type 0) → ℕ → ℕ → List Access → Reply → Type 0
AnsweredAs word.Here here w h es r = here w
AnsweredAs state here w h es r = AbsentAs state h es r

-- The answer is by the word that the last look at the object found. Nothing but the words of the
-- object was read and stored, and its pointer word last.
pub record AnsweredByLook (by : ℕ → Type 0) (h : ℕ) (es : List Access) : Type 0 where
  pub word : ℕ
  pub found : IsFound h word es
  pub touches : Touches h (place_of word) (len_of word) es
  pub settles_last : SettlesLast es
  pub answer : by word

-- an object that is not here is refused
abbrev pub Answered : (ℕ → Type 0) → ℕ → List Access → Reply → Type 0
Answered here h es r = AnsweredByLook (λ w. AnsweredAs (state_of w) here w h es r) h es
