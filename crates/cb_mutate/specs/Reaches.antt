-- A try to claim an object that is to be read.
use Rattle.std.specs.Prelude.{◌≡◌, ℕ, List, length}
use Rattle.cb_ptr.specs.declared.word.State.TheVariants as state
use Rattle.cb_ptr.specs.Word.{state_of, len_of}
use Rattle.cb_world.specs.declared.grasp.Grasp.{Grasp}
use Rattle.cb_world.specs.declared.grasp.Grasp.TheVariants as came
use Rattle.cb_mutate.specs.declared.reaching.Reached.{Reached}
use Rattle.cb_mutate.specs.declared.reaching.Reached.TheVariants as reached

-- what the try came to, and the room for the bytes
abbrev pub grasp_of : Reached → Grasp
grasp_of (reached.Claimed w room) = came.Claimed w
grasp_of (reached.Left w room) = came.Left w

abbrev pub room_of : Reached → List ℕ
room_of (reached.Claimed w room) = room
room_of (reached.Left w room) = room

-- the room has as many bytes as the object at the word that was found
abbrev pub HasReadRoom : Grasp → List ℕ → Type 0
HasReadRoom (came.Claimed w) room = length room ≡ len_of w
HasReadRoom (came.Left w) room = state_of w ≡ state.Here → length room ≡ len_of w
