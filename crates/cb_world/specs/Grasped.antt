-- What a try to claim an object comes to.
use Rattle.std.specs.Prelude.{◌≡◌, ℕ, List, [], ◌∷◌, ◌++◌}
use Rattle.cb_ptr.specs.declared.word.State.TheVariants as word
use Rattle.cb_ptr.specs.Word.{state_of, pins_of}
use Rattle.cb_world.specs.declared.access.Access.{Access}
use Rattle.cb_world.specs.declared.access.Access.TheVariants.{Looked, Claimed}
use Rattle.cb_world.specs.declared.grasp.Grasp.{Grasp}
use Rattle.cb_world.specs.declared.grasp.Grasp.TheVariants as came
use Rattle.cb_world.specs.Looks.{AreLooks}

-- the word can be claimed: it is here and has no pins
abbrev pub IsFree : ℕ → Type 0
IsFree w = (state_of w ≡ word.Here) × (pins_of w ≡ 0)

-- After some looks the object was claimed at this word, or a look found a word that is not free.
abbrev pub Grasps : ℕ → List Access → Grasp → Type 0
Grasps h es (came.Claimed w) = (before : List Access) × (v : ℕ) × (words : List ℕ)
    × (es ≡ before ++ Claimed h w v words ∷ []) × AreLooks h before × IsFree w
Grasps h es (came.Left w) = (before : List Access)
    × (es ≡ before ++ Looked h w ∷ []) × AreLooks h before × ¬ (IsFree w)
