-- The rule of a write, and what it does.
use Rattle.std.specs.Prelude.{◌≡◌, ◌⊎◌, ℕ, true, ◌+◌, ◌-◌, ◌^◌, ◌<◌, ◌≤◌, List, [], ◌∷◌, length, slice_set}
use Rattle.cb_ptr.specs.Word.{len_of, place_of, pins_of}
use Rattle.cb_types.specs.declared.reply.Reply.{Reply}
use Rattle.cb_types.specs.declared.reply.Reply.TheVariants as answer
use Rattle.cb_world.specs.declared.access.Access.{Access}
use Rattle.cb_world.specs.declared.shown.Shown.{Shown}
use Rattle.cb_world.specs.Memory.{put}
use Rattle.cb_world.specs.Write.{IsWrite}
use Rattle.cb_world.specs.Looks.{IsFound, IsTaken, told_by}
use Rattle.cb_world.specs.Written.{Writes, entry}
use Rattle.cb_world.specs.Still.{IsStill}
use Rattle.cb_mutate.specs.Answered.{Answered}
use Rattle.cb_mutate.specs.Wordwise.{IsWordwise}

-- the object was claimed with this version, which has no next one, or has
abbrev pub NextVersion : ℕ → Reply → Type 0
NextVersion v r = ((v ≡ 2 ^ 64 - 1) × (r ≡ answer.Worn))
    ⊎ ((v < 2 ^ 64 - 1) × (r ≡ answer.Version (v + 1)))

-- an object that is here: past its end, pinned, or claimed and written
abbrev pub WriteHere : ℕ → ℕ → List ℕ → List Access → Reply → ℕ → Type 0
WriteHere h at bytes es r w =
    ((len_of w < at + length bytes) × (r ≡ answer.Range (len_of w)))
    ⊎ ((at + length bytes ≤ len_of w)
    × (((1 ≤ pins_of w) × (r ≡ answer.Pinned (pins_of w)))
    ⊎ ((pins_of w ≡ 0)
    × ((v : ℕ) × (words : List ℕ) × IsTaken h v words es × NextVersion v r))))

-- the reply of a write of bytes from the byte number `at` on
abbrev pub WriteRule : ℕ → ℕ → List ℕ → Reply → List Access → Type 0
WriteRule h at bytes r es = Answered (WriteHere h at bytes es r) h es r

-- the object, in which the bytes have room, has its next version, and the words of its contents
-- with the write, of which those that it reaches alone are stored, and is hot
pub record IsWritten (h n at : ℕ) (bytes : List ℕ) (es : List Access) (s t : Shown) : Type 0 where
  pub word : ℕ
  pub version : ℕ
  pub words : List ℕ
  pub new : List ℕ
  pub found : IsFound h word es
  pub room : at + length bytes ≤ len_of word
  pub taken : IsTaken h version words es
  pub next : n ≡ version + 1
  pub write : IsWrite words at bytes new
  pub wordwise : IsWordwise words at (length bytes) new
  pub objects : t.objects ≡ s.objects
  pub hots : t.hots ≡ slice_set (told_by es s).hots h true
  pub versions : t.versions ≡ slice_set (told_by es s).versions h n
  pub memory : t.memory ≡ put (told_by es s).memory (place_of word) new
  pub one : Writes es s (entry h n (len_of word) words new ∷ [])

-- what a write with this reply does; a refusal changes nothing
abbrev pub WriteEffect : ℕ → ℕ → List ℕ → Reply → List Access → Shown → Shown → Type 0
WriteEffect h at bytes (answer.Version n) es s t = IsWritten h n at bytes es s t
WriteEffect h at bytes _ es s t = IsStill es s t
