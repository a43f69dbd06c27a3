-- The versions that a job writes, by its reply.
use Rattle.std.specs.Prelude.{◌≡◌, ℕ, ◌+◌, ◌≤◌, List, [], ◌∷◌, length}
use Rattle.cb_types.specs.declared.job.Job.{Job}
use Rattle.cb_types.specs.declared.job.Job.TheVariants.{Make, Write, Free}
use Rattle.cb_types.specs.declared.reply.Reply.{Reply}
use Rattle.cb_types.specs.declared.reply.Reply.TheVariants as answer
use Rattle.cb_world.specs.declared.entry.Entry.{Entry}
use Rattle.cb_world.specs.Write.{IsWrite}
use Rattle.cb_world.specs.Written.{entry, gone}
use Rattle.cb_mutate.specs.WordsOf.{AreWordsOf}

-- a make that is answered Made writes the first version of the handle, with its bytes
abbrev pub MakeWrites : List ℕ → Reply → List Entry → Type 0
MakeWrites bytes (answer.Made h v) more = (words : List ℕ) × AreWordsOf bytes words
    × (more ≡ entry h.n v (length bytes) [] words ∷ [])
MakeWrites bytes r more = more ≡ []

-- a write that is answered a version writes that one: the contents with the bytes in them, for
-- which there is room
abbrev pub WriteWrites : ℕ → ℕ → List ℕ → Reply → List Entry → Type 0
WriteWrites h at bytes (answer.Version n) more = (len : ℕ) × (old : List ℕ) × (new : List ℕ)
    × IsWrite old at bytes new × (at + length bytes ≤ len) × (more ≡ entry h n len old new ∷ [])
WriteWrites h at bytes r more = more ≡ []

-- a free that is answered a version writes that one, which has no contents
abbrev pub FreeWrites : ℕ → Reply → List Entry → Type 0
FreeWrites h (answer.Version n) more = (words : List ℕ) × (more ≡ gone h n words ∷ [])
FreeWrites h r more = more ≡ []

-- the versions that a turn with this reply writes: that which a make, a write or a free answered,
-- and no others
abbrev pub TurnWrites : Job → Reply → List Entry → Type 0
TurnWrites (Make bytes) r more = MakeWrites bytes r more
TurnWrites (Write handle at bytes) r more = WriteWrites handle.n at bytes r more
TurnWrites (Free handle) r more = FreeWrites handle.n r more
TurnWrites job r more = more ≡ []
