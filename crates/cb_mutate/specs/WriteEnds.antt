-- How a write of a claimed object ends.
use Rattle.std.specs.Prelude.{◌≡◌, ◌⊎◌, ℕ, true, ◌+◌, ◌-◌, ◌^◌, ◌<◌, ◌≤◌, List, [], ◌∷◌, length, slice_set}
use Rattle.cb_ptr.specs.Word.{hot_of, len_of, place_of}
use Rattle.cb_types.specs.declared.reply.Reply.{Reply}
use Rattle.cb_types.specs.declared.reply.Reply.TheVariants as answer
use Rattle.cb_world.specs.declared.access.Access.{Access}
use Rattle.cb_world.specs.declared.shown.Shown.{Shown}
use Rattle.cb_world.specs.Memory.{put}
use Rattle.cb_world.specs.Write.{IsWrite}
use Rattle.cb_world.specs.Written.{Writes, entry}
use Rattle.cb_world.specs.Claimed.{with_settled}
use Rattle.cb_mutate.specs.Wordwise.{IsWordwise}

-- the object is settled as it was
pub record IsBack (s : Shown) (h word : ℕ) (es : List Access) (t : Shown) : Type 0 where
  pub settled : t ≡ with_settled s h word (hot_of word)
  pub nothing : Writes es s []

-- the object is settled with these words and the next version, hot
abbrev pub with_rewritten : Shown → ℕ → ℕ → ℕ → List ℕ → Shown
with_rewritten s h word v new = record (with_settled s h word true) {
  versions = slice_set s.versions h (v + 1);
  memory = put s.memory (place_of word) new;
}

pub record IsRewritten (s : Shown) (h word v at : ℕ) (words bytes : List ℕ) (es : List Access)
    (t : Shown) : Type 0 where
  pub new : List ℕ
  pub write : IsWrite words at bytes new
  pub wordwise : IsWordwise words at (length bytes) new
  pub settled : t ≡ with_rewritten s h word v new
  pub one : Writes es s (entry h (v + 1) (len_of word) words new ∷ [])

-- past its end, or with no next version, it goes back; else it is rewritten
abbrev pub WriteEnds : ℕ → ℕ → ℕ → List ℕ → Reply → List Access → Shown → ℕ → List ℕ → Shown
    → Type 0
WriteEnds h word at bytes r es s v words t =
    ((len_of word < at + length bytes) × (r ≡ answer.Range (len_of word)) × IsBack s h word es t)
    ⊎ ((at + length bytes ≤ len_of word)
    × (((v ≡ 2 ^ 64 - 1) × (r ≡ answer.Worn) × IsBack s h word es t)
    ⊎ ((v < 2 ^ 64 - 1) × (r ≡ answer.Version (v + 1))
    × IsRewritten s h word v at words bytes es t)))
