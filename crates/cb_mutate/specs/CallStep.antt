-- The calls on objects as steps of the still desk: the reply, and every word afterwards.
use Rattle.std.specs.Prelude.{◌≡◌, ℕ, ◌==◌, List, length, slice_set, if◌then◌else◌}
use Rattle.cb_ptr.specs.Word.{state_of, place_of, pins_of}
use Rattle.cb_types.specs.declared.reply.Reply.{Reply}
use Rattle.cb_types.specs.declared.reply.Reply.TheVariants as answer
use Rattle.cb_world.specs.Memory.{put}
use Rattle.cb_world.specs.Write.{IsWrite}
use Rattle.cb_world.specs.Plain.{Words}
use Rattle.cb_world.specs.World.{word_at}
use Rattle.cb_world.specs.StillWords.{stamp_at, contents_at, with_hot}
use Rattle.cb_world.specs.Pinned.{with_word}
use Rattle.cb_world.specs.FarState.{FarState}
use Rattle.cb_mutate.specs.FreeRule.{LeavesPlace}
use Rattle.cb_mutate.specs.StillReplies.{read_reply, write_reply, free_reply}
use Rattle.cb_mutate.specs.Wordwise.{IsWordwise}

-- what a read leaves: an object without pins is hot
abbrev pub with_seen : Words → ℕ → Words
with_seen x h = with_word x h
    (if pins_of (word_at x h) == 0 then with_hot (word_at x h) else word_at x h)

abbrev pub ReadChange : Reply → Words → Words → ℕ → Type 0
ReadChange (answer.Bytes version bytes) x y h = y ≡ with_seen x h
ReadChange r x y h = y ≡ x

-- A read of h leads from the words x to the words y.
pub record IsReadStep (x y : Words) (h : ℕ) (r : Reply) : Type 0 where
  pub reply : r ≡ read_reply (word_at x h) (stamp_at x h) (contents_at x h)
  pub change : ReadChange r x y h

-- the object has the version n and these memory words, and is hot
abbrev pub with_contents : Words → ℕ → ℕ → List ℕ → Words
with_contents x h n words = record (with_word x h (with_hot (word_at x h))) {
  versions = slice_set x.versions h n;
  memory = put x.memory (place_of (word_at x h)) words;
}

-- the object has the version n, and its memory words with one write, which stores those that it
-- reaches as words of 64 bits and leaves the others
pub record IsOverwritten (x y : Words) (h n at : ℕ) (bytes : List ℕ) : Type 0 where
  pub words : List ℕ
  pub write : IsWrite (contents_at x h) at bytes words
  pub wordwise : IsWordwise (contents_at x h) at (length bytes) words
  pub left : y ≡ with_contents x h n words

abbrev pub WriteChange : Reply → Words → Words → ℕ → ℕ → List ℕ → Type 0
WriteChange (answer.Version n) x y h at bytes = IsOverwritten x y h n at bytes
WriteChange r x y h at bytes = y ≡ x

-- A write to h, of bytes from the byte number `at` on, leads from the words x to the words y.
pub record IsWriteStep (x y : Words) (h at : ℕ) (bytes : List ℕ) (r : Reply) : Type 0 where
  pub reply : r ≡ write_reply (word_at x h) (stamp_at x h) at (length bytes)
  pub change : WriteChange r x y h at bytes

-- the object has the version n and an empty word
abbrev pub with_freed : Words → ℕ → ℕ → Words
with_freed x h n = record (with_word x h 0) { versions = slice_set x.versions h n }

-- the object is freed at the version n, and leaves its slot, or its set where it is far
pub record IsTakenOut (x y : Words) (far new : FarState) (h n : ℕ) : Type 0 where
  pub left : y ≡ with_freed x h n
  pub leaves : LeavesPlace (state_of (word_at x h)) far new h

abbrev pub FreeChange : Reply → Words → Words → FarState → FarState → ℕ → Type 0
FreeChange (answer.Version n) x y far new h = IsTakenOut x y far new h n
FreeChange r x y far new h = (y ≡ x) × (new ≡ far)

-- A free of h leads from the words x and a far state to the words y and another.
pub record IsFreeStep (x y : Words) (far new : FarState) (h : ℕ) (r : Reply) : Type 0 where
  pub reply : r ≡ free_reply (word_at x h) (stamp_at x h)
  pub change : FreeChange r x y far new h
