-- An object that the caller has claimed, and what is known once it is settled again.
use Rattle.std.specs.Prelude.{◌≡◌, ℕ, Bool, ◌+◌, ◌^◌, ◌<◌, ◌≤◌, List, length, slice_set}
use Rattle.cb_types.specs.Config.{most_bytes}
use Rattle.cb_ptr.specs.Word.{len_of, place_of}
use Rattle.cb_world.specs.declared.object.Object.TheVariants as is
use Rattle.cb_world.specs.declared.shown.Shown.{Shown}
use Rattle.cb_world.specs.Memory.{window, words_for}
use Rattle.cb_world.specs.Shown.{Covers, Owns, MayLie, object_at, version_at}
use Rattle.cb_world.specs.Grasped.{IsFree}

-- the caller owns the words of an object of so many bytes at this place
abbrev pub OwnsAll : Shown → ℕ → ℕ → Type 0
OwnsAll s place len = (p : ℕ) → Covers place len p → Owns s p

-- the object was claimed at this word, and has this version and these words
pub record IsClaimedAt (s : Shown) (h word v : ℕ) (words : List ℕ) : Type 0 where
  pub object : object_at s h ≡ is.Claimed (len_of word) (place_of word) v words
  pub free : IsFree word
  pub below : word < 2 ^ 53
  pub version : version_at s h ≡ v
  pub contents : window s.memory (place_of word) (words_for (len_of word)) ≡ words
  pub owned : OwnsAll s (place_of word) (len_of word)
  pub alone : (p : ℕ) → Covers (place_of word) (len_of word) p → MayLie s h p
  pub within : place_of word + words_for (len_of word) ≤ length s.memory
  pub short : len_of word ≤ most_bytes
  pub handle : h < length s.objects
  pub stamp : h < length s.versions

-- the object is settled where it was
abbrev pub with_settled : Shown → ℕ → ℕ → Bool → Shown
with_settled s h word hot = record s {
  objects = slice_set s.objects h (is.Here (len_of word) (place_of word));
  hots = slice_set s.hots h hot;
}
