-- How a read of an object that is here ends.
use Rattle.std.specs.Prelude.{◌≡◌, ℕ, true, ◌+◌, ◌≤◌, List, []}
use Rattle.cb_types.specs.Config.{most_bytes}
use Rattle.cb_ptr.specs.Word.{len_of, place_of}
use Rattle.cb_types.specs.declared.reply.Reply.{Reply}
use Rattle.cb_types.specs.declared.reply.Reply.TheVariants as answer
use Rattle.cb_world.specs.declared.access.Access.{Access}
use Rattle.cb_world.specs.declared.shown.Shown.{Shown}
use Rattle.cb_world.specs.Memory.{words_for, bytes_in}
use Rattle.cb_world.specs.Reads.{AreReads}
use Rattle.cb_world.specs.Touches.{Touches}
use Rattle.cb_world.specs.Written.{Writes}
use Rattle.cb_world.specs.Claimed.{with_settled}
use Rattle.cb_mutate.specs.ReadRule.{ShowsPinned}

-- a claimed object was read and settled hot
pub record ReadEnds (h word : ℕ) (reply : Reply) (es : List Access) (s : Shown) (v : ℕ)
    (words : List ℕ) (t : Shown) : Type 0 where
  pub shown : reply ≡ answer.Bytes v (bytes_in words (len_of word))
  pub settled : t ≡ with_settled s h word true
  pub nothing : Writes es s []

-- an object with pins was read as it stands
pub record ReadsPinned (runs : List Access → Type 0) (h word : ℕ) (reply : Reply) : Type 0 where
  pub events : List Access
  pub ran : runs events
  pub reads : AreReads h events
  pub touches : Touches h (place_of word) (len_of word) events
  pub shown : ShowsPinned h events reply word

-- the words of the object at this word lie in memory
pub record LiesInMemory (word frames_words : ℕ) : Type 0 where
  pub short : len_of word ≤ most_bytes
  pub inside : place_of word + words_for (len_of word) ≤ frames_words
