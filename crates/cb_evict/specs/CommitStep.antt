-- A commit as a step of the still desk: the reply, every word and the far state afterwards.
use Rattle.std.specs.Prelude.{◌≡◌, All, List}
use Rattle.cb_ptr.specs.Steps.{IsFarWord}
use Rattle.cb_ptr.specs.Word.{len_of}
use Rattle.cb_types.specs.declared.reply.Reply.{Reply}
use Rattle.cb_world.specs.declared.leaving.Former.{Former}
use Rattle.cb_world.specs.FarState.{FarState}
use Rattle.cb_world.specs.Plain.{Words}
use Rattle.cb_world.specs.World.{word_at}
use Rattle.cb_evict.specs.AbortRule.{HasNoBatch}
use Rattle.cb_evict.specs.ChangesWords.{ChangesWords}
use Rattle.cb_evict.specs.Claims.{IsNone}
use Rattle.cb_evict.specs.CommitRule.{HasShort, HasCommitted}

-- The words of these objects are far, with their lengths alone.
abbrev pub ArePutAway : Words → Words → List Former → Type 0
ArePutAway x y formers = ChangesWords x y
    (All (λ former. IsFarWord (len_of former.word) (word_at y former.handle)) formers)
    (IsNone formers)

-- A commit leads from the words x and a far state to the words y and another. Where no batch is
-- leaving, and where a position of it waits, nothing changes; else the batch is committed, and the
-- words of its objects are far.
pub data IsCommitStep (x y : Words) (far new : FarState) (r : Reply) : Type 0 where
  no_batch : HasNoBatch far new r → y ≡ x → IsCommitStep x y far new r
  short : HasShort far new r → y ≡ x → IsCommitStep x y far new r
  committed : (c : HasCommitted far new r) → ArePutAway x y c.batch.words
      → IsCommitStep x y far new r
