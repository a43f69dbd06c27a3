-- An abort as a step of the still desk: the reply, every word and the far state afterwards.
use Rattle.std.specs.Prelude.{◌≡◌, All, List}
use Rattle.cb_types.specs.declared.reply.Reply.{Reply}
use Rattle.cb_world.specs.declared.leaving.Former.{Former}
use Rattle.cb_world.specs.FarState.{FarState}
use Rattle.cb_world.specs.Plain.{Words}
use Rattle.cb_world.specs.World.{word_at}
use Rattle.cb_evict.specs.AbortRule.{HasNoBatch, HasGivenUp}
use Rattle.cb_evict.specs.ChangesWords.{ChangesWords}
use Rattle.cb_evict.specs.Claims.{IsNone}

-- The words of these objects are the noted ones.
abbrev pub ArePutBack : Words → Words → List Former → Type 0
ArePutBack x y formers = ChangesWords x y
    (All (λ former. word_at y former.handle ≡ former.word) formers) (IsNone formers)

-- An abort leads from the words x and a far state to the words y and another. Where no batch is
-- leaving nothing changes; else the batch is given up, and the words of its objects are those of
-- before the begin.
pub data IsAbortStep (x y : Words) (far new : FarState) (r : Reply) : Type 0 where
  no_batch : HasNoBatch far new r → y ≡ x → IsAbortStep x y far new r
  given_up : (g : HasGivenUp far new r) → ArePutBack x y g.batch.words → IsAbortStep x y far new r
