-- A begin or a gather as a step of the still desk: the reply, every word and the far state
-- afterwards.
use Rattle.std.specs.Prelude.{◌≡◌, ℕ, ◌+◌, ◌*◌, ◌≤◌, ◌++◌, Bool, true, false, List, None, Some, All, length, map, take}
use Rattle.cb_ptr.specs.Steps.{Claims}
use Rattle.cb_types.specs.declared.reply.Reply.{Reply}
use Rattle.cb_types.specs.declared.reply.Reply.TheVariants as answer
use Rattle.cb_world.specs.declared.leaving.Former.{Former}
use Rattle.cb_world.specs.Choices.{room_count}
use Rattle.cb_world.specs.FarState.{FarState}
use Rattle.cb_world.specs.Leaving.{LeavingState}
use Rattle.cb_world.specs.Memory.{window}
use Rattle.cb_world.specs.Plain.{Words}
use Rattle.cb_world.specs.RowWords.{row_of}
use Rattle.cb_world.specs.SetWord.{IsSpanWord}
use Rattle.cb_world.specs.World.{word_at}
use Rattle.cb_evict.specs.ChangesWords.{ChangesWords}
use Rattle.cb_evict.specs.Claims.{AreApart}
use Rattle.cb_evict.specs.Claiming.{AreOf}
use Rattle.cb_evict.specs.Looking.{IsIn}
use Rattle.cb_evict.specs.Order.{noted_of, objects_of}
use Rattle.cb_evict.specs.EvictRule.{HasFewSpans, HasFewNodes}
use Rattle.cb_evict.specs.EvictStep.{loose_frames}
use Rattle.cb_evict.specs.BeginRule.{no_parities, with_batch}
use Rattle.cb_evict.specs.Lengths.{batch_pages, loose_of}
use Rattle.cb_evict.specs.Loading.{AreOfLength}

-- the rows of the spans in some frames, of so many pages each: the bytes of their memory words
abbrev pub frame_rows : Words → ℕ → List ℕ → List (List ℕ)
frame_rows x pages frames =
    map (λ f. row_of (window x.memory (512 * f) (512 * pages))) frames

-- The objects of the spans in these frames are claimed: each word is as it was, and Moving.
abbrev pub AreSpansClaimed : Words → Words → FarState → List ℕ → Type 0
AreSpansClaimed x y far frames = ChangesWords x y
    ((h : ℕ) → IsIn far.spans frames h → Claims (word_at x h) (word_at y h))
    (λ h. ¬ (IsIn far.spans frames h))

-- The spans in these frames, of one length, are leaving from here: the words of their objects are
-- noted, each once, in order of frame and slot, and the parities, where they are made, are those of
-- the memory of the frames. Nothing else of the far state changed, and of the words those of the
-- objects alone.
pub record IsBegunTo (x y : Words) (far new : FarState) (made : Bool) (frames : List ℕ)
    : Type 0 where
  pub pages : ℕ
  pub long : AreOfLength far.spans pages frames
  pub words : List Former
  pub parities : List (List ℕ)
  pub of : AreOf (IsIn far.spans frames) words
  pub order : noted_of words ≡ objects_of far.spans frames
  pub each_once : AreApart words
  pub noted : All (λ former. former.word ≡ word_at x former.handle) words
  pub count : length parities ≡ far.code.r
  pub word : made ≡ true
      → IsSpanWord pages far.code.k far.code.r (frame_rows x pages frames ++ parities)
  pub bare : made ≡ false → parities ≡ no_parities far.code.r
  pub state : new ≡ with_batch far pages frames words made parities
  pub held : AreSpansClaimed x y far frames

-- enough spans of a length are loose and enough nodes have room: of the greatest such length the
-- first k loose spans are leaving, and so much is so of their rows
pub record IsBatchMade (x y : Words) (far new : FarState) (made : Bool)
    (so : List (List ℕ) → Type 0) (r : Reply) : Type 0 where
  pub none : far.leaving ≡ None
  pub pages : ℕ
  pub longest : batch_pages far.code.k far.spans (loose_frames x far) ≡ Some pages
  pub room : far.code.k + far.code.r ≤ room_count far.nodes far.members
  pub reply : r ≡ answer.Batch (record { n = far.counts.sets })
  pub begun : IsBegunTo x y far new made
      (take far.code.k (loose_of far.spans pages (loose_frames x far)))
  pub given : so (frame_rows x begun.pages
      (take far.code.k (loose_of far.spans pages (loose_frames x far))))

-- A begin leads from the words x and a far state to the words y and another. It is refused where a
-- batch is leaving, then where of no length k spans are loose, then where fewer than k + r nodes have
-- room; a refusal changes nothing. Else of the greatest length that has so many the first k loose
-- spans are leaving, with parities that are made or not, and so much is so of their rows.
pub data BeginsTo (x y : Words) (far new : FarState) (made : Bool) (so : List (List ℕ) → Type 0)
    (r : Reply) : Type 0 where
  is_leaving : (batch : LeavingState) → far.leaving ≡ Some batch
      → r ≡ answer.Leaving (record { n = batch.set }) → new ≡ far → y ≡ x
      → BeginsTo x y far new made so r
  few_spans : far.leaving ≡ None → HasFewSpans far new r (loose_frames x far) → y ≡ x
      → BeginsTo x y far new made so r
  few_nodes : far.leaving ≡ None → HasFewNodes far new r (loose_frames x far) → y ≡ x
      → BeginsTo x y far new made so r
  begins : IsBatchMade x y far new made so r → BeginsTo x y far new made so r

-- a begin makes the parities
abbrev pub IsBeginStep : Words → Words → FarState → FarState → Reply → Type 0
IsBeginStep x y far new r = BeginsTo x y far new true (λ rows. Unit {0}) r
