-- A swap-in as a step of the still desk: the reply, and every word afterwards.
use Rattle.std.specs.Prelude.{◌≡◌, ℕ, false, ◌*◌, List, Option, Some, length}
use Rattle.cb_class.specs.declared.class.Class.{Class}
use Rattle.cb_gf256.specs.Rows.{row_at}
use Rattle.cb_ptr.specs.declared.word.State.TheVariants as pointer
use Rattle.cb_ptr.specs.Word.{word_of, len_of}
use Rattle.cb_set.specs.SetState.{SetState, position_of}
use Rattle.cb_span.specs.Places.{slot_place}
use Rattle.cb_types.specs.declared.reply.Reply.{Reply}
use Rattle.cb_types.specs.declared.reply.Reply.TheVariants as answer
use Rattle.cb_world.specs.Memory.{put}
use Rattle.cb_world.specs.RowWords.{words_in}
use Rattle.cb_world.specs.Plain.{Words}
use Rattle.cb_world.specs.World.{word_at}
use Rattle.cb_world.specs.Sets.{set_in}
use Rattle.cb_world.specs.SetWord.{IsWordOf}
use Rattle.cb_world.specs.FarState.{FarState}
use Rattle.cb_world.specs.Fetched.{rows_needed}
use Rattle.cb_swapin.specs.Named.{NamesHandle, IsNamed}
use Rattle.cb_swapin.specs.SwapRule.{IsSwappedTo, swap_answer}

-- the word of an object that was brought in: here, not hot and without pins, with its length and
-- place
abbrev pub brought_word : ℕ → ℕ → ℕ
brought_word len place = word_of (record {
  state = pointer.Here;
  hot = false;
  pins = 0;
  len = len;
  place = place;
})

-- The objects of these slots are here, each at its slot of the span at the frame, and every other
-- pointer word and all version words are as they were. The words of the row stand in the frames from
-- that one on, and every other memory word is as it was.
pub record AreBroughtTo (x y : Words) (slots : List (Option ℕ)) (class : Class) (f : ℕ)
    (row : List ℕ) : Type 0 where
  pub settings : y.settings ≡ x.settings
  pub versions : y.versions ≡ x.versions
  pub memory : y.memory ≡ put x.memory (512 * f) (words_in row)
  pub count : length y.words ≡ length x.words
  pub here : (slot h : ℕ) → NamesHandle slots slot h
      → word_at y h ≡ brought_word (len_of (word_at x h)) (slot_place class f slot)
  pub others : (h : ℕ) → (IsNamed slots h → ⊥) → word_at y h ≡ word_at x h

-- The far state and the words once position p of the set was brought into the frames from this one
-- on, which took n rows: the set has a word, each such word has the same row at p, and that row
-- stands in the frames.
pub record IsSwapped (x y : Words) (far new : FarState) (id p : ℕ) (set : SetState) (f n : ℕ)
    : Type 0 where
  pub state : IsSwappedTo far new id p set f n
  pub rows : List (List ℕ)
  pub word : IsWordOf far.nodes far.members set rows
  pub one_row : (others : List (List ℕ)) → IsWordOf far.nodes far.members set others
      → row_at others p ≡ row_at rows p
  pub words : AreBroughtTo x y (position_of set p).slots state.class f (row_at rows p)

-- by the reply; a refusal changes nothing
abbrev pub BringsChange : ℕ → Words → Words → FarState → FarState → ℕ → ℕ → SetState → Reply → Type 0
BringsChange n x y far new id p set (answer.Swapped f) = IsSwapped x y far new id p set f n
BringsChange n x y far new id p set r = (y ≡ x) × (new ≡ far)

-- Bringing position p of the set of this number in leads from the words x and a far state to the
-- words y and another, with this reply, where it takes so many rows of each set.
pub record IsBringStep (rows : SetState → ℕ) (x y : Words) (far new : FarState) (id p : ℕ)
    (r : Reply) : Type 0 where
  pub set : SetState
  pub there : set_in far.sets id ≡ Some set
  pub reply : r ≡ swap_answer far id set
  pub change : BringsChange (rows set) x y far new id p set r

-- a swap-in gives the rows out that are needed for the position's
abbrev pub SwapChange : Words → Words → FarState → FarState → ℕ → ℕ → SetState → Reply → Type 0
SwapChange x y far new id p set r =
    BringsChange (rows_needed far.members set p) x y far new id p set r

-- A swap-in of position p of the set of this number leads from the words x and a far state to the
-- words y and another, with this reply.
abbrev pub IsSwapStep : Words → Words → FarState → FarState → ℕ → ℕ → Reply → Type 0
IsSwapStep x y far new id p r =
    IsBringStep (λ set. rows_needed far.members set p) x y far new id p r
