-- What calls leave in the world of a runtime that was closed after them.
use Rattle.std.specs.Prelude.{◌≡◌, ℕ, ◌<◌, Bool, cond, List, length, Some, None}
use Rattle.cb_ptr.specs.declared.word.State.TheVariants as state
use Rattle.cb_ptr.specs.Word.{state_of}
use Rattle.cb_types.specs.declared.answer.Answer.{Answer}
use Rattle.cb_world.specs.declared.shown.Shown.{Shown}
use Rattle.cb_world.specs.Now.{Now, is_gone, now}
use Rattle.cb_world.specs.Now.Now.{never, freed, held, gone}
use Rattle.cb_world.specs.World.{IsKnown, WorldState, word_at}
use Rattle.cb_model.specs.declared.object.Object.TheVariants.{Held, Freed}
use Rattle.cb_model.specs.Now.{MapNow}
use Rattle.cb_model.specs.Called.{calls_of, history}
use Rattle.cb_model.specs.History.{left_by}

-- An object has what the calls on it left: the version and the bytes of the last entry of its
-- history, or the version at which it was freed. One that holds bytes is gone, at that version,
-- where it is lost; one without a call was never made.
abbrev pub now_left : Bool → MapNow → Now
now_left lost None = never
now_left lost (Some (Freed version)) = freed version
now_left lost (Some (Held version bytes)) = cond lost (gone version) (held version bytes)

-- So of each object of the world: its last complete contents are what its history leaves. It is
-- lost where the set of its home has lost more shards than it has parities, and gone is only what
-- is far.
pub record HasHistoryEnds (answers : List Answer) (w : WorldState) : Type 0 where
  pub shown : Shown
  pub known : IsKnown w.desk w.far shown
  pub last : (h : ℕ) → h < length w.desk.words
      → now shown w.far h ≡ now_left (is_gone w.far h) (left_by (history (calls_of answers) h))
  pub far : (h v : ℕ) → h < length w.desk.words → now shown w.far h ≡ gone v
      → state_of (word_at w.desk h) ≡ state.Far
