-- The rule of a swap-in.
use Rattle.std.specs.Prelude.{◌≡◌, ℕ, List, [], Option, None, Some, length, if◌then◌else◌, slice_set}
use Rattle.cb_class.specs.declared.class.Class.{Class}
use Rattle.cb_class.specs.Class.{IsClass, pages_of, slots_of}
use Rattle.cb_frame.specs.FreeFrames.{with_run_taken}
use Rattle.cb_frame.specs.Runs.{least_run}
use Rattle.cb_span.specs.declared.temp.Temp.TheVariants.{Hot}
use Rattle.cb_span.specs.Contents.{span_of}
use Rattle.cb_set.specs.SetState.{SetState, dead_position, position_of, with_position}
use Rattle.cb_set.specs.Lost.{lost}
use Rattle.cb_types.specs.declared.reply.Reply.{Reply}
use Rattle.cb_types.specs.declared.reply.Reply.TheVariants as answer
use Rattle.cb_world.specs.declared.access.Access.{Access}
use Rattle.cb_world.specs.Sets.{set_in}
use Rattle.cb_world.specs.SetWord.{is_broken}
use Rattle.cb_world.specs.FarState.{FarState}
use Rattle.cb_world.specs.Fetched.{rows_needed, with_rows_given}
use Rattle.cb_world.specs.LeftOver.{nodes_left, sets_left}
use Rattle.cb_swapin.specs.Named.{AreCleared}
use Rattle.cb_swapin.specs.Brings.{BringsSlots}

-- the least run of free frames that the set's spans fit is taken, if there is one
abbrev pub frame_answer : Option ℕ → Reply
frame_answer None = answer.NoFrame
frame_answer (Some f) = answer.Swapped f

-- what a swap-in of the set is answered: unavailable where it has lost more shards than it has
-- parities, with all that it lost
abbrev pub swap_answer : FarState → ℕ → SetState → Reply
swap_answer far id set =
    if is_broken far.members set
    then answer.Unavailable (record { n = id }) (lost far.members set.shards)
    else frame_answer (least_run far.frames set.pages)

-- The far state once position p of the set was brought into the frames from this one on, as many
-- as the set's spans have: they are taken, and have the hot span of the position's slots, whose
-- count tells their class with that length; the objects have no home; the rows that were needed
-- were given out, n of them; the position is dead, and a set with no live position is dropped with
-- its rows. All else is as it was.
pub record IsSwappedTo (far new : FarState) (id p : ℕ) (set : SetState) (f n : ℕ) : Type 0 where
  pub class : Class
  pub in_table : IsClass class
  pub paged : pages_of class ≡ set.pages
  pub sized : length (position_of set p).slots ≡ slots_of class
  pub frames : new.frames ≡ with_run_taken far.frames f set.pages
  pub spans : new.spans
      ≡ slice_set far.spans f (Some (span_of class Hot (position_of set p).slots))
  pub homes : AreCleared (position_of set p).slots far.homes new.homes
  pub sets : new.sets ≡ sets_left far.sets id (with_position set p dead_position)
  pub nodes : new.nodes
      ≡ nodes_left (with_rows_given far.nodes n) (with_position set p dead_position)
  pub rest : new ≡ record far {
    frames = new.frames;
    spans = new.spans;
    homes = new.homes;
    sets = new.sets;
    nodes = new.nodes;
  }

-- The far state after a position was brought in with this reply, and its events, where that takes n
-- rows; a refusal changes nothing.
abbrev pub BringsFar : ℕ → FarState → FarState → ℕ → ℕ → SetState → List Access → Reply → Type 0
BringsFar n far new id p set es (answer.Swapped f) = IsSwappedTo far new id p set f n
    × BringsSlots (position_of set p).slots f set.pages es
BringsFar n far new id p set es _ = (new ≡ far) × (es ≡ [])

-- The reply of bringing position p of the set of a number in, and the far state after it, where
-- that takes so many rows of each set.
pub record BringsRule (rows : SetState → ℕ) (id p : ℕ) (far new : FarState) (r : Reply)
    (es : List Access) : Type 0 where
  pub set : SetState
  pub there : set_in far.sets id ≡ Some set
  pub reply : r ≡ swap_answer far id set
  pub state : BringsFar (rows set) far new id p set es r

-- a swap-in gives the rows out that are needed for the position's
abbrev pub SwapFar : FarState → FarState → ℕ → ℕ → SetState → List Access → Reply → Type 0
SwapFar far new id p set es r = BringsFar (rows_needed far.members set p) far new id p set es r

-- the reply of a swap-in of position p of the set of a number, and the far state after it
abbrev pub SwapRule : ℕ → ℕ → FarState → FarState → Reply → List Access → Type 0
SwapRule id p far new r es = BringsRule (λ set. rows_needed far.members set p) id p far new r es
