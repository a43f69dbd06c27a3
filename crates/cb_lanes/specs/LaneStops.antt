-- What a lane that runs beside others leaves where it found no memory.
use Rattle.std.specs.Prelude.{◌≡◌, ◌⊎◌, ℕ, List, [], ◌∷◌, ◌++◌, map}
use Rattle.std.specs.List.{AllByRecursion}
use Rattle.cb_types.specs.declared.answer.Answer.{Answer}
use Rattle.cb_types.specs.declared.config.Config.{Config}
use Rattle.cb_types.specs.Requests.{name_of}
use Rattle.cb_script.specs.declared.script.Line.{Line}
use Rattle.cb_rule.specs.declared.turn.Turn.{Turn}
use Rattle.cb_rule.specs.declared.view.Look.{Look}
use Rattle.cb_rule.specs.declared.view.View.{View}
use Rattle.cb_rule.specs.Lists.{Each}
use Rattle.cb_record.specs.Deeds.{deed, happened}
use Rattle.cb_record.specs.Parts.{Grows, nothing_more}
use Rattle.cb_shared.specs.Joining.{unpinned_all}
use Rattle.cb_lanes.specs.declared.body.Named.{Named}
use Rattle.cb_lanes.specs.AloneUntil.{LaneKeepsAlone}
use Rattle.cb_lanes.specs.Asked.{HasLineReply, asked}
use Rattle.cb_lanes.specs.Bodies.{AddsBacked, IsFront, LinesGo, handle_behind}
use Rattle.cb_lanes.specs.LastTries.{HasLastTry}
use Rattle.cb_lanes.specs.Passing.{goes_in}
use Rattle.cb_lanes.specs.Rising.{LaneRises}
use Rattle.cb_lanes.specs.Scoped.{LaneScoped}
use Rattle.cb_lanes.specs.Stopping.{LineStops, stops_in}

-- nothing more was asked, or by the line after the answered ones, which found no memory
abbrev pub NextStops : Config → List Named → List Line → List Answer → View → View → Type 0
NextStops c names lines answers v w = (w ≡ v)
    ⊎ ((next : Line) × (later : List Line) × (lines ≡ map asked answers ++ next ∷ later)
    × LineStops (stops_in c) (handle_behind names answers (name_of next.request)) next.request v w)

-- Lines were answered, one after the other, and what was asked then found no memory.
pub record LinesStop (c : Config) (names : List Named) (lines : List Line) (v : View)
    (answers : List Answer) (w : View) : Type 0 where
  pub behind : View
  pub goes : LinesGo (goes_in c) names [] v answers behind
  pub stops : NextStops c names lines answers behind w

-- The record grew by looks and turns alone: nothing was written, read, peeked or pinned, no object
-- was made, and no node crashed or joined.
pub record AddsIdly (v w : View) : Type 0 where
  pub looks : List Look
  pub turns : List Turn
  pub idle : Each (λ (t : Turn). happened (deed t) ≡ []) turns
  pub grows : Grows v (record nothing_more { looks = looks; turns = turns }) w

-- A lane found no memory, and gave its pins back. The lines before were answered as those of a lane
-- that ends with them: so are the replies, and what they tell beside the record that such a lane
-- leaves. The line that stopped added no more than looks and turns to it.
pub record LaneStops (first : ℕ) (c : Config) (lane : ℕ) (names : List Named) (lines : List Line)
    (v : View) (answers : List Answer) (w : View) : Type 0 where
  pub front : IsFront (map asked answers) lines
  pub answered : AllByRecursion HasLineReply answers
  pub last : AllByRecursion HasLastTry answers
  pub between : View
  pub lines_stop : LinesStop c names lines v answers between
  pub left : w ≡ unpinned_all between
  pub part : AddsBacked names answers v (unpinned_all lines_stop.behind)
  pub rises : LaneRises lane names answers v
  pub scoped : LaneScoped lane names answers
  pub alone : first ≡ 1 → v.written ≡ []
      → LaneKeepsAlone c.nodes lane names (map asked answers) answers
  pub adds : AddsIdly (unpinned_all lines_stop.behind) w
