-- What the own lines of lanes are answered beside other lanes, once all answers of the script are
-- known.
use Rattle.std.specs.Prelude.{◌≡◌, ℕ, nat_eq, List, [], ◌++◌, map}
use Rattle.std.specs.List.{filter}
use Rattle.cb_types.specs.declared.answer.Answer.{Answer}
use Rattle.cb_script.specs.declared.script.Line.{Line}
use Rattle.cb_script.specs.Form.{AreLines}
use Rattle.cb_rule.specs.Lists.{Has}
use Rattle.cb_lanes.specs.Alone.{HasOwnLines, fresh_lane}
use Rattle.cb_lanes.specs.AloneUntil.{KeepAloneUntil}
use Rattle.cb_lanes.specs.Asked.{asked}
use Rattle.cb_app.specs.ByLane.{by_lane}

-- the answers to this lane, in order
abbrev pub to_lane : ℕ → List Answer → List Answer
to_lane lane answers = filter (λ a. nat_eq a.lane.n lane) answers

-- each of the first answers is one of the second
abbrev pub AreAmong : List Answer → List Answer → Type 0
AreAmong xs ys = (a : Answer) → Has a xs → Has a ys

-- these are all answers of a script
pub record AreAllOf (nodes : ℕ) (lines : List Line) (answers : List Answer) : Type 0 where
  pub script : AreLines nodes [] lines
  pub lines_are : map asked answers ≡ by_lane lines

-- The own lines of each lane all of whose answers stand among these, after those given, are
-- answered as if the lane were alone, once all answers of the script are known.
abbrev pub KeepAloneWith : ℕ → List Answer → List Answer → Type 0
KeepAloneWith nodes given answers = (lines : List Line) (all : List Answer)
    → AreAllOf nodes lines all → AreAmong (given ++ answers) all
    → (lane : ℕ) → HasOwnLines lines lane → to_lane lane answers ≡ to_lane lane all
    → KeepAloneUntil lines lane fresh_lane answers
