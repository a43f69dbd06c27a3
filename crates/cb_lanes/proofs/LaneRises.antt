-- A lane by itself: its calls are its own and rise from the record with which it started, which has
-- all that the record had of which it was split off.
use Rattle.std.proofs.Common.{◌≡◌, ℕ, List, [], ◌∷◌, ◌++◌, map, inl, inr, sym, ap, subst}
use Rattle.std.specs.List.{AllByRecursion}
use Rattle.cb_types.specs.declared.answer.Answer.{Answer}
use Rattle.cb_types.specs.declared.config.Config.{Config}
use Rattle.cb_world.specs.declared.entry.Entry.{Entry}
use Rattle.cb_rule.specs.declared.view.View.{View}
use Rattle.cb_rule.specs.Lists.{Has}
use Rattle.cb_rule.specs.RecordStands.{FreedIsLast}
use Rattle.cb_rule.specs.Records.{seen_of}
use Rattle.cb_rule.specs.Steps.{right_of}
use Rattle.cb_model.specs.Called.{Called, calls_behind}
use Rattle.cb_record.specs.Rises.{HasAllOf}
use Rattle.cb_record.proofs.Laws.{has_left, has_right}
use Rattle.cb_script.specs.declared.script.Line.{Line}
use Rattle.cb_lanes.specs.declared.body.Named.{Named}
use Rattle.cb_lanes.specs.Asked.{asked}
use Rattle.cb_lanes.specs.Bodies.{AreLinesOf, LaneGoes}
use Rattle.cb_lanes.specs.Rising.{LaneRises}
use Rattle.cb_lanes.proofs.LinesRise.{lane_rises}

-- ---- the calls are the lane's own
abbrev pub AreOfLane : ℕ → List Answer → Type 0
AreOfLane lane answers = AllByRecursion (λ (a : Answer). a.lane.n ≡ lane) answers

asked_of : (nodes lane : ℕ) (answers : List Answer) → AreLinesOf nodes lane (map asked answers)
    → AreOfLane lane answers
asked_of nodes lane [] are = tt
asked_of nodes lane (a ∷ answers) are = (are.0.0, asked_of nodes lane answers are.1)

pub answers_of : (nodes lane : ℕ) (lines : List Line) (answers : List Answer)
    → AreLinesOf nodes lane lines → map asked answers ≡ lines → AreOfLane lane answers
answers_of nodes lane lines answers are is =
    asked_of nodes lane answers (subst (AreLinesOf nodes lane) (sym is) are)

own_calls : (lane : ℕ) (before after : List Answer) → AreOfLane lane after
    → AllByRecursion (λ (call : Called). call.lane ≡ lane) (calls_behind before after)
own_calls lane before [] own = tt
own_calls lane before (a ∷ after) own = (own.0, own_calls lane (before ++ a ∷ []) after own.1)

-- they rise from the record at its start, where the record that the lane leaves is part of one in
-- which each freed version is the last
pub lane_alone : (c : Config) (names : List Named) (nodes lane : ℕ) (lines : List Line)
    (answers : List Answer) (v w all : View) → v.pins ≡ [] → LaneGoes c names v answers w
    → AreLinesOf nodes lane lines → map asked answers ≡ lines → HasAllOf w all → FreedIsLast all
    → LaneRises lane names answers v
lane_alone c names nodes lane lines answers v w all none
    (m, goes, left) are is more is_last given called =
    record {
      own = own_calls lane given answers (answers_of nodes lane lines answers are is);
      rises = lane_rises c names answers v m all none goes
          (subst (λ (z : View). HasAllOf z all) left more) is_last given called;
    }

-- ---- seats that are split
pub has_seen : (e : Entry) (es : List Entry) → Has e es → Has (seen_of e) (map seen_of es)
has_seen e [] has = absurd has
has_seen e (x ∷ es) (inl is) = inl (ap seen_of is)
has_seen e (x ∷ es) (inr has) = inr (has_seen e es has)

pub has_split : (given : ℕ) (v : View) → HasAllOf v (right_of given v)
has_split given v h n freed (inl x) = inr (
  seen_of x.0,
  has_left (seen_of x.0) (map seen_of (v.fresh ++ v.written)) v.seen
      (has_seen x.0 (v.fresh ++ v.written) (has_right x.0 v.fresh v.written x.1)),
  x.2,
  x.3,
  x.4,
)
has_split given v h n freed (inr x) =
    inr (x.0, has_right x.0 (map seen_of (v.fresh ++ v.written)) v.seen x.1, x.2, x.3, x.4)
