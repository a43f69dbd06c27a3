-- What a turn for a line leaves, where the plain map is beside the world.
use Rattle.std.proofs.Common.{◌≡◌, ℕ, ◌+◌, ◌^◌, ◌<◌, ◌≤◌, List, length, None, Some, refl, arith}
use Rattle.cb_types.specs.declared.answer.Answer.{Answer}
use Rattle.cb_types.specs.declared.job.Job.{Job}
use Rattle.cb_types.specs.declared.reply.Reply.{Reply}
use Rattle.cb_model.specs.Called.{handle_for, called, calls_of}
use Rattle.cb_world.specs.declared.shown.Shown.{Shown}
use Rattle.cb_world.specs.OpenSteps.{NoneHolds}
use Rattle.cb_world.specs.World.{WorldState, IsSoundWorld}
use Rattle.cb_mutate.specs.MapCalls.{IsCallOn, IsRefusedMake}
use Rattle.cb_mutate.specs.MapBeside.{IsMapBeside}
use Rattle.cb_mutate.proofs.Laws.{FollowsMap, call_follows, refused_follows}
use Rattle.cb_core.specs.Step.{TurnStep}
use Rattle.cb_core.proofs.Laws.{turn_first, turn_turns}
use Rattle.cb_lanes.specs.Asked.{HasLineReply}

-- before a line and after it the world is sound, and the plain map is beside it before
pub record AroundLine (answers : List Answer) (w new : WorldState) : Type 0 where
  pub before : IsSoundWorld w
  pub then : IsSoundWorld new
  pub beside : IsMapBeside (calls_of answers) before.shown w.far

-- and there is a turn yet to make, and no seat holds the far lock
pub record Turning (answers : List Answer) (w new : WorldState) : Type 0 where
  pub before : IsSoundWorld w
  pub then : IsSoundWorld new
  pub few : w.far.counts.turns < 2 ^ 40
  pub lone : NoneHolds w.seats
  pub beside : IsMapBeside (calls_of answers) before.shown w.far

abbrev pub around : (answers : List Answer) (w new : WorldState) → Turning answers w new
    → AroundLine answers w new
around answers w new c = record { before = c.before; then = c.then; beside = c.beside }

-- after it: the answer is the map's and one of the line's
pub record LineGives (answers : List Answer) (a : Answer) (w new : WorldState) (t : Shown) : Type
    0 where
  pub follows : FollowsMap w.desk.settings.handles (calls_of answers)
      (called answers a) t w.far new.far
  pub reply : HasLineReply a
  pub first : new.far.first ≡ w.far.first
  pub turns : new.far.counts.turns ≤ w.far.counts.turns + 1

pub within : (w : WorldState) (h : ℕ) → IsSoundWorld w → h < w.desk.settings.handles
    → h < length w.desk.words
within w h sound below = let n = sound.known.sized.words in omega (arith, below, n)

-- by what the turn left of the map
pub goes_by : (answers : List Answer) (a : Answer) (w new : WorldState) (j : Job) (r : Reply)
    → (c : Turning answers w new) → TurnStep j w r new
    → FollowsMap w.desk.settings.handles (calls_of answers)
    (called answers a) c.then.shown w.far new.far
    → HasLineReply a → LineGives answers a w new c.then.shown
goes_by answers a w new j r c step follows reply = record {
  follows = follows;
  reply = reply;
  first = turn_first j w new r c.before c.few step;
  turns = omega (arith, turn_turns j w new r c.before c.few step);
}

-- a call on an object
pub call_goes : (answers : List Answer) (a : Answer) (w new : WorldState) (j : Job) (r : Reply)
    (h : ℕ)
    → (c : Turning answers w new) → TurnStep j w r new
    → IsCallOn w.desk.settings.handles c.before.shown c.then.shown w.far new.far h a.request a.reply
    → handle_for answers a.request a.reply ≡ Some h → HasLineReply a
    → LineGives answers a w new c.then.shown
call_goes answers a w new j r h c step call about reply =
    goes_by answers a w new j r c step
    (call_follows w.desk.settings.handles (calls_of answers) (called answers a) c.before.shown
    c.then.shown w.far new.far h a.request a.reply c.beside call
    (record { about = about; event = refl })) reply

-- an answer about no object
pub refused_goes : (answers : List Answer) (a : Answer) (w new : WorldState) (j : Job) (r : Reply)
    → (c : Turning answers w new) → TurnStep j w r new
    → IsRefusedMake w.desk.settings.handles c.before.shown c.then.shown w.far new.far a.request
    a.reply
    → handle_for answers a.request a.reply ≡ None → HasLineReply a
    → LineGives answers a w new c.then.shown
refused_goes answers a w new j r c step call about reply =
    goes_by answers a w new j r c step
    (refused_follows w.desk.settings.handles (calls_of answers) (called answers a) c.before.shown
    c.then.shown w.far new.far a.request a.reply c.beside call
    (record { about = about; event = refl })) reply
