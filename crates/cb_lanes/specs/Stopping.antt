-- What a line of a lane beside others leaves that found no memory.
use Rattle.std.specs.Prelude.{◌≡◌, ◌⊎◌, ℕ, Option}
use Rattle.cb_ptr.specs.declared.word.State.TheVariants as state
use Rattle.cb_ptr.specs.Word.{state_of}
use Rattle.cb_types.specs.declared.config.Config.{Config}
use Rattle.cb_types.specs.declared.job.Job.{Job}
use Rattle.cb_types.specs.declared.job.Job.TheVariants as job
use Rattle.cb_types.specs.declared.reply.Reply.TheVariants as answer
use Rattle.cb_types.specs.declared.request.Request.{Request}
use Rattle.cb_rule.specs.declared.view.View.{View}
use Rattle.cb_rule.specs.Steps.{with_look}
use Rattle.cb_shared.specs.Calls.{AtNone, Brings, ReadStops, StopsBy, TurnLacks, TurnStops}
use Rattle.cb_shared.specs.Calls.{WriteStops}
use Rattle.cb_shared.specs.Fetching.{AreBringing, GetsTurns}
use Rattle.cb_lanes.specs.LineGoes.{Ask, Calls, Goes, Leaves, LineGoes, ObjectGoes, Peeks, Pins}
use Rattle.cb_lanes.specs.LineGoes.{Unpins}
use Rattle.cb_lanes.specs.Passing.{PinsInVain}

-- a look that found the object far, and turns that were to bring it in, where there was no memory
pub record BringsNot (c : Config) (h : ℕ) (v w : View) : Type 0 where
  pub word : ℕ
  pub away : state_of word ≡ state.Far
  pub lacks : StopsBy c AtNone (Brings h) (with_look h word v) w

-- a pin: tries that came to nothing, and then one that ends so
pub record PinStops (c : Config) (h : ℕ) (v w : View) : Type 0 where
  pub between : View
  pub in_vain : PinsInVain c h v between
  pub lacks : BringsNot c h between w

-- a call that found no memory: every job but those of the calls above is one turn
abbrev pub CallStops : Config → Job → View → View → Type 0
CallStops c (job.Make bytes) v w = TurnStops c (job.Make bytes) v w
CallStops c (job.Read handle) v w = ReadStops c handle.n v w
CallStops c (job.Write handle at bytes) v w = WriteStops c handle.n at bytes v w
CallStops c (job.Free handle) v w = TurnStops c (job.Free handle) v w
CallStops c j v w = TurnLacks c j v w

-- what is asked of whatever answers, and found no memory, leads from one state to another
abbrev pub Stops : Type 0 → Type 1
Stops A = Ask → A → A → Type 0

-- what is asked of a pass: the turns of a pin come in their order; a peek changes nothing, and the
-- end of a pin takes no memory
abbrev pub stops_in : Config → Stops View
stops_in c (Calls j) v w = CallStops c j v w
stops_in c (Pins h) v w = PinStops c h v w × GetsTurns (AreBringing h) v w
stops_in c (Peeks h) v w = w ≡ v
stops_in c (Unpins h) v w = ⊥
stops_in c Leaves v w = ⊥

module _ {A : Type 0} where
  -- there was no memory to ask it, or it was asked and stopped so
  abbrev pub AskStops : Stops A → Ask → A → A → Type 0
  AskStops stops ask a b = (b ≡ a) ⊎ stops ask a b

  -- what it comes to, without a reply
  abbrev pub asked_or_not : Stops A → Goes A
  asked_or_not stops ask a r b = AskStops stops ask a b

  -- A line on an object that found no memory: one whose name has no handle asks for nothing, and
  -- changes nothing.
  abbrev pub ObjectStops : Stops A → Option ℕ → Request → A → A → Type 0
  ObjectStops stops handle request a b =
      ObjectGoes (asked_or_not stops) handle request a answer.Unmade b

  -- and any line
  abbrev pub LineStops : Stops A → Option ℕ → Request → A → A → Type 0
  LineStops stops handle request a b =
      LineGoes (asked_or_not stops) handle request a answer.Unmade b
